pub mod Distinct
pub mod Stored
