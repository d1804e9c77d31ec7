pub mod Chain
pub mod Gathered
pub mod Distinct
pub mod Linkable
