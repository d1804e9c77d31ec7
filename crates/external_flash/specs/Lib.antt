pub mod Gates
pub mod Areas
pub mod Readers
