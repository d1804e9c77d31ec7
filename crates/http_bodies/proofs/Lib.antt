pub mod Reading
pub mod Members
pub mod Pairs
pub mod Allowed
pub mod Floats
