pub mod Generator
pub mod Code
pub mod Between
pub mod Rows
pub mod Fit
