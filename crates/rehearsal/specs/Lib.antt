pub mod Lines
pub mod Words
pub mod Releases
pub mod Top
