pub mod Faults
pub mod Judging
pub mod Packages
pub mod Images
