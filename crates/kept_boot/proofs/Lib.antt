pub mod Copies
pub mod Wear
pub mod Fits
pub mod Bringing
pub mod Installing
