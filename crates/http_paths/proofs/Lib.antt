pub mod Added
pub mod Seeks
pub mod Texts
pub mod Asks
