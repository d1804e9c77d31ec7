mod Examples
pub mod Lists
pub mod Rooms
pub mod First
pub mod Places
pub mod Exports
pub mod Sorting
pub mod Clearing
pub mod Sound
pub mod Elements
pub mod Fields
pub mod Numbered
pub mod Whole
