pub mod Lists
pub mod Kept
pub mod Acks
pub mod Releases
pub mod Bytes
pub mod Named
pub mod Packages
pub mod Taken
pub mod Versions
pub mod Answers
pub mod Keys
pub mod Stays
pub mod Histories
pub mod Served
mod Worked
