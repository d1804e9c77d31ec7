pub mod Index
pub mod Versions
pub mod Releases
pub mod Tables
pub mod Keeper
pub mod Memory
