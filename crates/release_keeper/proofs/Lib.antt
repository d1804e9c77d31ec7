pub mod Index
pub mod Maps
pub mod Acks
pub mod Added
pub mod Begun
