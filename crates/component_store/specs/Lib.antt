pub mod Slots
pub mod Pieces
pub mod Reader
pub mod Packages
pub mod Sets
