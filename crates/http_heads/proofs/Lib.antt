pub mod Once
pub mod Long
pub mod Pieces
pub mod Values
