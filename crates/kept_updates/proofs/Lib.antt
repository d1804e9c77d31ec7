pub mod SpelledBytes
pub mod Deliveries
pub mod Pieces
pub mod Updates
mod Examples
