pub mod Sets
pub mod Hearing
pub mod MessageFrames
pub mod Causes
pub mod Tails
pub mod World
pub mod Laws
