pub mod Parts
pub mod Pieces
pub mod Requests
pub mod Taken
pub mod Questions
pub mod Laws
