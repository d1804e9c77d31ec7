pub mod Bridge
pub mod Takes
pub mod Closing
pub mod Opening
pub mod Finishing
pub mod Side
pub mod Writing
pub mod TakingIn
