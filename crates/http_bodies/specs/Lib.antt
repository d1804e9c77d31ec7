pub mod Names
pub mod Json
pub mod Parts
pub mod Acknowledgement
pub mod Gives
pub mod Replies
