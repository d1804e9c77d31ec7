pub mod Responses
pub mod Due
pub mod Outcomes
pub mod Replies
pub mod Laws
