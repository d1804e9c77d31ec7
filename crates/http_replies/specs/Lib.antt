pub mod Statuses
pub mod Replies
