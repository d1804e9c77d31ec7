pub mod Stored
pub mod Answers
pub mod Changes
pub mod Cursors
pub mod Walks
pub mod Records
pub mod Lookup
