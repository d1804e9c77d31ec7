pub mod Tables
pub mod Change
pub mod Kept
pub mod View
