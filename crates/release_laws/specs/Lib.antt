pub mod Steps
pub mod Posted
pub mod Keys
pub mod Stays
pub mod History
pub mod Served
pub mod Worked
