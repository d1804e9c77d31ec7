pub mod Kept
pub mod Steps
pub mod Programs
pub mod Rows
pub mod Runs
pub mod Slots
pub mod Motes
pub mod Formatted
pub mod Sets
pub mod Stands
pub mod Words
pub mod Invariant
mod WrongOrders
pub mod Standing
