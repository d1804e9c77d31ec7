pub mod Slots
pub mod Sets
pub mod Open
pub mod Records
pub mod Fields
pub mod Tables
