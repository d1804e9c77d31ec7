pub mod Heads
pub mod Read
pub mod Laws
pub mod Fields
pub mod Lengths
pub mod Found
