pub mod Faults
pub mod Slots
pub mod Placed
pub mod Linkable
