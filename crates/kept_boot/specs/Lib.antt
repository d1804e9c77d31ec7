pub mod Boots
pub mod Bringing
