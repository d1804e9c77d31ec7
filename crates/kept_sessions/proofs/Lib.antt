pub mod Lines
pub mod Rising
pub mod Injective
pub mod History
pub mod Kept
pub mod Sessions
pub mod Turns
pub mod Chains
