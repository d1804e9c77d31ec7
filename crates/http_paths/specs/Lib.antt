pub mod Targets
pub mod Queries
pub mod Routes
pub mod Paths
