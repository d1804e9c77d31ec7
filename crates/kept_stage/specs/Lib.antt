pub mod Windows
pub mod Staged
