pub mod Update
pub mod Laws
pub mod Rows
