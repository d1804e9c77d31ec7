pub mod Motes
pub mod Once
