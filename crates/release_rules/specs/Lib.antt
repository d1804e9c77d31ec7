pub mod Deciding
pub mod Motes
pub mod Machine
pub mod Laws
