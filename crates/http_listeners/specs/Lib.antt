pub mod Listener
pub mod Conns
pub mod Memory
