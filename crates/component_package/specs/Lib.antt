pub mod packages
pub mod link
pub mod mote
pub mod Laws
