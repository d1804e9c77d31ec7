pub mod Faults
pub mod Numbers
pub mod Versions
pub mod Laws
