mod Sent
mod Packages
mod Cases
pub mod Kept
mod Laws
mod Examples
