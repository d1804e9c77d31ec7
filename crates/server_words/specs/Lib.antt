pub mod Words
pub mod Offers
