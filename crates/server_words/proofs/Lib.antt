pub mod DefaultReads
pub mod Offered
