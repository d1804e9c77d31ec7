pub mod List
pub mod Order
pub mod Written
pub mod Value
