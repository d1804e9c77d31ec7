pub mod Named
pub mod Different
pub mod Judged
pub mod KeptNumbers
pub mod Wanting
pub mod Sizes
