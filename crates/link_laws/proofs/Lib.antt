pub mod Apart
pub mod Law
pub mod Listed
pub mod Table
pub mod Room
pub mod Own
pub mod Few
