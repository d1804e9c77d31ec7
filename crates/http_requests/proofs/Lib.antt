pub mod Keys
pub mod Bodies
pub mod Rest
pub mod Agreement
