pub mod Areas
pub mod GateLemmas
