pub mod Numbered
pub mod StoredLemmas
