pub mod FirstLemmas
pub mod Lists
pub mod Sound
pub mod ObjectLemmas
pub mod WellFormedLemmas
