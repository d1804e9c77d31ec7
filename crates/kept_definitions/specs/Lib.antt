pub mod Runs
pub mod Stored
pub mod Layouts
pub mod Kept
pub mod Sides
pub mod Sound
pub mod Machine
pub mod Headline
