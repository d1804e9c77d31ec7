-- Frames and answers, what a mote's flashes hold, the machine that it is, and the headline.
pub mod Frames
pub mod Lines
pub mod Page
pub mod Store
pub mod Sides
pub mod Sound
pub mod Machine
pub mod Headline
