mod Examples
mod SetLemmas
mod Steps
mod Worlds
mod Rising
mod FrameLemmas
mod TailLemmas
