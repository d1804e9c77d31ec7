pub mod SlotLemmas
pub mod Calls
pub mod SlotBytes
pub mod HeldLemmas
pub mod OpenLemmas
pub mod PartLemmas
pub mod ExportLemmas
