pub mod Samples
pub mod StoredRows
pub mod SlotRows
pub mod RunRows
pub mod SetRows
pub mod MachineRows
pub mod UpdateRows
