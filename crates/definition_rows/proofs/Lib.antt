pub mod Examples
pub mod MachineExamples
pub mod MachineRows
pub mod LinkRows
pub mod SoundRows
pub mod LineRows
pub mod LinkedRow
