pub mod Window
pub mod Parts
pub mod Sets
