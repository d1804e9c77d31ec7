pub mod Different
