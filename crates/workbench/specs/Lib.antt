pub mod Workbenches
pub mod Writing
