pub mod Rules
pub mod Layers
