pub mod Drawing
pub mod Stepping
