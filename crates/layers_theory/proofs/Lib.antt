pub mod Ruled
pub mod Layered
