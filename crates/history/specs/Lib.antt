pub mod Packing
pub mod Pushing
