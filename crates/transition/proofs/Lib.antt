pub mod Running
pub mod Forests
pub mod Ceilings
pub mod Whole
pub mod Made
