pub mod Guides
pub mod Following
pub mod Viability
pub mod Building
pub mod Classes
