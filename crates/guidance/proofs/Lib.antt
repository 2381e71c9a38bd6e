pub mod Followed
pub mod Viably
pub mod Compared
pub mod Turns
pub mod Classed
