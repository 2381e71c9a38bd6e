pub mod Said
pub mod Ways
pub mod Climbing
pub mod Projecting
pub mod Goodness
pub mod Joined
