pub mod Configurations
pub mod Moves
pub mod Nivre
pub mod Advice
pub mod Classes
pub mod Viable
