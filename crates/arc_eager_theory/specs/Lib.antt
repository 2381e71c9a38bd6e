pub mod Configurations
pub mod Advice
pub mod Moves
pub mod Nivre
pub mod Viable
pub mod Classes
