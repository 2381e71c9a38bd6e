pub mod Refusals
pub mod Moves
pub mod Words
pub mod Tables
pub mod Trees
pub mod Climbs
pub mod Projectivity
