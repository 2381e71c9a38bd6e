pub mod Rowed
pub mod Freshness
pub mod Putting
pub mod Verdicts
pub mod Counting
