pub mod Meaning
pub mod Runs
pub mod Laws
pub mod Theory
pub mod Making
pub mod Verdicts
