pub mod Chains
pub mod Kept
pub mod Lawful
pub mod Defined
pub mod Back
pub mod Onward
pub mod Advised
pub mod Reached
