pub mod Tested
pub mod Followed
pub mod Kept
pub mod Rowed
pub mod Advanced
pub mod Serves
pub mod Derived
pub mod Merely
