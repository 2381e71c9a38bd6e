pub mod Calls
pub mod Written
