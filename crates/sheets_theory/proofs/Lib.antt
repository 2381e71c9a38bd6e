pub mod Lined
pub mod Exact
pub mod Back
pub mod Written
pub mod Going
pub mod Located
