pub mod Models
pub mod Derivations
pub mod Serving
pub mod Advances
pub mod States
pub mod Lasting
pub mod Rows
