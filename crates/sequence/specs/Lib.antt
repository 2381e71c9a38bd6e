pub mod Pouches
pub mod Spending
pub mod Attending
