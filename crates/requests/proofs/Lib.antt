pub mod Lasting
pub mod Ticketed
pub mod Going
