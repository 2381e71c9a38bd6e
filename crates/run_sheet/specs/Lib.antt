pub mod Digits
pub mod Texts
pub mod Says
pub mod Headings
pub mod Played
