pub mod Sheets
pub mod Replays
pub mod RoundTrips
pub mod Lines
pub mod Replayed
