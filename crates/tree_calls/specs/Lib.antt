pub mod Rosters
pub mod Limits
