pub mod Steps
pub mod Limits
pub mod Walked
pub mod Ends
pub mod Taken
pub mod Refused
pub mod Texts
