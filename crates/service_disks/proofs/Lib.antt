pub mod Tried
pub mod Blank
pub mod Gate
pub mod Backing
pub mod Limits
pub mod Lists
pub mod Seated
