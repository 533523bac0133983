pub mod Values
pub mod Parts
pub mod Calls
pub mod Objects
pub mod Messages
