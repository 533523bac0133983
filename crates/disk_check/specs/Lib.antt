pub mod Parts
pub mod Refused
pub mod Found
pub mod Front
