pub mod Holds
pub mod Objects
