pub mod Giving
pub mod Lengths
