pub mod Became
pub mod Keeping
pub mod Scripts
