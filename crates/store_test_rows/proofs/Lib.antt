pub mod Staying
pub mod Leaving
