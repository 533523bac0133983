pub mod Parting
pub mod Staying
pub mod Finding
