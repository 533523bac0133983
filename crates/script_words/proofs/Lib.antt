pub mod Splits
pub mod Spelled
pub mod Reading
mod Asking
mod Parts
