pub mod Levels
mod Kept
mod Runs
pub mod Lines
pub mod Spelled
mod Losing
