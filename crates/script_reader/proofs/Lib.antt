mod Rounds
mod Later
pub mod Ahead
pub mod Passes
pub mod Sound
pub mod Stuck
mod Least
