pub mod Rest
pub mod Waiting
pub mod Resting
pub mod Ended
pub mod Worked
