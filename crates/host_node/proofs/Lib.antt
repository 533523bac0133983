pub mod Sites
pub mod Standing
pub mod Waiting
pub mod Doing
pub mod Turns
pub mod Calls
