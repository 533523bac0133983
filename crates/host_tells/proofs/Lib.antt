pub mod Room
pub mod Spelled
pub mod Fits
pub mod Speaking
pub mod Marking
pub mod Knowing
pub mod Placing
