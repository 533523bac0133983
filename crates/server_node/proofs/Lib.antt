pub mod Broken
pub mod Kept
pub mod Staying
pub mod Standing
pub mod Turns
pub mod Serving
