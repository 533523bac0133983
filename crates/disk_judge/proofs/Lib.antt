pub mod Marking
pub mod Reaching
pub mod Plain
pub mod Pushed
