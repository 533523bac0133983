pub mod Mapped
pub mod Giving
pub mod Steps
pub mod Goings
pub mod Boards
pub mod Turns
pub mod Waits
