pub mod Shown
pub mod Worked
