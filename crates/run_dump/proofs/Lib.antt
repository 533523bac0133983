pub mod Sights
pub mod Counted
pub mod Servers
pub mod Bytes
pub mod Left
pub mod Shown
pub mod Worked
