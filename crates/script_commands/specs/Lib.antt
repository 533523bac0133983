pub mod Parts
pub mod Plain
pub mod Told
pub mod Disks
pub mod Command
