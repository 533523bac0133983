pub mod Report
pub mod Text
pub mod Disks
pub mod Laws
