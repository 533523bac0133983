pub mod Follows
pub mod Hubs
pub mod Pendings
pub mod Ties
pub mod Turning
pub mod Waits
pub mod Laws
