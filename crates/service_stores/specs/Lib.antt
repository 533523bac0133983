pub mod Laws
pub mod Starting
pub mod Steps
pub mod Reading
pub mod Stopping
pub mod Plans
