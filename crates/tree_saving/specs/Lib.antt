pub mod Unsaved
pub mod Stores
pub mod Saving
pub mod Laws
