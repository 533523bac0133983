pub mod Gone
pub mod Unseen
pub mod Watching
