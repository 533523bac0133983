pub mod Labels
pub mod Starting
pub mod Judged
pub mod Marked
pub mod Owned
pub mod Replied
pub mod Backing
