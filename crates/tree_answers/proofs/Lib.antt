pub mod Mapped
pub mod Levels
pub mod Refusals
mod Reading
pub mod Totals
pub mod Resting
pub mod Places
pub mod Led
pub mod Followed
pub mod Inserted
pub mod AfterMove
pub mod Kept
pub mod Clones
pub mod Moves
pub mod Worked
mod Asked
