mod Asked
mod Places
mod Circles
mod Leading
mod Ends
mod Found
pub mod Cloned
pub mod Locks
pub mod Kept
pub mod Planned
