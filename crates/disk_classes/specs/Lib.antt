pub mod Classes
pub mod Commit
pub mod Faults
pub mod Joined
pub mod Laws
pub mod Notes
