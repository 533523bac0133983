pub mod Owning
pub mod Sending
pub mod Dirtying
pub mod Giving
pub mod Revoking
