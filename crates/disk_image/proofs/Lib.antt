pub mod Words
pub mod Front
pub mod Joined
pub mod Places
pub mod Images
