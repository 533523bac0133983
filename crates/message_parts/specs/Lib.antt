pub mod Spelled
pub mod Reading
pub mod Words
pub mod Tokens
pub mod Places
pub mod Access
pub mod Objects
pub mod Requests
