pub mod Messages
pub mod Journals
pub mod Laws
