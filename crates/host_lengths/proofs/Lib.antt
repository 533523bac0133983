pub mod Keyed
pub mod Noted
