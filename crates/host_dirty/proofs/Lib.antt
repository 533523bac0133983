pub mod Changing
pub mod Filing
