pub mod Outcome
pub mod Lines
pub mod Words
pub mod Reading
pub mod Spelling
pub mod Fields
pub mod Lists
pub mod Terms
