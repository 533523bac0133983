pub mod Found
pub mod Covered
pub mod Symmetric
pub mod Wants
