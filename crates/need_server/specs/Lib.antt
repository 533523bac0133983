pub mod Kept
pub mod Wants
pub mod Laws
pub mod Worked
