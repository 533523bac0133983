pub mod Asking
pub mod Fetching
pub mod Going
pub mod Claiming
