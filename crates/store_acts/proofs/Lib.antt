pub mod Limits
pub mod Next
pub mod Told
