pub mod Users
pub mod Working
