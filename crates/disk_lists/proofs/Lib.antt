pub mod Laid
pub mod Places
pub mod Kept
pub mod Adding
pub mod AclLaid
