pub mod Entry
pub mod Half
pub mod Numbers
pub mod Pages
pub mod Places
pub mod Server
pub mod Superblock
pub mod Until
