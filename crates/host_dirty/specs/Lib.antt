pub mod Files
pub mod Filing
pub mod Dirtiness
pub mod FileLaws
