pub mod Holding
pub mod Keys
pub mod Bytes
pub mod Parts
pub mod Files
pub mod Seen
pub mod CacheLaws
