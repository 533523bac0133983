pub mod Batches
pub mod Doing
pub mod Soundly
