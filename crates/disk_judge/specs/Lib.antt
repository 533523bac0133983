pub mod Metadata
pub mod Marks
pub mod Reach
pub mod Judged
