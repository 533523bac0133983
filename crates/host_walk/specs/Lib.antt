pub mod Views
pub mod Trying
pub mod Bytes
pub mod Walks
pub mod Marks
pub mod WalkLaws
