pub mod Stored
pub mod Laws
pub mod Tree
pub mod Stands
