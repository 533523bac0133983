pub mod Nodes
pub mod Either
pub mod Lines
pub mod Keeping
