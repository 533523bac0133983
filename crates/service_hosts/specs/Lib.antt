pub mod Homes
pub mod Nodes
pub mod Hosting
pub mod Runs
