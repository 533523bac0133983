pub mod Names
pub mod Tasks
pub mod Workload
