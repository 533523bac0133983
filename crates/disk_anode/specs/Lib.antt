pub mod Anode
pub mod Changes
pub mod Faults
pub mod Node
pub mod Room
