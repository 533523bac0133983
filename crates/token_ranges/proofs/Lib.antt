pub mod Apart
pub mod Covering
pub mod Cutting
pub mod Joining
pub mod Missing
