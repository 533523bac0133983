pub mod Positions
pub mod Joints
