pub mod Spoken
pub mod Learning
pub mod Taking
pub mod Closing
pub mod Due
pub mod Running
