pub mod File
pub mod Laws
pub mod Memory
pub mod Paste
pub mod Replay
pub mod Tearing
