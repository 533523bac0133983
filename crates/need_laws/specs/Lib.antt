pub mod Known
pub mod Laws
pub mod Wanted
pub mod Idle
pub mod Uses
pub mod Decided
pub mod Keeps
