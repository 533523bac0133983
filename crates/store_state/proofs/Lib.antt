pub mod Decided
pub mod Mapped
pub mod Slots
