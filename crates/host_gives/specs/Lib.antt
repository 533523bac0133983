pub mod Counters
pub mod Giving
pub mod Slots
pub mod Named
pub mod Leavings
pub mod GiveLaws
