pub mod Spoken
pub mod Knows
