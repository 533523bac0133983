pub mod Steps
pub mod Silence
pub mod Doing
pub mod Beginning
