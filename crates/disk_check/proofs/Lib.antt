pub mod Read
pub mod Looking
pub mod Fronts
pub mod Threads
pub mod Refusing
