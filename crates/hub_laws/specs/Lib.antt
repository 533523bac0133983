pub mod Taking
pub mod Keeping
pub mod Laws
pub mod Example
pub mod Tellings
pub mod Beginnings
pub mod Closings
pub mod ClosedExample
