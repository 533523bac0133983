pub mod View
pub mod Opening
pub mod Stores
pub mod Steps
pub mod Seats
