pub mod Dealt
pub mod Seats
pub mod Driving
