pub mod Calls
pub mod Seats
pub mod Uses
pub mod Played
pub mod Underway
pub mod Laws
