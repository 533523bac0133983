pub mod Walk
pub mod Orders
pub mod Scripts
pub mod Laws
