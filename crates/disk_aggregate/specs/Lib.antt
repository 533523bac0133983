pub mod Refused
pub mod Records
pub mod Stands
pub mod Opening
pub mod Applying
pub mod StoreView
