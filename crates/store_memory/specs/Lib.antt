pub mod Reading
pub mod Sound
pub mod Views
pub mod MapStores
