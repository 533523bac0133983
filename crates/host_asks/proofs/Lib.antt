pub mod Fronts
pub mod Lacking
pub mod Fetched
pub mod Asked
pub mod Blocks
pub mod Gone
pub mod Sound
