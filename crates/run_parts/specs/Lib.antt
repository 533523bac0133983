pub mod Doings
pub mod Laws
pub mod Cells
pub mod Deeds
pub mod Contents
pub mod Legal
pub mod Coherence
pub mod Uses
