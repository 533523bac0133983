pub mod Overlays
pub mod Observed
pub mod Rising
mod Pieces
mod Cuts
mod Taken
mod Stored
mod Laid
mod Owned
pub mod StaysSound
pub mod Lawful
pub mod Together
