pub mod Parts
pub mod Moving
pub mod Acts
pub mod Sound
pub mod Single
pub mod Laws
