pub mod Packets
pub mod Plans
pub mod Networks
pub mod Views
pub mod Laws
