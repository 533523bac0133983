pub mod Between
pub mod Doing
pub mod Laws
pub mod Standing
