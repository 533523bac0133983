pub mod Fits
pub mod Parts
pub mod Calls
pub mod Bodies
pub mod Whole
pub mod Back
pub mod BackCalls
pub mod BackBodies
