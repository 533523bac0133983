pub mod Requested
pub mod Answered
pub mod Shipments
pub mod Contents
pub mod Whole
pub mod Decoding
pub mod Written
