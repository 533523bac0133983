pub mod Blank
pub mod Passed
pub mod Printed
