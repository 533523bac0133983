pub mod Entries
pub mod Answered
pub mod Printed
