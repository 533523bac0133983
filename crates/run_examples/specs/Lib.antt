pub mod Steps
pub mod Laws
pub mod Journal
pub mod WorkedLaws
pub mod Refused
pub mod Unanswered
pub mod Late
