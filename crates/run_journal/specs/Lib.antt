pub mod Trees
pub mod Steps
pub mod Text
