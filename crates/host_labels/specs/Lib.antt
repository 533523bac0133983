pub mod Labels
pub mod UseLaws
