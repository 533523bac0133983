pub mod Tables
pub mod Places
pub mod Shelves
pub mod TableLaws
pub mod MarkLaws
pub mod Marks
pub mod Masks
pub mod Parts
