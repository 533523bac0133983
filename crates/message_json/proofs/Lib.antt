pub mod Lists
pub mod Grown
