pub mod PageLaws
pub mod Lists
pub mod Fresh
pub mod Reached
pub mod Formed
pub mod Mounted
pub mod SameLaws
pub mod ObjectLaws
