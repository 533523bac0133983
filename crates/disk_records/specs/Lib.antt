pub mod Record
pub mod Said
pub mod Stored
pub mod Laws
pub mod MountLaws
pub mod Loading
pub mod Reforming
