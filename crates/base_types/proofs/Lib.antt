pub mod ChangedLists
