mod Along
mod Reading
mod Sorting
