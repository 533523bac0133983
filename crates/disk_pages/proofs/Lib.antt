pub mod Each
pub mod Kept
pub mod Zeros
pub mod Tests
pub mod ServerPages
pub mod NumberPages
pub mod HeaderPages
pub mod PutOne
