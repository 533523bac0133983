pub mod Keeping
pub mod Asking
pub mod Granting
pub mod Acting
pub mod Repeating
pub use Rattle.run_stores.specs.Wanting
pub use Rattle.run_stores.specs.Keeping as StoreKeeping
pub use Rattle.run_history.specs.Changes
pub use Rattle.run_stores.specs.Telling
