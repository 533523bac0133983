-- What run_stores has, for the crates above.
pub use Rattle.server_decides.proofs.Stands.{acts_stand}
pub use Rattle.server_decides.proofs.Ends.{stores_follow}
