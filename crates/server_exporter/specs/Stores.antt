-- What run_stores says of a store, for the crates above.
pub use Rattle.server_decides.specs.StoreKeeping.{StandsFor}
