-- What the run rules say of a run, for the crates above.
pub use Rattle.run_promises.specs.Promises.{HasRun, Promises, PromisesAreKept, last_tree}
pub use Rattle.hub_board.specs.Hubs.{nodes_of}
pub use Rattle.hub_board.specs.Follows.{setup_node}
