-- That each run keeps what runs promise, for the crates above.
pub use Rattle.run_promises.proofs.Promising.{promises_are_kept}
