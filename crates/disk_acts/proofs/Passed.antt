-- What those above a batch name of acts on a log.
pub use Rattle.disk_acts.proofs.Same.{record_same}
pub use Rattle.disk_acts.proofs.Transacting.{stage_now, now_stage}
