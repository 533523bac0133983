-- What those above a batch name of acts on a log.
pub use Rattle.disk_acts.specs.Records.{HasStage, HasNow}
