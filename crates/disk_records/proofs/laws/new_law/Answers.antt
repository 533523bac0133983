use Rattle.disk_records.proofs.New.{empty_is_new}
use Rattle.disk_records.proofs.laws.new_law.Goals as goal

pub returns : goal.returns
returns c = empty_is_new
