use Rattle.run_examples.proofs.MoreExamples.{asks_file_lapse, asks_file_meets, asks_update_lapse, asks_update_meets}
use Rattle.run_examples.proofs.laws.a_write_is_asked_for.Goals as goal

pub returns : goal.returns
returns c = ((asks_file_meets, asks_file_lapse), (asks_update_meets, asks_update_lapse))
