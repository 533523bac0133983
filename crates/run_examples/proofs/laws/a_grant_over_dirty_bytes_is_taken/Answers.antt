use Rattle.run_examples.proofs.MoreExamples.{shown_lapse, shown_meets}
use Rattle.run_examples.proofs.laws.a_grant_over_dirty_bytes_is_taken.Goals as goal

pub returns : goal.returns
returns c = (shown_meets, shown_lapse)
