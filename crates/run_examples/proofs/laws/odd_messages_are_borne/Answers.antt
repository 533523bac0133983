use Rattle.run_examples.proofs.MoreExamples.{bytes_meets, moved_meets, other_lapse, other_meets, unmade_lapse, unmade_meets}
use Rattle.run_examples.proofs.ServerExamples.{empty_lapse, empty_meets, misplaced_lapse, misplaced_meets}
use Rattle.run_examples.proofs.laws.odd_messages_are_borne.Goals as goal

pub returns : goal.returns
returns c = record {
  unmade = (unmade_meets, unmade_lapse);
  moved = moved_meets;
  bytes = bytes_meets;
  other_file = (other_meets, other_lapse);
  misplaced = (misplaced_meets, misplaced_lapse);
  empty = (empty_meets, empty_lapse);
}
