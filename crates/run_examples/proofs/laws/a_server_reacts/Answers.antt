use Rattle.run_examples.proofs.ServerExamples.{admits_lapse, admits_meets}
use Rattle.run_examples.proofs.ServerExamples.{bye_lapse, bye_meets, down_lapse, down_meets, restarts_lapse, restarts_meets}
use Rattle.run_examples.proofs.ServerExamples.{returned_lapse, returned_meets, stores_lapse, stores_meets}
use Rattle.run_examples.proofs.laws.a_server_reacts.Goals as goal

pub returns : goal.returns
returns c = record {
  gift_stored = (stores_meets, stores_lapse);
  returned_heard = (returned_meets, returned_lapse);
  down_heard = (down_meets, down_lapse);
  bye_answered = (bye_meets, bye_lapse);
  restart_told = (restarts_meets, restarts_lapse);
  claim_admitted = (admits_meets, admits_lapse);
}
