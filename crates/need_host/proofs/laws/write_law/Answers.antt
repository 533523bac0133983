use Rattle.need_host.proofs.Answers.{answers_leave_alike}
use Rattle.need_host.proofs.Present.{answers_leave_all, syncs_of_nothing}
use Rattle.need_host.proofs.laws.write_law.Goals as goal

pub returns : goal.returns
returns c = record { answers = answers_leave_alike; tells = answers_leave_all; syncs = syncs_of_nothing }
