use Rattle.host_manager.proofs.TellsNow.{answers_into}
use Rattle.host_manager.specs.Spoken.{tables_of}
use Rattle.std.proofs.Common.{length}
use Rattle.host_manager.proofs.machine.Machine.answer_again.Goals as goal

pub returns-clause-told : goal.returns-clause-told
returns-clause-told c = λ script past running.
    answers_into (tables_of c.args.self.now) c.answer_again.new.tables c.args.call.now (length c.args.out.now)
    c.answer_again.new.out c.answer_again.result c.requires.free
    c.laws.ensures c.answer_again.ensures.told script past running
