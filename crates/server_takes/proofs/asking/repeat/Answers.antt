use Rattle.std.proofs.Common.{◌≡◌, ◌∙◌, sym}
use Rattle.std.proofs.lemmas.Result.{on_ok_weaker}
use Rattle.server_tables.specs.Answers.{answer_again}
use Rattle.server_takes.proofs.Parts.{repeats, repeats_none}
use Rattle.server_takes.proofs.asking.repeat.Goals as goal

pub returns-in-Some : goal.returns-in-Some
returns-in-Some c =
    let x = c.args.tables.now in
    let host = c.args.host in
    on_ok_weaker c.say.result (λ e. e ∙ repeats x c.args.draft.now host
    (answer_again x host c.args.change.now) c.in-Some.done (sym c.in-Some.is ∙ c.in_ok-done.ensures)) c.say.ensures

pub returns-in-None : goal.returns-in-None
returns-in-None c = repeats_none c.args.tables.now c.args.draft.now c.args.host
    (answer_again c.args.tables.now c.args.host c.args.change.now) (sym c.in-None.is ∙ c.in_ok-done.ensures)
