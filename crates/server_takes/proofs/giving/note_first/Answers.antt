use Rattle.std.proofs.Common.{◌≡◌, ◌∙◌, ap, true, false, sym}
use Rattle.std.proofs.lemmas.Result.{on_ok_weaker}
use Rattle.message_types.specs.declared.giving.AppliedGive.{AppliedGive}
use Rattle.server_tables.specs.Gives.{given}
use Rattle.server_takes.proofs.Parts.{gives_again, gives_first}
use Rattle.server_takes.specs.Taking.{is_first}
use Rattle.server_takes.proofs.giving.note_first.Goals as goal

pub returns-then-not-is_first : goal.returns-then-not-is_first
returns-then-not-is_first c = gives_again c.args.tables.now c.args.host c.args.give.now (cc)

pub returns : goal.returns
returns c =
    let x = c.args.tables.now in
    let first : is_first x c.args.host c.args.give.now ≡ true = cc in
    on_ok_weaker c.note_give.result
    (λ e. e ∙ ap (λ (n : AppliedGive). record x { gives = given x.gives c.args.host n }) c.number_of.ensures
    ∙ gives_first x c.args.host c.args.give.now first) c.note_give.ensures
