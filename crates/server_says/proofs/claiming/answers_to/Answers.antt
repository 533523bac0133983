use Rattle.std.proofs.Common.{◌∙◌, List, [], ◌∷◌, ◌++◌, take, sym, ap, subst}
use Rattle.std.proofs.lemmas.List.{take_all, take_more}
use Rattle.message_types.specs.declared.giving.Reclaimed.{Reclaimed as ReclaimedOf}
use Rattle.server_tables.specs.declared.recovering.Claimed.{Claimed}
use Rattle.server_says.specs.Claiming.{AreAnswers}
use Rattle.server_says.proofs.Picks.{answers_none, answers_on}
use Rattle.server_says.proofs.claiming.answers_to.Goals as goal

pub loop-claimed-init : goal.loop-claimed-init
loop-claimed-init c =
    subst (λ (l : List ReclaimedOf). AreAnswers c.args.tables.now c.args.host [] l) (sym c.new-answers.ensures)
    (answers_none c.args.tables.now c.args.host)

pub loop-claimed-preserved : goal.loop-claimed-preserved
loop-claimed-preserved c =
    let x = c.args.tables.now in
    let host = c.args.host in
    let items = c.as_slice-claimed-items.result.now in
    let i = c.loop-claimed.claimed-index in
    let item = c.claimed-item.result in
    let on = answers_on x host (take i items) c.loop-claimed.answers c.answer_one.new.answers item
    c.loop-claimed.invariant c.in_ok-answer_one.ensures in
    let cut = take_more items i item c.loop-claimed-test.true
    ∙ ap (λ (z : Claimed). take i items ++ z ∷ []) (sym c.claimed-item.is) in
    subst (λ (l : List Claimed). AreAnswers x host l c.answer_one.new.answers) (sym cut) on

pub returns : goal.returns
returns c =
    let items = c.as_slice-claimed-items.result.now in
    subst (λ (l : List Claimed). AreAnswers c.args.tables.now c.args.host l c.loop-claimed.answers)
    (take_all c.loop-claimed.claimed-index items c.loop-claimed-test.false ∙ c.as_slice-claimed-items.ensures)
    c.loop-claimed.invariant
