use Rattle.std.proofs.Common.{◌≤◌, ◌∙◌, List, ap, arith, subst, sym}
use Rattle.message_types.specs.Soundness.{Each}
use Rattle.store_acts.specs.Acts.{state_after}
use Rattle.store_acts.specs.Sound.{AreActs}
use Rattle.store_acts.specs.declared.act.Act.{Act}
use Rattle.server_says.proofs.GivenAgain.{gives_repeat}
use Rattle.server_says.specs.Keepers.{IsDoneFor}
use Rattle.server_says.specs.Acts.{AreRepeatable, IsGive}
use Rattle.server_decides.proofs.finishing.store_all.Goals as goal

pub give_all-requires-clause-acts : goal.give_all-requires-clause-acts
give_all-requires-clause-acts g c =
    let start = (g.S.Store.view c.args.keeper.now.store).state in
    let gives = c.requires.gives in
    subst (λ (l : List Act). AreActs start.roster start.server l) (sym c.as_slice.ensures)
    (record { few = (let few = gives.few in omega (arith, few)); each = gives.each })

pub give_all-requires-clause-gives : goal.give_all-requires-clause-gives
give_all-requires-clause-gives g c =
    subst (λ (l : List Act). Each IsGive l) (sym c.as_slice.ensures) c.requires.gives.gives

pub returns-clause-state : goal.returns-clause-state
returns-clause-state g c tells limited =
    let start = (g.S.Store.view c.args.keeper.now.store).state in
    let gives = c.requires.gives in
    c.in_ok-give_all.ensures.state tells (subst (λ (l : List Act). AreRepeatable start l) (sym c.as_slice.ensures)
    (gives_repeat start c.args.waiting.now limited gives.gives gives.each))
    ∙ ap (λ (l : List Act). state_after start l) c.as_slice.ensures

pub returns-clause-went : goal.returns-clause-went
returns-clause-went g c tells came waits =
    c.in_ok-give_all.ensures.went tells came
    (subst (λ (l : List Act). Each (IsDoneFor came) l) (sym c.as_slice.ensures) waits)

pub returns-in_err-give_all-clause-went : goal.returns-in_err-give_all-clause-went
returns-in_err-give_all-clause-went g c tells came waits =
    c.in_err-give_all.ensures.went tells came
    (subst (λ (l : List Act). Each (IsDoneFor came) l) (sym c.as_slice.ensures) waits)
