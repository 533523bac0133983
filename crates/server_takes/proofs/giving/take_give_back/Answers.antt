use Rattle.std.proofs.Common.{◌≡◌, ◌∙◌, List, [], ap, sym, subst}
use Rattle.std.specs.Prelude.{OnOk}
use Rattle.std.proofs.lemmas.Result.{on_ok_weaker}
use Rattle.base_types.specs.declared.ids.ServerId.{ServerId}
use Rattle.tree_calls.specs.declared.roster.Roster.{Roster}
use Rattle.store_acts.specs.Acts.{state_after}
use Rattle.message_types.specs.Soundness.{Each}
use Rattle.store_acts.specs.Sound.{AreActs, IsAct}
use Rattle.store_acts.specs.declared.act.Act.{Act}
use Rattle.store_memory.specs.Reading.{status_told}
use Rattle.server_looks.specs.Acts.{AreRepeatable, IsGive, giving}
use Rattle.server_looks.specs.Keepers.{IsDoneFor}
use Rattle.server_takes.proofs.Bodies.{on_ok_is}
use Rattle.server_takes.proofs.Brought.{more_done}
use Rattle.server_takes.proofs.Gathered.{one_acts, one_gives, one_repeats}
use Rattle.server_takes.specs.Messages.{IsOneMore}
use Rattle.server_takes.specs.Taking.{give_draft, give_state}
use Rattle.server_takes.proofs.giving.take_give_back.Goals as goal

pub give_all-requires-clause-acts : goal.give_all-requires-clause-acts
give_all-requires-clause-acts g c =
    let start = (g.S.Store.view c.args.keeper.now.store).state in
    let same = c.in_ok-gather_give_back.ensures.asked.tried.same in
    let act = giving c.args.host c.args.give.now in
    let mid = (g.S.Store.view c.gather_give_back.new.keeper.store).state in
    let more = subst (λ (w : List Act). IsOneMore c.args.host c.args.give.now w c.gather_give_back.new.waiting)
    c.new-waiting.ensures c.in_ok-gather_give_back.ensures.waits in
    subst (λ (l : List Act). AreActs mid.roster mid.server l) (sym c.as_slice.ensures)
    (one_acts c.args.host c.args.give.now c.gather_give_back.new.waiting mid.roster mid.server more
    (subst (λ (r : Roster). IsAct r mid.server act) (sym same.roster)
    (subst (λ (s : ServerId). IsAct start.roster s act) (sym same.server) c.requires.act)))

pub give_all-requires-clause-gives : goal.give_all-requires-clause-gives
give_all-requires-clause-gives g c =
    let more = subst (λ (w : List Act). IsOneMore c.args.host c.args.give.now w c.gather_give_back.new.waiting)
    c.new-waiting.ensures c.in_ok-gather_give_back.ensures.waits in
    subst (λ (l : List Act). Each IsGive l) (sym c.as_slice.ensures)
    (one_gives c.args.host c.args.give.now c.gather_give_back.new.waiting more c.requires.act.2)

pub gather_give_back-requires-clause-gives : goal.gather_give_back-requires-clause-gives
gather_give_back-requires-clause-gives g c = rw c.new-waiting.ensures tt

pub returns-clause-tables : goal.returns-clause-tables
returns-clause-tables g c = on_ok_is c.give_all.result _ c.in_ok-gather_give_back.ensures.tables

pub returns-clause-heard : goal.returns-clause-heard
returns-clause-heard g c = on_ok_is c.give_all.result _ c.in_ok-gather_give_back.ensures.heard

pub returns-clause-counted : goal.returns-clause-counted
returns-clause-counted g c = on_ok_is c.give_all.result _ c.in_ok-gather_give_back.ensures.counted

pub returns-clause-draft : goal.returns-clause-draft
returns-clause-draft g c tells =
    let start = (g.S.Store.view c.args.keeper.now.store).state in
    on_ok_is c.give_all.result _
    (c.in_ok-gather_give_back.ensures.draft tells
    ∙ ap (λ (w : List Act). give_draft c.args.tables.now c.args.draft.now c.args.host c.args.give.now
    (status_told (state_after start w) c.args.give.now.fid)) c.new-waiting.ensures)

pub returns-clause-state : goal.returns-clause-state
returns-clause-state g c tells again =
    let start = (g.S.Store.view c.args.keeper.now.store).state in
    let mid = (g.S.Store.view c.gather_give_back.new.keeper.store).state in
    let more = subst (λ (w : List Act). IsOneMore c.args.host c.args.give.now w c.gather_give_back.new.waiting)
    c.new-waiting.ensures c.in_ok-gather_give_back.ensures.waits in
    on_ok_weaker c.give_all.result
    (λ e. e ∙ ap (λ (l : List Act). state_after mid l) c.as_slice.ensures
    ∙ c.in_ok-gather_give_back.ensures.state tells
    ∙ ap (λ (w : List Act). give_state c.args.tables.now c.args.host c.args.give.now (state_after start w))
    c.new-waiting.ensures)
    (c.give_all.ensures.state tells (subst (λ (l : List Act). AreRepeatable mid l) (sym c.as_slice.ensures)
    (one_repeats c.args.host c.args.give.now c.gather_give_back.new.waiting start mid
    (c.in_ok-gather_give_back.ensures.asked.state tells) more again)))

pub returns-clause-went : goal.returns-clause-went
returns-clause-went g c tells came brought =
    let more = subst (λ (w : List Act). IsOneMore c.args.host c.args.give.now w c.gather_give_back.new.waiting)
    c.new-waiting.ensures c.in_ok-gather_give_back.ensures.waits in
    λ from h. c.give_all.ensures.went tells came (subst (λ (l : List Act). Each (IsDoneFor came) l)
    (sym c.as_slice.ensures)
    (more_done came c.args.host c.args.give.now [] c.gather_give_back.new.waiting more brought tt))
    from (c.in_ok-gather_give_back.ensures.went tells came from h)
