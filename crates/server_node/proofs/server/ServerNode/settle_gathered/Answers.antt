use Rattle.std.proofs.Common.{◌∙◌, List, ap, subst, sym}
use Rattle.message_types.specs.Soundness.{Each}
use Rattle.server_exporter.specs.Keepers.{IsDoneFor}
use Rattle.store_acts.specs.declared.act.Act.{Act}
use Rattle.server_node.proofs.Turns.{all_ok, none_given, settled_gathers, stored_then}
use Rattle.server_node.specs.Laws.{fails_later, stays_on, stays_so}
use Rattle.server_node.specs.Standing.{HasAllOf, StandsSo}
use Rattle.server_node.specs.declared.server.ServerNode.{ServerNode}
use Rattle.server_node.proofs.server.ServerNode.settle_gathered.Goals as goal

pub returns-then-is_rested-clause-stays : goal.returns-then-is_rested-clause-stays
returns-then-is_rested-clause-stays g c = stays_so g.S.Store.tells g.S.Store.view c.args.self.now

pub returns-then-is_rested-clause-works : goal.returns-then-is_rested-clause-works
returns-then-is_rested-clause-works g c = λ part past came lapses limited so. (limited, so)

pub returns-in-Ok-clause-gives : goal.returns-in-Ok-clause-gives
returns-in-Ok-clause-gives g c =
    none_given c.settle.result (g.S.Store.view c.settle.new.self.keeper.store).state c.store.new.waiting
    c.in-Ok.ensures.none

pub returns-in-Ok-clause-works : goal.returns-in-Ok-clause-works
returns-in-Ok-clause-works g c = λ part past came lapses limited so.
    settled_gathers g.S.Store.tells g.S.Store.view part c.args.self.now past c.args.steps.now.steps c.settle.result
    c.settle.new.self c.store.new.waiting c.settle.new.steps.steps came lapses c.in-Ok.ensures.none
    (c.settle.ensures.works part past came lapses
    (subst (λ (z : ServerNode g.row.S.Denot). StandsSo g.S.Store.tells g.S.Store.view part z past
    c.args.steps.now.steps came lapses) (sym c.store.ensures.rest)
    (stored_then g.S.Store.tells g.S.Store.view part c.args.self.now past c.args.steps.now.steps
    c.store.new.self.keeper c.args.waiting.now came lapses c.in-Ok.ensures.state (limited, so))))

pub returns-in-Ok-clause-stays : goal.returns-in-Ok-clause-stays
returns-in-Ok-clause-stays g c =
    stays_on g.S.Store.tells g.S.Store.view c.args.self.now c.store.new.self c.settle.new.self c.store.ensures.stays
    c.settle.ensures.stays

pub returns-in-Ok-clause-failed : goal.returns-in-Ok-clause-failed
returns-in-Ok-clause-failed g c = λ e.
    fails_later g.S.Store.tells g.S.Store.view c.args.self.now c.store.new.self c.settle.new.self c.store.ensures.stays
    (c.settle.ensures.failed e)

pub returns-in-Ok-clause-inbox : goal.returns-in-Ok-clause-inbox
returns-in-Ok-clause-inbox g c =
    c.settle.ensures.inbox ∙ ap (λ (z : ServerNode g.row.S.Denot). z.inbox) c.store.ensures.rest

pub returns-in-Ok-clause-went : goal.returns-in-Ok-clause-went
returns-in-Ok-clause-went g c tells came all waits = λ from h.
    c.settle.ensures.went tells came
    (subst (λ (z : ServerNode g.row.S.Denot). HasAllOf came z) (sym c.store.ensures.rest) all) from
    (c.store.ensures.went tells came waits from h)

pub returns-in-Ok-clause-all : goal.returns-in-Ok-clause-all
returns-in-Ok-clause-all g c tells came all waits =
    c.settle.ensures.all tells came
    (subst (λ (z : ServerNode g.row.S.Denot). HasAllOf came z) (sym c.store.ensures.rest) all)

pub returns-in-Ok-clause-done_for : goal.returns-in-Ok-clause-done_for
returns-in-Ok-clause-done_for g c came waits =
    all_ok c.settle.result (subst (λ (l : List Act). Each (IsDoneFor came) l) (sym c.in-Ok.ensures.none) tt)
