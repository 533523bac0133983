use Rattle.std.proofs.Common.{List, subst}
use Rattle.std.proofs.lemmas.List.{drop_all}
use Rattle.host_manager.specs.Spoken.{tables_of}
use Rattle.host_node.proofs.Waiting.{none_left, spelled_next}
use Rattle.host_node.specs.Between.{AreKept}
use Rattle.host_node.specs.declared.between.Entry.{Entry}
use Rattle.host_node.proofs.between.spell_each.Goals as goal

pub loop-entry-init : goal.loop-entry-init
loop-entry-init c = λ all kept. kept

pub loop-entry-preserved : goal.loop-entry-preserved
loop-entry-preserved c = λ all kept.
    spelled_next c.args.lines.now.lines (tables_of c.args.manager.now).host all c.args.entries.now
    c.loop-entry.entry-index _ c.loop-entry.rest.now c.loop-entry.steps.items c.loop-entry-test.true
    (c.loop-entry.invariant all kept) _ _ _ _ c.in_ok-reply.ensures c.in_ok-step.ensures c.in_ok-push.ensures.items

pub returns : goal.returns
returns c = λ all kept.
    let lines = c.args.lines.now.lines in
    let host = (tables_of c.args.manager.now).host in
    none_left lines host all c.loop-entry.steps.items c.loop-entry.rest.now
    (subst (λ (l : List Entry). AreKept lines host all c.loop-entry.steps.items l c.loop-entry.rest.now)
    (drop_all c.loop-entry.entry-index c.args.entries.now c.loop-entry-test.false) (c.loop-entry.invariant all kept))
