use Rattle.std.proofs.Common.{◌∙◌, List, take, ap, arith}
use Rattle.std.proofs.lemmas.List.{take_all}
use Rattle.disk_layout.specs.declared.entry.Entry.{Entry}
use Rattle.disk_layout.specs.Pages.{redone, is_named}
use Rattle.disk_log.proofs.Emptying.{keep_more}
use Rattle.disk_log.proofs.Recovering.{held_more, named_split}
use Rattle.disk_log.proofs.kept.keep.Goals as goal

pub loop-entry-preserved : goal.loop-entry-preserved
loop-entry-preserved c =
    let inv = c.loop-entry.invariant in
    let all = c.args.entries.now in
    let i = c.loop-entry.entry-index in
    record {
      size = c.keep_one.ensures.size ∙ inv.size;
      kept = λ known kept. keep_more _ all i _ known (omega arith) (c.keep_one.ensures.kept (redone (take i all) known) (inv.kept known kept));
      named = λ p lt named. held_more all i p _ _ _ (omega arith) (c.keep_one.ensures.named p (omega (arith, inv.size, lt))) (c.keep_one.ensures.others p) (inv.named p lt) named;
      others = λ p out. let split = named_split all i p _ (omega arith) out in c.keep_one.ensures.others p split.1 ∙ inv.others p split.0;
    }

pub returns-clause-kept : goal.returns-clause-kept
returns-clause-kept c = λ known kept p bytes is.
    c.loop-entry.invariant.kept known kept p bytes is ∙ ap (λ (l : List Entry). redone l known p) (take_all c.loop-entry.entry-index c.args.entries.now (omega arith))

pub returns-clause-named : goal.returns-clause-named
returns-clause-named c = λ p lt named.
    c.loop-entry.invariant.named p lt (ap (λ (l : List Entry). is_named p l) (take_all c.loop-entry.entry-index c.args.entries.now (omega arith)) ∙ named)

pub returns-clause-others : goal.returns-clause-others
returns-clause-others c = λ p out.
    c.loop-entry.invariant.others p (ap (λ (l : List Entry). is_named p l) (take_all c.loop-entry.entry-index c.args.entries.now (omega arith)) ∙ out)
