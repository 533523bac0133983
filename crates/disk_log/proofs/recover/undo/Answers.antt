use Rattle.std.proofs.Common.{◌∙◌, ◌≡◌, ◌-◌, ◌+◌, sym, length, drop, refl, arith}
use Rattle.std.proofs.lemmas.List.{drop_all}
use Rattle.disk_layout.specs.declared.entry.Entry.TheVariants.{End}
use Rattle.disk_layout.specs.Pages.{undone}
use Rattle.disk_log.proofs.Recovering.{undone_more, named_part}
use Rattle.disk_log.proofs.recover.undo.Goals as goal

pub loop-i-init : goal.loop-i-init
loop-i-init c =
    let all = c.args.entries.now in
    record {
      size = refl;
      kept = λ known kept p bytes is. kept p bytes is ∙ (λ j. undone all (sym (drop_all (length all - 0) all (omega arith)) j) known p);
      held = λ p some. some;
      others = λ p out. refl;
    }

pub loop-i-preserved : goal.loop-i-preserved
loop-i-preserved c =
    let inv = c.loop-i.invariant in
    let all = c.args.entries.now in
    let n = length all in
    record {
      size = c.undo_one.ensures.size ∙ inv.size;
      kept = λ known kept. undone_more all (n - 1 - c.loop-i.i) (n - c.loop-i.i) (n - (c.loop-i.i + 1)) (End 0) known _ (omega arith) (omega arith) (omega arith) (c.undo_one.ensures.kept all (drop (n - c.loop-i.i) all) known c.requires (inv.kept known kept));
      held = λ p some. c.undo_one.ensures.held p (inv.held p some);
      others = λ p out. c.undo_one.ensures.others p (named_part all (n - 1 - c.loop-i.i) p (End 0) (omega arith) out) ∙ inv.others p out;
    }

pub returns-clause-kept : goal.returns-clause-kept
returns-clause-kept c = λ known kept p bytes is.
    let all = c.args.entries.now in
    let none : length all - c.loop-i.i ≡ 0 = omega arith in
    c.loop-i.invariant.kept known kept p bytes is ∙ (λ j. undone all (drop (none j) all) known p)
