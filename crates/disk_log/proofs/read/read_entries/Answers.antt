use Rattle.std.proofs.Common.{◌∙◌, ◌++◌, List, ℕ, ap, sym, subst, arith}
use Rattle.base_outside.proofs.Runs.{quiet_then}
use Rattle.disk_layout.specs.declared.entry.Entry.{Entry}
use Rattle.std.specs.Prelude.{Option, IfSome, ◌+◌}
use Rattle.disk_layout.specs.Entry.{entry_at, Fits}
use Rattle.disk_log.proofs.Mounting.{quiet_none}
use Rattle.disk_log.specs.Append.{AllFit}
use Rattle.disk_log.proofs.Entering.{left, left_all, found_more, found_end, found_all, fits_more}
use Rattle.disk_log.proofs.read.read_entries.Goals as goal

pub loop-i-init : goal.loop-i-init
loop-i-init g c =
    let none = c.in_ok-found.ensures.items in
    record {
      so_far = λ told. (λ j. none j ++ left_all c.args.half.now (g.D.Disk.view c.args.disk.now).image j);
      fits = subst (λ (l : List Entry). AllFit c.args.half.now l) (sym none) (λ k lt. absurd (omega arith));
      len = c.in_ok-found.ensures.len;
      capacity = c.in_ok-found.ensures.exact;
      quiet = quiet_none _;
      counted = omega arith;
    }

pub returns-in-None-clause-entries : goal.returns-in-None-clause-entries
returns-in-None-clause-entries g c = λ told.
    let inv = c.loop-i.invariant in
    found_end _ _ c.loop-i.i _ (omega arith) (sym c.in-None.is ∙ c.in_ok-entry.ensures.entry told ∙ ap (λ (l : List ℕ). entry_at c.args.half.now l c.loop-i.i) inv.quiet.image) (inv.so_far told)

pub returns-clause-entries : goal.returns-clause-entries
returns-clause-entries g c = λ told. found_all _ _ c.loop-i.i _ (omega arith) (c.loop-i.invariant.so_far told)

pub loop-i-preserved : goal.loop-i-preserved
loop-i-preserved g c =
    let inv = c.loop-i.invariant in
    let start = (g.D.Disk.view c.args.disk.now).image in
    let here = c.in_ok-entry.ensures in
    let more = c.push_reserved.ensures.items in
    record {
      so_far = λ told. ap (λ (l : List Entry). l ++ left c.args.half.now start (c.loop-i.i + 1)) more
          ∙ found_more _ _ c.loop-i.i _ c.in-Some.entry (omega arith) (sym c.in-Some.is ∙ here.entry told ∙ ap (λ (l : List ℕ). entry_at c.args.half.now l c.loop-i.i) inv.quiet.image) (inv.so_far told);
      fits = subst (λ (l : List Entry). AllFit c.args.half.now l) (sym more) (fits_more c.args.half.now _ c.in-Some.entry inv.fits (subst (λ (o : Option Entry). IfSome o (λ (e : Entry). Fits c.args.half.now e)) c.in-Some.is here.fits));
      len = omega arith;
      capacity = omega arith;
      quiet = quiet_then inv.quiet c.read_one.ensures.quiet;
      counted = omega (arith, inv.counted, c.read_one.ensures.faults.counted);
    }
