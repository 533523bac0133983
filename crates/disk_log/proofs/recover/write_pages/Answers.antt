use Rattle.std.proofs.Common.{◌≡◌, ◌∙◌, ℕ, List, get_or, None, ap, sym, subst, arith}
use Rattle.disk_layout.specs.Places.{in_place}
use Rattle.disk_layout.specs.Pages.{SameButPages}
use Rattle.disk_log.proofs.Reading.{place_of}
use Rattle.std.proofs.lemmas.Result.{on_ok_weaker}
use Rattle.base_outside.proofs.Runs.{then_changes, wider_changes}
use Rattle.disk_log.proofs.Recovering.{then_pages, wider_pages, done_pages, page_stays}
use Rattle.disk_log.proofs.recover.write_pages.Goals as goal

pub returns-in_err-write_page-clause-same : goal.returns-in_err-write_page-clause-same
returns-in_err-write_page-clause-same g c = λ told.
    then_pages _ _ _ _ (c.loop-place.invariant.same told) (wider_pages _ _ _ _ (page_stays c.args.table.now c.loop-place.place _ (omega arith)) (c.write_page.ensures.same told))

pub returns-in_err-write_page-clause-crash : goal.returns-in_err-write_page-clause-crash
returns-in_err-write_page-clause-crash g c =
    then_changes _ (then_pages _) c.loop-place.invariant.changes (wider_changes c.write_page.ensures.crash (λ a b step. wider_pages _ _ a b (page_stays c.args.table.now c.loop-place.place _ (omega arith)) step))

pub loop-place-preserved : goal.loop-place-preserved
loop-place-preserved g c =
    let inv = c.loop-place.invariant in
    record {
      same = λ told. then_pages _ _ _ _ (inv.same told) (wider_pages _ _ _ _ (page_stays c.args.table.now c.loop-place.place _ (omega arith)) (c.write_page.ensures.same told));
      done = λ told. done_pages c.args.table.now c.loop-place.place _ _ _ (omega arith) (c.write_page.ensures.same told) (c.in_ok-write_page.ensures.written told) (inv.done told);
      changes = then_changes _ (then_pages _) inv.changes (wider_changes c.write_page.ensures.crash (λ a b step. wider_pages _ _ a b (page_stays c.args.table.now c.loop-place.place _ (omega arith)) step));
      counted = omega (arith, inv.counted, c.write_page.ensures.blamed.counted);
    }

pub returns-clause-written : goal.returns-clause-written
returns-clause-written g c = λ told.
    on_ok_weaker c.sync.result
    (λ settled p bytes there.
    let within = place_of c.args.table.now p bytes there in
    ap (λ (l : List ℕ). in_place l p) c.sync.ensures.quiet.image ∙ c.loop-place.invariant.done told p bytes (omega arith) there) c.sync.ensures.durable

pub returns-clause-same : goal.returns-clause-same
returns-clause-same g c = λ told.
    subst (λ (l : List ℕ). SameButPages (λ (q : ℕ). get_or c.args.table.now q None ≡ None) (g.D.Disk.view c.args.disk.now).image l) (sym c.sync.ensures.quiet.image) (c.loop-place.invariant.same told)
