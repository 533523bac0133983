use Rattle.std.proofs.Common.{◌≡◌, ◌+◌, ◌∙◌, ap, arith, sym}
use Rattle.std.proofs.lemmas.Result.{on_ok_weaker}
use Rattle.base_outside.proofs.Runs.{wider_changes}
use Rattle.disk_layout.specs.Places.{entry_start}
use Rattle.disk_layout.specs.Entry.{gate_at}
use Rattle.disk_layout.proofs.Slots.{more_gates}
use Rattle.disk_log.proofs.append.open_first.Goals as goal

pub returns-clause-opened : goal.returns-clause-opened
returns-clause-opened g c = λ told some.
    on_ok_weaker c.open_gates.result
    (λ opened. (let e : c.args.first ≡ c.args.first + 0 = omega arith in ap (gate_at c.args.half.now.start (g.D.Disk.view c.open_gates.new.disk).image) e)
    ∙ opened 0 (let e = c.min-count.ensures in omega (arith, e, some)))
    (c.open_gates.ensures.opened told)

pub returns-clause-above : goal.returns-clause-above
returns-clause-above g c = λ told k from.
    (c.open_gates.ensures.same told).above (entry_start c.args.half.now.start (c.args.first + k)) (let e = c.min-count.ensures in omega (arith, e, from))

pub returns-clause-same : goal.returns-clause-same
returns-clause-same g c = λ told. more_gates _ _ _ _ _ _ (let e = c.min-count.ensures in omega (arith, e)) (c.open_gates.ensures.same told)

pub returns-clause-crash : goal.returns-clause-crash
returns-clause-crash g c = wider_changes c.open_gates.ensures.crash (λ a b step. more_gates _ _ _ _ a b (let e = c.min-count.ensures in omega (arith, e)) step)
