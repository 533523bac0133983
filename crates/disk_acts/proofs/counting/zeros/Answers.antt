use Rattle.std.proofs.Common.{◌≡◌, ◌*◌, ℕ, sym, ◌∙◌, arith}
use Rattle.std.specs.Prelude.{true, false, ◌==◌}
use Rattle.std.proofs.lemmas.Bool.Decides.{nat_tests}
use Rattle.disk_layout.specs.Numbers.{number_at}
use Rattle.disk_anode.specs.Room.{how_many}
use Rattle.disk_acts.proofs.Free.{none_yet, one_more}
use Rattle.disk_acts.proofs.counting.zeros.Goals as goal
use Rattle.disk_acts.proofs.counting.zeros.Goals.{then-u16_at-eq0, else-u16_at-eq0}

pub loop-i-init : goal.loop-i-init
loop-i-init c = record { zeros = sym (none_yet (λ (i : ℕ). number_at 2 (2 * i) c.args.page.now == 0)); few = omega arith }

pub overflow_add-zeros : goal.overflow_add-zeros
overflow_add-zeros c = (let few = c.loop-i.invariant.few in let lt = c.loop-i-test.true in let most = c.requires in omega (arith, few, lt, most))

pub loop-i-preserved : goal.loop-i-preserved
loop-i-preserved c =
    elim c.if-u16_at-eq0.branch [
      | then-u16_at-eq0 w ↦ (
          let is = c.u16_at.ensures in
          let zero = w.if-u16_at-eq0.true in
          let yes : (number_at 2 (2 * c.loop-i.i) c.args.page.now == 0) ≡ true = grind (arith, nat_tests, is, zero) in
          let more = one_more (λ (i : ℕ). number_at 2 (2 * i) c.args.page.now == 0) c.loop-i.i true yes in
          let before = c.loop-i.invariant.zeros in
          let few = c.loop-i.invariant.few in
          let now = w.zeros-is in
          record { zeros = omega (arith, more, before, now); few = omega (arith, few, now) })
      | else-u16_at-eq0 w ↦ (
          let is = c.u16_at.ensures in
          let some = w.if-u16_at-eq0.false in
          let no : (number_at 2 (2 * c.loop-i.i) c.args.page.now == 0) ≡ false = grind (arith, nat_tests, is, some) in
          let more = one_more (λ (i : ℕ). number_at 2 (2 * i) c.args.page.now == 0) c.loop-i.i false no in
          let before = c.loop-i.invariant.zeros in
          let few = c.loop-i.invariant.few in
          let now = w.zeros-is in
          record { zeros = omega (arith, more, before, now); few = omega (arith, few, now) })
    ]

pub returns-clause-zeros : goal.returns-clause-zeros
returns-clause-zeros c = (let past = c.loop-i-test.false in let within = c.loop-i.auto.i-end in let e : c.loop-i.i ≡ c.args.counts = omega (arith, past, within) in
    c.loop-i.invariant.zeros ∙ (λ j. how_many (λ (i : ℕ). number_at 2 (2 * i) c.args.page.now == 0) (e j)))
