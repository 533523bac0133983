use Rattle.std.proofs.Common.{◌∙◌, ◌+◌, ◌/◌, ℕ, sym, arith}
use Rattle.disk_lists.proofs.Laid.{length-laid}
use Rattle.disk_lists.proofs.Places.{search_above, search_below}
use Rattle.disk_lists.proofs.bytes.place_of.Goals as goal

pub loop-low-init : goal.loop-low-init
loop-low-init c = record {
  ordered = omega arith;
  within = omega arith;
  below = λ entries are i lt. absurd (omega (arith, lt));
  above = λ entries are i le lt. (let size = length-laid entries c.args.bytes.now are in absurd (omega (arith, size, le, lt)));
}

pub loop-low-preserved-then-is_before_entry : goal.loop-low-preserved-then-is_before_entry
loop-low-preserved-then-is_before_entry c =
    let invariant = c.loop-low.invariant in
    let within = invariant.within in
    let middle : ℕ = (c.loop-low.low + c.loop-low.high) / 2 in
    record {
      ordered = omega arith;
      within = omega (arith, within);
      below = invariant.below;
      above = λ entries are i le lt. (let size = length-laid entries c.args.bytes.now are in
          search_above entries c.args.name.now middle are.rise (omega (arith, size, within)) (sym (c.is_before_entry.ensures entries are) ∙ c.if-is_before_entry.true) i le lt);
    }

pub loop-low-preserved : goal.loop-low-preserved
loop-low-preserved c =
    let invariant = c.loop-low.invariant in
    let within = invariant.within in
    let middle : ℕ = (c.loop-low.low + c.loop-low.high) / 2 in
    record {
      ordered = omega arith;
      within = within;
      below = λ entries are i lt. (let size = length-laid entries c.args.bytes.now are in
          search_below entries c.args.name.now middle are.rise (omega (arith, size, within)) (sym (c.is_before_entry.ensures entries are) ∙ c.if-is_before_entry.false) i (omega (arith, lt)));
      above = invariant.above;
    }

pub returns-clause-place : goal.returns-clause-place
returns-clause-place c = λ entries are.
    let invariant = c.loop-low.invariant in
    let within = invariant.within in
    let ordered = invariant.ordered in
    let size = length-laid entries c.args.bytes.now are in
    record {
      within = omega (arith, within, ordered, size);
      below = invariant.below entries are;
      above = λ i le lt. invariant.above entries are i (omega (arith, le)) lt;
    }
