use Rattle.std.proofs.Common.{◌≡◌, ◌<◌, ◌-◌, ◌/◌, false, ◌==◌, arith, inl, inr}
use Rattle.std.proofs.lemmas.Bool.{cases_lt, iff_false}
use Rattle.std.proofs.lemmas.Bool.Decides.{nat_tests}
use Rattle.token_table.proofs.Barred.{mask_parts}
use Rattle.token_table.proofs.masks.mask_of.Goals as goal

pub overflow_sub-result-3 : goal.overflow_sub-result-3
overflow_sub-result-3 c =
    let span = c.args.span in
    let bytes : span.from < span.to = elim (cases_lt span.from span.to) [
      | inl less ↦ less
      | inr more ↦ absurd (iff_false c.is_empty.ensures c.if-is_empty.false (omega (arith, more, span.ordered)))
    ] in
    (mask_parts (span.from / 1024) ((span.to - 1) / 1024) (omega (arith, bytes)) (omega (arith, span.within))).0

pub returns : goal.returns
returns c =
    let span = c.args.span in
    let bytes : span.from < span.to = elim (cases_lt span.from span.to) [
      | inl less ↦ less
      | inr more ↦ absurd (iff_false c.is_empty.ensures c.if-is_empty.false (omega (arith, more, span.ordered)))
    ] in
    let some : (span.from == span.to) ≡ false = grind (arith, nat_tests) in
    rw some
    (mask_parts (span.from / 1024) ((span.to - 1) / 1024) (omega (arith, bytes)) (omega (arith, span.within))).1
