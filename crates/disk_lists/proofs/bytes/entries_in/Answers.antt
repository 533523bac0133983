use Rattle.std.proofs.Common.{◌∙◌, ◌++◌, ◌∷◌, [], sym, arith}
use Rattle.std.proofs.lemmas.List.{take_all}
use Rattle.disk_lists.proofs.Laid.{length-laid}
use Rattle.disk_lists.proofs.Places.{some_at, take-next}
use Rattle.disk_lists.proofs.bytes.entries_in.Goals as goal

pub loop-i-preserved : goal.loop-i-preserved
loop-i-preserved c = λ entries are.
    let size = length-laid entries c.args.bytes.now are in
    let found = some_at c.loop-i.i entries (omega (arith, size)) in
    let made = c.in_ok-entry_at.ensures entries found.0 found.1 are found.2 in
    let before = c.loop-i.invariant entries are in
    c.in_ok-push.ensures.ok ∙ (λ j. before j ++ made j ∷ []) ∙ sym (take-next c.loop-i.i entries found.0 found.1 found.2)

pub returns : goal.returns
returns c = λ entries are.
    let size = length-laid entries c.args.bytes.now are in
    c.loop-i.invariant entries are ∙ take_all c.loop-i.i entries (omega (arith, size))
