use Rattle.std.proofs.Common.{◌≡◌, ◌∙◌, ◌+◌, ◌*◌, true, false, sym, arith}
use Rattle.std.proofs.lemmas.Bool.{cond-true, cond-false, lt-ltb, le-ltb}
use Rattle.std.specs.Prelude.{nat_lt, ◌==◌}
use Rattle.disk_image.specs.Counts.{is_count_place, is_count, uses_of}
use Rattle.disk_layout.specs.Numbers.{number_at}
use Rattle.disk_judge.specs.Metadata.{over}
use Rattle.disk_judge.proofs.Marking.{count_is}
use Rattle.disk_judge.proofs.counts.is_count_at.Goals as goal

pub returns-then-block-marks : goal.returns-then-block-marks
unfolding is_count_place
returns-then-block-marks c = λ image are.
    let disk = over c.args.metadata.now image in
    let block = 256 * c.args.p + c.args.k in
    let there : nat_lt block disk.blocks ≡ true = lt-ltb block disk.blocks (let s = c.requires.size in omega (arith, s)) in
    let count_at = c.u16_at-count.ensures ∙ (λ j. number_at 2 (2 * c.args.k) (c.page.ensures j)) in
    c.is_count.ensures ∙ count_is (uses_of disk) block _ _ (are.each block _ (let s = c.requires.size in omega (arith, s))) (omega arith)
    ∙ (λ j. is_count (uses_of disk) block (count_at j)) ∙ sym (cond-true (nat_lt block disk.blocks) _ _ there)

pub returns-else-block-marks : goal.returns-else-block-marks
unfolding is_count_place
returns-else-block-marks c = λ image are.
    let disk = over c.args.metadata.now image in
    let block = 256 * c.args.p + c.args.k in
    let none : nat_lt block disk.blocks ≡ false = le-ltb block disk.blocks (let s = c.requires.size in omega (arith, s)) in
    let count_at = c.u16_at-count.ensures ∙ (λ j. number_at 2 (2 * c.args.k) (c.page.ensures j)) in
    (λ j. count_at j == 0) ∙ sym (cond-false (nat_lt block disk.blocks) _ _ none)
