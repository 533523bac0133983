use Rattle.std.proofs.Common.{◌≡◌, ℕ}
use Rattle.std.specs.Prelude.{◌||◌, not, true}
use Rattle.disk_pages.specs.Words.{each_below}
use Rattle.disk_pages.specs.Header.{is_taken_slot}
use Rattle.disk_image.specs.Slots.{state_at, are_alike}
use Rattle.disk_judge.specs.Metadata.{plain}
use Rattle.disk_judge.proofs.slot.is_first.Given as goal

abbrev pub invariant-loop-earlier : goal.invariant-loop-earlier
invariant-loop-earlier l = each_below (λ (earlier : ℕ). not (is_taken_slot (state_at (plain l.metadata) earlier)) || not (are_alike (plain l.metadata) earlier l.fn.slot)) l.earlier ≡ true
