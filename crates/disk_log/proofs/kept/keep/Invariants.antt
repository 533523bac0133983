use Rattle.std.proofs.Common.{◌≡◌, ◌<◌, ℕ, List, length, take, get_or, None}
use Rattle.std.specs.Prelude.{true, false, IsSome}
use Rattle.disk_layout.specs.Pages.{redone, is_named}
use Rattle.disk_log.specs.Pages.{AreKept}
use Rattle.disk_log.proofs.kept.keep.Given as goal

abbrev pub invariant-loop-entry : goal.invariant-loop-entry
invariant-loop-entry l = record {
  size : length l.pages ≡ length l.initial.pages;
  kept : (known : ℕ → List ℕ) → AreKept l.initial.pages known → AreKept l.pages (redone (take l.entry-index l.entries) known);
  named : (p : ℕ) → p < length l.initial.pages → is_named p (take l.entry-index l.entries) ≡ true → IsSome (get_or l.pages p None);
  others : (p : ℕ) → is_named p (take l.entry-index l.entries) ≡ false → get_or l.pages p None ≡ get_or l.initial.pages p None;
}
