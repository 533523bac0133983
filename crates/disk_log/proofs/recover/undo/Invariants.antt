use Rattle.std.proofs.Common.{◌≡◌, ◌-◌, ℕ, List, length, drop, get_or, None}
use Rattle.std.specs.Prelude.{false, IsSome}
use Rattle.disk_layout.specs.Pages.{undone, is_named}
use Rattle.disk_log.specs.Pages.{AreKept}
use Rattle.disk_log.proofs.recover.undo.Given as goal

abbrev pub invariant-loop-i : goal.invariant-loop-i
invariant-loop-i l = record {
  size : length l.pages ≡ length l.initial.pages;
  kept : (known : ℕ → List ℕ) → AreKept l.initial.pages known → AreKept l.pages (undone l.entries (drop (length l.entries - l.i) l.entries) known);
  held : (p : ℕ) → IsSome (get_or l.initial.pages p None) → IsSome (get_or l.pages p None);
  others : (p : ℕ) → is_named p l.entries ≡ false → get_or l.pages p None ≡ get_or l.initial.pages p None;
}
