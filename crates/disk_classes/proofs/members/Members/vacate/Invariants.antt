use Rattle.std.proofs.Common.{◌≡◌, ◌≤◌, ◌<◌, ℕ, length, get_or, None}
use Rattle.std.specs.Prelude.{Contains}
use Rattle.disk_classes.specs.Notes.{noted_at, class_of, vacated}
use Rattle.disk_classes.proofs.members.Members.vacate.Given as goal

-- the numbers so far are vacant, if they are of the class
abbrev pub invariant-loop-number : goal.invariant-loop-number
invariant-loop-number l = record {
  size : length l.self.noted ≡ length l.fn.self.noted;
  past : (m : ℕ) → m < l.number → noted_at l.self.noted m ≡ noted_at (vacated l.class 0 l.fn.self.noted) m;
  ahead : (m : ℕ) → l.number ≤ m → noted_at l.self.noted m ≡ noted_at l.fn.self.noted m;
  put : (m p : ℕ) → m < l.number → class_of l.fn.self.noted m ≡ l.class → Contains (noted_at l.fn.self.noted m).pages p → get_or l.self.values p None ≡ None;
  kept : (p : ℕ) → ((m : ℕ) → m < l.number → class_of l.fn.self.noted m ≡ l.class → Contains (noted_at l.fn.self.noted m).pages p → ⊥) → get_or l.self.values p None ≡ get_or l.fn.self.values p None;
}
