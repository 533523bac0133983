use Rattle.std.proofs.Common.{◌≡◌, ◌≤◌, ◌<◌, ◌-◌, ◌*◌, ℕ, List, length}
use Rattle.std.specs.Prelude.{true, false}
use Rattle.base_types.specs.Name.{is_before}
use Rattle.tree_calls.specs.declared.part.DirEntry.{DirEntry}
use Rattle.disk_lists.specs.Entries.{name_in, AreEntries}
use Rattle.disk_lists.proofs.bytes.place_of.Given as goal

abbrev pub invariant-loop-low : goal.invariant-loop-low
invariant-loop-low l = record {
  ordered : l.low ≤ l.high;
  within : 72 * l.high ≤ length l.bytes;
  below : (entries : List DirEntry) → AreEntries entries l.bytes → (i : ℕ) → i < l.low → is_before l.name (name_in entries i) ≡ false;
  above : (entries : List DirEntry) → AreEntries entries l.bytes → (i : ℕ) → l.high ≤ i → i < length entries → is_before l.name (name_in entries i) ≡ true;
}

abbrev pub decreases-loop-low : goal.decreases-loop-low
decreases-loop-low l = l.high - l.low
