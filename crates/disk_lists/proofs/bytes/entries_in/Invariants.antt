use Rattle.std.proofs.Common.{◌≡◌, List, take}
use Rattle.tree_calls.specs.declared.part.DirEntry.{DirEntry}
use Rattle.disk_lists.specs.Entries.{AreEntries}
use Rattle.disk_lists.proofs.bytes.entries_in.Given as goal

abbrev pub invariant-loop-i : goal.invariant-loop-i
invariant-loop-i l = (entries : List DirEntry) → AreEntries entries l.bytes → l.made ≡ take l.i entries
