use Rattle.std.proofs.Common.{◌≡◌, ◌++◌, drop}
use Rattle.disk_lists.specs.Entries.{bytes_of, EachFits}
use Rattle.disk_lists.proofs.bytes.bytes_of.Given as goal

abbrev pub invariant-loop-entry : goal.invariant-loop-entry
invariant-loop-entry l = record {
  items : l.bytes.items ++ bytes_of (drop l.entry-index l.entries) ≡ bytes_of l.entries;
  fits : EachFits (drop l.entry-index l.entries) → EachFits l.entries;
}
