use Rattle.std.proofs.Common.{◌≡◌, ◌≤◌, ◌+◌, ◌*◌, ◌++◌, drop}
use Rattle.std.specs.Prelude.{vec_len}
use Rattle.disk_lists.specs.Lists.{entries_bytes, list_bytes, EachFits}
use Rattle.disk_lists.proofs.acl_bytes.list_in_bytes.Given as goal

abbrev pub invariant-loop-entry : goal.invariant-loop-entry
invariant-loop-entry l = record {
  items : l.bytes.items ++ entries_bytes (drop l.entry-index l.entries) ≡ list_bytes l.entries;
  few : vec_len l.bytes ≤ 1 + 63 * l.entry-index;
  fits : EachFits (drop l.entry-index l.entries) → EachFits l.entries;
}
