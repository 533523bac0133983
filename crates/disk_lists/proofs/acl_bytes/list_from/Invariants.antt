use Rattle.std.proofs.Common.{◌≡◌, ◌≤◌, ◌+◌, ◌*◌, List, length}
use Rattle.base_types.specs.declared.access.AccessEntry.{AccessEntry}
use Rattle.disk_lists.specs.Lists.{HoldsList}
use Rattle.disk_lists.proofs.AclLaid.{Stands, Left, block_of}
use Rattle.disk_lists.proofs.acl_bytes.list_from.Given as goal

abbrev pub invariant-loop-i : goal.invariant-loop-i
invariant-loop-i l = record {
  low : l.at ≤ 1 + 63 * l.i;
  count : length l.entries ≡ l.i;
  stands : Stands l.bytes l.entries l.at;
  left : (entries : List AccessEntry) → HoldsList entries (block_of l.bytes) → Left l.bytes entries l.entries l.at;
}
