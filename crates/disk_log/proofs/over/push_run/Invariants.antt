use Rattle.std.proofs.Common.{◌≡◌, ◌+◌, ◌++◌, drop}
use Rattle.std.specs.Vec.{vec_len, vec_capacity}
use Rattle.disk_log.specs.Puts.{updates_of, count_of}
use Rattle.disk_log.proofs.over.push_run.Given as goal

abbrev pub invariant-loop-put : goal.invariant-loop-put
invariant-loop-put l = record {
  so_far : l.entries.items ++ updates_of l.slot l.name (drop l.put-index l.puts) ≡ l.initial.entries.items ++ updates_of l.slot l.name l.puts;
  len : vec_len l.entries + count_of l.slot (drop l.put-index l.puts) ≡ vec_len l.initial.entries + count_of l.slot l.puts;
  capacity : vec_capacity l.entries ≡ vec_capacity l.initial.entries;
}
