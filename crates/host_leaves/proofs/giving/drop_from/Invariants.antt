use Rattle.std.proofs.Common.{◌≡◌, ◌++◌, map, take}
use Rattle.host_cache.specs.Seen.{seen}
use Rattle.host_leaves.specs.Giving.{leaves_by, shown_without}
use Rattle.host_leaves.proofs.giving.drop_from.Given as goal

abbrev pub invariant-loop-token : goal.invariant-loop-token
invariant-loop-token l = record {
  shown : seen l.cache ≡ shown_without (seen l.initial.cache) (take l.token-index l.tokens);
  dropped : l.dropped ≡ l.initial.dropped ++ map (leaves_by l.why) (take l.token-index l.tokens);
}
