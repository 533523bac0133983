use Rattle.std.proofs.Common.{◌≡◌, ℕ, take}
use Rattle.std.specs.List.{list_any}
use Rattle.base_types.specs.Spans.{in_spans}
use Rattle.host_leaves.specs.Dirtying.{updates_byte}
use Rattle.host_leaves.proofs.dirtying.cover_of.Given as goal

abbrev pub invariant-loop-token : goal.invariant-loop-token
invariant-loop-token l =
    (at : ℕ) → in_spans l.cover at ≡ list_any (updates_byte at) (take l.token-index l.tokens)
