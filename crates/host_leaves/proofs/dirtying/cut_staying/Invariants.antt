use Rattle.std.proofs.Common.{◌≡◌, ℕ, ◌&&◌, not, take}
use Rattle.std.specs.List.{list_any}
use Rattle.base_types.specs.Spans.{in_spans}
use Rattle.host_leaves.specs.Dirtying.{staying_of, updates_byte}
use Rattle.host_leaves.proofs.dirtying.cut_staying.Given as goal

abbrev pub invariant-loop-token : goal.invariant-loop-token
invariant-loop-token l = (at : ℕ) → in_spans l.cover at ≡ (in_spans l.initial.cover at
    && not (list_any (updates_byte at) (staying_of (take l.token-index l.held) l.leaving)))
