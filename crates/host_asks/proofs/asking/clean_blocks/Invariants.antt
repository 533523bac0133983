use Rattle.std.proofs.Common.{◌≡◌, ◌&&◌, ℕ, not, take}
use Rattle.std.specs.List.{list_any}
use Rattle.base_types.specs.Spans.{has_byte, in_spans}
use Rattle.host_asks.specs.Fetching.{is_near}
use Rattle.host_asks.proofs.asking.clean_blocks.Given as goal

abbrev pub invariant-loop-other : goal.invariant-loop-other
invariant-loop-other l =
    (at : ℕ) → in_spans l.clean at
    ≡ (has_byte l.fn.span at && not (list_any (is_near at) (take l.other-index l.other-items)))
