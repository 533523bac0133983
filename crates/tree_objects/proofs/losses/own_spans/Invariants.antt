use Rattle.std.proofs.Common.{◌≡◌, ◌≤◌, ◌++◌, drop}
use Rattle.tree_objects.specs.Losses.{spans_of, spans_from, own_bytes}
use Rattle.tree_objects.specs.Stretches.{all_bytes}
use Rattle.tree_objects.proofs.losses.own_spans.Given as goal

-- the spans so far, the running one, and those of the bytes that are left
abbrev pub invariant-loop-stretch : goal.invariant-loop-stretch
invariant-loop-stretch l = record {
  spans : l.spans ++ spans_from l.last.from l.last.to (own_bytes l.host
      (all_bytes (drop l.stretch-index l.stretches))) ≡ spans_of (own_bytes l.host (all_bytes l.stretches));
  ordered : l.last.from ≤ l.last.to;
}
