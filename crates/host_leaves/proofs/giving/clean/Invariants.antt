use Rattle.std.proofs.Common.{◌≡◌, ℕ, ◌&&◌, not, take}
use Rattle.base_types.specs.Ids.{same_fid}
use Rattle.base_types.specs.Spans.{in_spans}
use Rattle.base_types.specs.declared.ids.Fid.{Fid}
use Rattle.host_dirty.specs.Dirtiness.{is_dirty, length_of}
use Rattle.host_leaves.proofs.giving.clean.Given as goal

abbrev pub invariant-loop-span : goal.invariant-loop-span
invariant-loop-span l = record {
  bytes : (other : Fid) (at : ℕ) → is_dirty l.dirty other at ≡ (is_dirty l.initial.dirty other at
      && not (same_fid l.fid other && in_spans (take l.span-index l.spans) at));
  lengths : (other : Fid) → length_of l.dirty other ≡ length_of l.initial.dirty other;
}
