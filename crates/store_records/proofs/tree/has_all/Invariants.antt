use Rattle.std.proofs.Common.{◌≡◌, ◌<◌, ℕ, nat_eq, true, is_some}
use Rattle.std.specs.List.{list_any}
use Rattle.tree_filesets.specs.Walk.{object_at}
use Rattle.store_records.proofs.tree.has_all.Given as goal

-- each object before this anode is among them
abbrev pub invariant-loop-at : goal.invariant-loop-at
invariant-loop-at l = (at : ℕ) → at < l.at → is_some (object_at l.anodes at) ≡ true → list_any (nat_eq at) l.found ≡ true
