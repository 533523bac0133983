use Rattle.std.proofs.Common.{◌≡◌, map, replicate}
use Rattle.tree_filesets.specs.Founding.{unused_anode}
use Rattle.disk_acts.specs.Seen.{seen_anode}
use Rattle.disk_acts.proofs.touched.unused_anodes.Given as goal

abbrev pub invariant-loop-at : goal.invariant-loop-at
invariant-loop-at l = l.anodes ≡ map seen_anode (replicate l.at unused_anode)
