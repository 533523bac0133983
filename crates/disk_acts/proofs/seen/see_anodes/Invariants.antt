use Rattle.std.proofs.Common.{◌≡◌, map, take}
use Rattle.disk_acts.specs.Seen.{seen_anode}
use Rattle.disk_acts.proofs.seen.see_anodes.Given as goal

abbrev pub invariant-loop-anode : goal.invariant-loop-anode
invariant-loop-anode l = l.seen ≡ map seen_anode (take l.anode-index l.anodes)
