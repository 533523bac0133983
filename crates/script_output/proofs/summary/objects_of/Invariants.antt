use Rattle.std.proofs.Common.{◌≡◌, ◌+◌, ◌≤◌, drop}
use Rattle.script_output.specs.Summary.{objects_of}
use Rattle.script_output.proofs.summary.objects_of.Given as goal

-- the objects so far, and those that are left; at most one stands at each anode
abbrev pub invariant-loop-anode : goal.invariant-loop-anode
invariant-loop-anode l = record {
  counted : l.count + objects_of (drop l.anode-index l.anode-items) ≡ objects_of l.anodes;
  within : l.count ≤ l.anode-index;
}
