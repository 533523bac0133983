use Rattle.std.proofs.Common.{take}
use Rattle.store_records.specs.Tree.{LeadOn}
use Rattle.store_records.proofs.tree.add_targets.Given as goal

-- the entries so far lead on
abbrev pub invariant-loop-entry : goal.invariant-loop-entry
invariant-loop-entry l = LeadOn l.anodes (take l.entry-index l.entries) l.fn.found l.found
