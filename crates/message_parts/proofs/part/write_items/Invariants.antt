use Rattle.std.proofs.Common.{◌≡◌, ◌++◌, drop}
use Rattle.message_parts.specs.Spelled.{items}
use Rattle.message_parts.proofs.part.write_items.Given as goal

abbrev pub invariant-loop-part : goal.invariant-loop-part
invariant-loop-part g l = l.out ++ (items g.T.Part.spelled (drop l.part-index l.parts)).bytes ≡ l.initial.out ++ (items g.T.Part.spelled l.parts).bytes
