use Rattle.std.proofs.Common.{◌≡◌, ◌++◌, take, drop, map}
use Rattle.token_table.specs.Parts.{passing}
use Rattle.token_table.specs.Shelves.{keeps}
use Rattle.token_table.proofs.parts.keep_each.Given as goal

abbrev pub invariant-loop-index : goal.invariant-loop-index
invariant-loop-index l =
    l.parts
    ≡ map (passing (keeps l.server l.epoch l.kept)) (take l.index l.initial.parts) ++ drop l.index l.initial.parts
