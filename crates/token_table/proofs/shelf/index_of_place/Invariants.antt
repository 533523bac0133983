use Rattle.std.proofs.Common.{◌≡◌, ◌++◌, take, drop}
use Rattle.token_table.specs.Places.{placed}
use Rattle.token_table.proofs.shelf.index_of_place.Given as goal

abbrev pub invariant-loop-index : goal.invariant-loop-index
invariant-loop-index l =
    take l.index l.tokens ++ placed l.server l.epoch l.token (drop l.index l.tokens)
    ≡ placed l.server l.epoch l.token l.tokens
