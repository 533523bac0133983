use Rattle.std.proofs.Common.{◌≡◌, take}
use Rattle.token_table.specs.Marks.{without_each}
use Rattle.token_table.proofs.notes.Notes.remove_each.Given as goal

abbrev pub invariant-loop-token : goal.invariant-loop-token
invariant-loop-token l = l.self ≡ without_each l.initial.self (take l.token-index l.tokens)
