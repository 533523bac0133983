use Rattle.std.proofs.Common.{◌≡◌, take}
use Rattle.token_table.specs.Marks.{with_each}
use Rattle.token_table.proofs.notes.Notes.insert_each.Given as goal

abbrev pub invariant-loop-index : goal.invariant-loop-index
invariant-loop-index l = l.self ≡ with_each l.initial.self (take l.index l.tokens) l.note
