use Rattle.std.proofs.Common.{◌≡◌, ◌≤◌, drop}
use Rattle.script_words.specs.Fields.{value_from}
use Rattle.script_words.proofs.fields.value_up_to.Given as goal

abbrev pub invariant-loop-byte : goal.invariant-loop-byte
invariant-loop-byte l = (l.value ≤ l.most) × (value_from l.most l.value (drop l.byte-index l.word) ≡ value_from l.most 0 l.word)
