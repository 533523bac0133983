use Rattle.std.proofs.Common.{◌≡◌, ◌+◌, drop}
use Rattle.script_words.specs.Reading.{space_len}
use Rattle.script_words.proofs.words.space_len.Given as goal

abbrev pub invariant-loop-i : goal.invariant-loop-i
invariant-loop-i l = space_len l.text ≡ l.i + space_len (drop l.i l.text)
