use Rattle.std.proofs.Common.{◌≡◌, ◌+◌, drop}
use Rattle.script_words.specs.Reading.{plain_len}
use Rattle.script_words.proofs.words.plain_len.Given as goal

abbrev pub invariant-loop-i : goal.invariant-loop-i
invariant-loop-i l = plain_len l.text ≡ l.i + plain_len (drop l.i l.text)
