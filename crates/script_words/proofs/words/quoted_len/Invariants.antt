use Rattle.std.proofs.Common.{◌≡◌, ◌+◌, drop}
use Rattle.script_words.specs.Reading.{quoted_len}
use Rattle.script_words.proofs.words.quoted_len.Given as goal

abbrev pub invariant-loop-i : goal.invariant-loop-i
invariant-loop-i l = quoted_len l.text ≡ l.i + quoted_len (drop l.i l.text)
