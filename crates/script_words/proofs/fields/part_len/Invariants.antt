use Rattle.std.proofs.Common.{◌≡◌, ◌+◌, drop}
use Rattle.script_words.specs.Reading.{part_len}
use Rattle.script_words.proofs.fields.part_len.Given as goal

abbrev pub invariant-loop-i : goal.invariant-loop-i
invariant-loop-i l = part_len l.separator l.bytes ≡ l.i + part_len l.separator (drop l.i l.bytes)
