use Rattle.std.proofs.Common.{◌≡◌, map, drop}
use Rattle.std.specs.String.{string_bytes}
use Rattle.script_commands.specs.Plain.{are_plain}
use Rattle.script_commands.proofs.Refused.{awaited}
use Rattle.script_commands.proofs.plain.are_plain.Given as goal

abbrev pub invariant-loop-word : goal.invariant-loop-word
invariant-loop-word l = are_plain (awaited l.awaits (map string_bytes (drop l.word-index l.words))) ≡ are_plain (map string_bytes l.words)
