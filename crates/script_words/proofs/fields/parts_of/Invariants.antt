use Rattle.std.proofs.Common.{◌≡◌, [], drop}
use Rattle.script_words.specs.Fields.{parts_from}
use Rattle.script_words.proofs.fields.parts_of.Given as goal

abbrev pub invariant-loop-byte : goal.invariant-loop-byte
invariant-loop-byte l = parts_from l.separator l.parts l.part (drop l.byte-index l.bytes) ≡ parts_from l.separator [] [] l.bytes
