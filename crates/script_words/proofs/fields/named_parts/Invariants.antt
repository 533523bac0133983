use Rattle.std.proofs.Common.{◌≡◌, [], length}
use Rattle.script_words.specs.Fields.{all_named, parts_of}
use Rattle.script_words.specs.Reading.{part_len}
use Rattle.script_words.proofs.fields.named_parts.Given as goal

abbrev pub invariant-loop-len : goal.invariant-loop-len
invariant-loop-len l = (l.len ≡ part_len l.separator l.rest) × (all_named l.names (parts_of l.separator l.rest) ≡ all_named [] (parts_of l.separator l.bytes))

abbrev pub decreases-loop-len : goal.decreases-loop-len
decreases-loop-len l = length l.rest
