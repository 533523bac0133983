use Rattle.std.proofs.Common.{◌≡◌, [], drop}
use Rattle.script_words.specs.Fields.{all_named}
use Rattle.script_words.proofs.fields.all_named.Given as goal

abbrev pub invariant-loop-word : goal.invariant-loop-word
invariant-loop-word l = all_named l.names (drop l.word-index l.words) ≡ all_named [] l.words
