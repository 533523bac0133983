use Rattle.std.proofs.Common.{◌≡◌, drop}
use Rattle.script_words.specs.Lists.{rights_from}
use Rattle.script_words.proofs.lists.rights_in.Given as goal

abbrev pub invariant-loop-letter : goal.invariant-loop-letter
invariant-loop-letter l = rights_from l.rights (drop l.letter-index l.word) ≡ rights_from 0 l.word
