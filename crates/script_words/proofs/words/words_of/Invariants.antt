use Rattle.std.proofs.Common.{◌≡◌, [], length}
use Rattle.script_words.specs.Words.{words_from, said}
use Rattle.script_words.specs.Words.Mode.{Between}
use Rattle.script_words.proofs.words.words_of.Given as goal

abbrev pub invariant-loop-rest : goal.invariant-loop-rest
invariant-loop-rest l = (said l.reader Between l.rest ≡ words_from [] [] Between l.text) × (l.reader.word ≡ [])

abbrev pub decreases-loop-rest : goal.decreases-loop-rest
decreases-loop-rest l = length l.rest
