use Rattle.script_words.proofs.Spelled.{words_read_back}
use Rattle.script_words.proofs.words.words_are_read_back.Goals as goal

pub returns : goal.returns
returns c = words_read_back
