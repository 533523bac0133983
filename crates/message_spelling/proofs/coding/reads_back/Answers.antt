use Rattle.message_spelling.proofs.Decoding.{written_back}
use Rattle.message_spelling.proofs.coding.reads_back.Goals as goal

pub returns : goal.returns
returns c = written_back
