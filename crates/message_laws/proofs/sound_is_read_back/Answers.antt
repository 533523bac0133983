use Rattle.message_spelling.proofs.Decoding.{written_back}
use Rattle.message_laws.proofs.Whole.{read_back}
use Rattle.message_laws.proofs.sound_is_read_back.Goals as goal

pub returns : goal.returns
returns c = read_back written_back
