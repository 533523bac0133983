use Rattle.message_spelling.proofs.Decoding.{one_reading}
use Rattle.message_spelling.proofs.coding.one_spelling.Goals as goal

pub returns : goal.returns
returns c = one_reading
