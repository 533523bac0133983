use Rattle.store_laws.proofs.Pieces as lemmas
use Rattle.store_laws.proofs.moved_laws.piece_law.Goals as goal

pub returns : goal.returns
returns c = lemmas.pieces_are_kept
