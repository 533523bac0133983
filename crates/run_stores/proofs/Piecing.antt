-- Two pieces for one byte, and pieces that rise.
use Rattle.std.proofs.Common.{refl}
use Rattle.run_stores.specs.Pieces.{GivesFit, PiecesDiffer}

pub pieces_differ : PiecesDiffer
pieces_differ = record { by_rules = refl; in_store = refl }

pub gives_fit : GivesFit
gives_fit = record {
  acts = λ roster server host number fid pieces given declared whole size. (declared, whole.ends, size);
  rise = λ pieces whole. whole.order;
}
