use Rattle.std.proofs.Common.{◌≡◌, ◌∙◌, sym, ap, arith}
use Rattle.std.proofs.lemmas.List.{drop_all}
use Rattle.disk_fileset.specs.Giving.{start_of, end_of}
use Rattle.disk_fileset.proofs.Pieces.{lie_between}
use Rattle.disk_fileset.proofs.giving.span_of.Goals as goal

pub returns-clause-lie : goal.returns-clause-lie
returns-clause-lie c =
    let past = drop_all c.loop-piece.piece-index c.args.pieces.now c.loop-piece-test.false in
    let first : c.loop-piece.from ≡ start_of c.args.end c.args.pieces.now = sym (ap (start_of c.loop-piece.from) past) ∙ c.loop-piece.invariant.first in
    let last : c.loop-piece.to ≡ end_of 0 c.args.pieces.now = sym (ap (end_of c.loop-piece.to) past) ∙ c.loop-piece.invariant.last in
    let low = c.min-2.ensures in
    let high = c.min-to.ensures in
    lie_between c.args.end 0 c.args.end c.min-2.result c.min-to.result c.args.pieces.now c.requires (omega (arith, low, first)) (omega (arith, high, last))
