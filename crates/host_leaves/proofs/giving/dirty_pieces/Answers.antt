use Rattle.std.proofs.Common.{ap, subst, sym, ◌∙◌, ◌≡◌, map}
use Rattle.std.proofs.lemmas.Result.{IfOk-weaker}
use Rattle.host_dirty.specs.Dirtiness.{spans_of}
use Rattle.token_ranges.specs.Positions.{IsApart}
use Rattle.host_leaves.specs.Dirtying.{spans_within}
use Rattle.host_leaves.specs.Giving.{AreSeen, piece_at}
use Rattle.host_leaves.proofs.giving.dirty_pieces.Goals as goal

pub pieces_of-requires : goal.pieces_of-requires
pieces_of-requires c =
    let e = c.as_slice.ensures ∙ c.in_ok-out.ensures
    ∙ ap (λ spans. spans_within spans c.args.cover.now) c.spans.ensures.spans in
    subst (AreSeen c.args.tables.now c.args.fid) (sym e) c.requires

pub returns-clause-pieces : goal.returns-clause-pieces
returns-clause-pieces c =
    let e = c.as_slice.ensures ∙ c.in_ok-out.ensures
    ∙ ap (λ spans. spans_within spans c.args.cover.now) c.spans.ensures.spans in
    IfOk-weaker c.pieces_of.result (λ pieces. pieces ≡ map (piece_at c.args.tables.now c.args.fid)
    c.as_slice.result.now)
    (λ pieces. pieces ≡ map (piece_at c.args.tables.now c.args.fid)
    (spans_within (spans_of c.args.tables.now.dirty c.args.fid) c.args.cover.now))
    (λ pieces h. h ∙ ap (map (piece_at c.args.tables.now c.args.fid)) e) c.pieces_of.ensures

pub returns-clause-apart : goal.returns-clause-apart
returns-clause-apart c =
    IfOk-weaker c.pieces_of.result (λ pieces. pieces ≡ map (piece_at c.args.tables.now c.args.fid)
    c.as_slice.result.now)
    (λ pieces. IsApart (spans_of c.args.tables.now.dirty c.args.fid))
    (λ pieces h. subst IsApart c.spans.ensures.spans c.spans.ensures.apart) c.pieces_of.ensures
