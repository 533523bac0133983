use Rattle.std.proofs.Common.{ap, map, refl, subst, sym, ◌∙◌, ◌&&◌, not}
use Rattle.base_types.specs.Ids.{same_fid}
use Rattle.base_types.specs.Spans.{in_spans}
use Rattle.host_dirty.specs.Dirtiness.{is_dirty, spans_of}
use Rattle.token_ranges.specs.Positions.{IsApart}
use Rattle.host_leaves.specs.Dirtying.{spans_within}
use Rattle.host_leaves.specs.Giving.{AreLeft, AreSeen, piece_at}
use Rattle.host_leaves.proofs.Pieces.{are_left, are_seen}
use Rattle.host_leaves.proofs.giving.take_dirty.Goals as goal

pub dirty_pieces-requires : goal.dirty_pieces-requires
dirty_pieces-requires c =
    subst (λ cover. AreSeen c.args.tables.now c.args.fid
    (spans_within (spans_of c.args.tables.now.dirty c.args.fid) cover)) (sym c.spans.ensures.value)
    (are_seen c.args.tables.now c.args.fid c.args.giving.now c.args.leaving.now (spans_of c.args.tables.now.dirty
    c.args.fid) c.in_ok-cover.cover refl c.in_ok-cover.ensures c.requires)

pub returns-clause-pieces : goal.returns-clause-pieces
returns-clause-pieces c =
    subst (λ pieces. AreLeft c.args.tables.now c.args.fid c.args.giving.now c.args.leaving.now pieces)
    (sym (c.in_ok-pieces.ensures.pieces
    ∙ ap (λ cover. map (piece_at c.args.tables.now c.args.fid)
    (spans_within (spans_of c.args.tables.now.dirty c.args.fid) cover)) c.spans.ensures.value))
    (are_left c.args.tables.now c.args.fid c.args.giving.now c.args.leaving.now (spans_of c.args.tables.now.dirty
    c.args.fid) c.in_ok-cover.cover refl c.in_ok-cover.ensures c.in_ok-pieces.ensures.apart c.spans.ensures.apart)

pub returns-clause-cleans : goal.returns-clause-cleans
returns-clause-cleans c =
    record {
      bytes = λ other at. c.in_ok-clean.ensures.bytes other at
          ∙ ap (λ t. is_dirty c.args.tables.now.dirty other at && not (same_fid c.args.fid other && t))
          (ap (λ spans. in_spans spans at) c.spans-2.ensures.value ∙ c.in_ok-cover.ensures at);
      lengths = λ other. c.in_ok-clean.ensures.lengths other;
    }
