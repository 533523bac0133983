use Rattle.std.proofs.Common.{ap, map, take, [], ◌++◌, ◌∙◌, ◌∷◌, ◌≡◌}
use Rattle.tree_calls.specs.declared.part.Piece.{Piece}
use Rattle.host_leaves.specs.Giving.{piece_at}
use Rattle.host_leaves.proofs.Steps.{item_in, map_next}
use Rattle.host_leaves.proofs.giving.pieces_of.Goals as goal

pub bytes_of-requires : goal.bytes_of-requires
bytes_of-requires c =
    c.requires c.span-item.result (item_in c.args.spans.now c.loop-span.span-index c.span-item.result
    c.loop-span-test.true c.span-item.is)

pub loop-span-preserved : goal.loop-span-preserved
loop-span-preserved c =
    let piece : Piece = record { from = c.span-item.result.from; bytes = c.in_ok-bytes.bytes } in
    let is : piece ≡ piece_at c.args.tables.now c.args.fid c.span-item.result =
    ap (λ bytes. record { from = c.span-item.result.from; bytes = bytes }) c.in_ok-bytes.ensures in
    c.in_ok-push.ensures.ok
    ∙ ap (λ pieces. pieces ++ piece ∷ []) c.loop-span.invariant
    ∙ ap (λ p. map (piece_at c.args.tables.now c.args.fid) (take c.loop-span.span-index c.args.spans.now) ++ p ∷ []) is
    ∙ map_next c.args.spans.now c.loop-span.span-index c.span-item.result c.loop-span-test.true c.span-item.is
    (piece_at c.args.tables.now c.args.fid)
