use Rattle.std.proofs.Common.{◌≡◌, [], ◌∷◌, ◌++◌}
use Rattle.std.proofs.lemmas.Result.{err_from_is_err_and}
use Rattle.message_parts.specs.Objects.{pieces_from}
use Rattle.message_parts.proofs.Pieces.{pieces_go_on, pieces_end, pieces_done}
use Rattle.message_parts.proofs.object.pieces_from.Goals as goal

pub returns-in_err-piece : goal.returns-in_err-piece
returns-in_err-piece c =
    let p = err_from_is_err_and c.from_residual-in_err-piece.result c.from_residual-in_err-piece.ensures.1 in
    rw (p.1, p.2) (pieces_end c.loop.left c.in_err-piece.field-0.0 c.loop.pieces c.args.count c.loop.counter c.loop.rest.now (pieces_from c.args.room c.args.count c.args.bytes.now) c.loop-test.true c.in_err-piece.ensures.piece c.loop.invariant)

pub loop-preserved : goal.loop-preserved
loop-preserved c =
    let x = c.in_ok-piece.piece in
    let e : c.push.new.self ≡ c.loop.pieces ++ x ∷ [] = c.in_ok-push.ensures.ok in
    rw (e, c.len.ensures) (pieces_go_on c.loop.left c.loop.pieces c.args.count c.loop.counter c.loop.rest.now x c.in_ok-piece.behind.now (pieces_from c.args.room c.args.count c.args.bytes.now) c.loop-test.true c.in_ok-piece.ensures.piece c.loop.invariant)

pub returns : goal.returns
returns c =
    pieces_done c.loop.left c.loop.pieces c.args.count c.loop.counter c.loop.rest.now (pieces_from c.args.room c.args.count c.args.bytes.now) c.loop-test.false c.loop.invariant
