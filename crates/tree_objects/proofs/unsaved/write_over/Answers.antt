use Rattle.std.proofs.Common.{◌≡◌, true, ◌+◌, ◌-◌, length, take, drop, sym, subst, ap, ◌∙◌}
use Rattle.std.specs.List.{list_all}
use Rattle.std.proofs.lemmas.Result.{on_ok_weaker}
use Rattle.tree_objects.specs.Changes.{unsaved_after}
use Rattle.tree_objects.specs.Cuts.{IsCut}
use Rattle.tree_objects.specs.Stretches.{all_bytes, is_stretch}
use Rattle.tree_objects.proofs.Observed.{and_left}
use Rattle.tree_objects.proofs.Cuts.{cut_written, each_put, each_taken, each_dropped, piece_put, piece_each}
use Rattle.tree_objects.proofs.unsaved.write_over.Goals as goal

pub written_over-requires-clause-each : goal.written_over-requires-clause-each
written_over-requires-clause-each c =
    let ss = c.as_slice-list.result.now in let i = c.cut_at-cut.result.from in let k = c.cut_at-cut.result.to in
    let each : list_all is_stretch ss ≡ true = subst (λ xs. list_all is_stretch xs ≡ true) (sym c.as_slice-list.ensures)
    (and_left _ _ c.requires.stand) in
    each_taken is_stretch (drop i ss) (k - i) (each_dropped is_stretch ss i each)

pub returns-clause-ok : goal.returns-clause-ok
returns-clause-ok c =
    let host = c.args.host in let from = c.args.from in let bytes = c.args.bytes.now in
    let i = c.cut_at-cut.result.from in let k = c.cut_at-cut.result.to in
    let cut : IsCut c.args.stretches.now from (from + length bytes) i k
    = subst (λ xs. IsCut xs from (from + length bytes) i k) c.as_slice-list.ensures c.cut_at-cut.ensures in
    let made = c.in_ok-written.ensures.value
    ∙ ap (λ xs. unsaved_after (all_bytes (take (k - i) (drop i xs))) host from bytes) c.as_slice-list.ensures in
    cut_written c.args.stretches.now c.in_ok-written.written.items c.put_between.new.stretches host from bytes i k cut
    made c.in_ok-put_between.ensures.ok

pub returns-clause-each : goal.returns-clause-each
returns-clause-each c =
    each_put c.args.stretches.now c.in_ok-written.written.items c.put_between.new.stretches c.cut_at-cut.result.from
    c.cut_at-cut.result.to c.in_ok-put_between.ensures.ok (and_left _ _ c.requires.stand) c.in_ok-written.ensures.each

pub returns-then-is_piece-clause-ok : goal.returns-then-is_piece-clause-ok
returns-then-is_piece-clause-ok c =
    let host = c.args.host in let from = c.args.from in let bytes = c.args.bytes.now in
    let i = c.cut_at-cut.result.from in let k = c.cut_at-cut.result.to in
    let cut : IsCut c.args.stretches.now from (from + length bytes) i k
    = subst (λ xs. IsCut xs from (from + length bytes) i k) c.as_slice-list.ensures c.cut_at-cut.ensures in
    on_ok_weaker c.put_piece.result (λ put. piece_put c.args.stretches.now _ host from bytes i k cut c.if-cut.true put)
    c.put_piece.ensures.ok

pub returns-then-is_piece-clause-each : goal.returns-then-is_piece-clause-each
returns-then-is_piece-clause-each c =
    on_ok_weaker c.put_piece.result
    (λ put. piece_each c.args.stretches.now _ c.args.host c.args.from c.args.bytes.now c.cut_at-cut.result.from put
    (and_left _ _ c.requires.stand) (c.is_piece.ensures c.if-is_piece.true) c.requires.within) c.put_piece.ensures.ok
