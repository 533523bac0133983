use Rattle.std.proofs.Common.{false, ◌≡◌, ◌+◌, ◌*◌, subst, sym, ap, ◌∙◌, arith}
use Rattle.token_types.specs.Covers.{Covers}
use Rattle.token_types.specs.declared.token.Kind.TheVariants.{Bytes}
use Rattle.host_walk.specs.Views.{held_by}
use Rattle.host_walk.proofs.Blocks.{block_lacks, block_need_is, blocks_fewer, blocks_more, blocks_none, is_false}
use Rattle.host_walk.proofs.looks.first_lack.Goals as goal

pub loop-block-init : goal.loop-block-init
loop-block-init c =
    blocks_none (held_by c.args.cache.now) c.args.fid c.args.span.from _ (omega arith)

pub returns-then-not-covers : goal.returns-then-not-covers
returns-then-not-covers c =
    let held = held_by c.args.cache.now in
    let block = c.loop-block.block in
    let is = c.bytes_need-need.ensures
    ∙ ap (λ s. record { fid = c.args.fid; kind = Bytes false s }) c.positions-around.ensures
    ∙ block_need_is c.args.fid block c.saturating_mul-from.result c.saturating_add.result (omega arith) (omega arith) in
    let lack = block_lacks held c.args.fid c.args.span.from c.args.span.to block c.requires (omega arith) (omega arith)
    c.loop-block.invariant
    (λ covered. is_false c.covers.result (c.covers.ensures.1 (subst (Covers held) (sym is) covered))
    c.if-not-covers.true)
    in (lack.0, lack.1, is ∙ lack.2)

pub loop-block-preserved : goal.loop-block-preserved
loop-block-preserved c =
    let held = held_by c.args.cache.now in
    let block = c.loop-block.block in
    let is = c.bytes_need-need.ensures
    ∙ ap (λ s. record { fid = c.args.fid; kind = Bytes false s }) c.positions-around.ensures
    ∙ block_need_is c.args.fid block c.saturating_mul-from.result c.saturating_add.result (omega arith) (omega arith) in
    blocks_fewer held c.args.fid c.args.span.from (block * 1024 + 1024) ((block + 1) * 1024) (omega arith)
    (blocks_more held c.args.fid c.args.span.from block c.loop-block.invariant
    (subst (Covers held) is (c.covers.ensures.0 c.if-not-covers.false)))

pub returns : goal.returns
returns c =
    blocks_fewer (held_by c.args.cache.now) c.args.fid c.args.span.from (c.loop-block.block * 1024) c.args.span.to
    (omega arith) c.loop-block.invariant
