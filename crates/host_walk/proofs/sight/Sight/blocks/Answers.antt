use Rattle.std.proofs.Common.{false, ◌≡◌, subst, sym, ap, ◌∙◌, arith}
use Rattle.token_types.specs.Covers.{Covers}
use Rattle.token_types.specs.declared.token.Kind.TheVariants.{Bytes}
use Rattle.host_walk.specs.Views.{held_by}
use Rattle.host_walk.specs.declared.sight.Stop.TheVariants.{Lacks}
use Rattle.host_walk.proofs.Blocks.{blocks_none, blocks_of_all}
use Rattle.host_walk.proofs.sight.Sight.blocks.Goals as goal

pub returns-then-is_empty : goal.returns-then-is_empty
returns-then-is_empty c =
    blocks_none (held_by c.args.self.now.cache.now) c.args.fid c.args.span.from c.args.span.to (omega arith)

pub returns-then-covers : goal.returns-then-covers
returns-then-covers c =
    let kept = c.args.self.now.cache.now in
    let is = c.bytes_need.ensures
    ∙ ap (λ s. record { fid = c.args.fid; kind = Bytes false s }) c.blocks_around-around.ensures in
    blocks_of_all (held_by kept) c.args.fid c.args.span.from c.args.span.to (omega arith)
    (subst (Covers (held_by kept)) is (c.covers.ensures.0 c.if-covers.true))

pub returns-in-Some : goal.returns-in-Some
returns-in-Some c =
    let h = c.in-Some.ensures in (h.0, h.1, ap Lacks h.2)
