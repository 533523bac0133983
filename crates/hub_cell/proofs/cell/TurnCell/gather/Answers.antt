use Rattle.std.proofs.Common.{◌≡◌, [], ◌∷◌, subst}
use Rattle.std.specs.List.{All}
use Rattle.hub_cell.proofs.Gathering.{all_middle, gathered_one, gathered_more, one_more}
use Rattle.hub_cell.proofs.cell.TurnCell.gather.Goals as goal

pub loop-pass-init : goal.loop-pass-init
loop-pass-init g c =
    let of_cell = all_middle (λ p. p.cell ≡ c.args.self.now.id) c.pop.new.self.items [] c.in-Some.all
    (subst (All (λ p. p.cell ≡ c.args.self.now.id)) c.in-Some.ensures.items c.requires.of_cell) in
    (c.in-Some.all ∷ [], c.in-Some.ensures.items, gathered_one c.args.self.now c.in-Some.all of_cell)

pub join-requires-clause-other : goal.join-requires-clause-other
join-requires-clause-other g c κs within =
    let i = c.loop-pass.invariant in
    let is = one_more c.args.passes.items c.loop-pass.passes.items c.pop-in-loop-pass.new.self.items i.0
    c.in-Some-pop.pass i.1 c.in-Some-pop.ensures.items in
    all_middle (λ p. p.cell ≡ c.args.self.now.id) c.pop-in-loop-pass.new.self.items i.0 c.in-Some-pop.pass
    (subst (All (λ p. p.cell ≡ c.args.self.now.id)) is c.requires.of_cell)

pub loop-pass-preserved : goal.loop-pass-preserved
loop-pass-preserved g c =
    let i = c.loop-pass.invariant in
    let is = one_more c.args.passes.items c.loop-pass.passes.items c.pop-in-loop-pass.new.self.items i.0
    c.in-Some-pop.pass i.1 c.in-Some-pop.ensures.items in (
      c.in-Some-pop.pass ∷ i.0,
      is,
      gathered_more c.args.self.now c.loop-pass.all c.in-Some-pop.pass c.join.new.pass i.0
          i.2 c.join.ensures,
    )
