use Rattle.std.proofs.Common.{◌≡◌, true, false, sym, ◌∙◌, refl, arith}
use Rattle.host_walk.proofs.sight.Sight.shown.Goals as goal

pub returns-then-covers-clause-tried : goal.returns-then-covers-clause-tried
returns-then-covers-clause-tried c =
    (c.at-shown.ensures.covered c.args.need.kind).0 (c.covers.ensures.0 c.if-covers.true)

pub returns-clause-tried : goal.returns-clause-tried
returns-clause-tried c = (
  λ h.
      let bad : true ≡ false = sym (c.covers.ensures.1 ((c.at-shown.ensures.covered c.args.need.kind).1 h))
      ∙ c.if-covers.false in
      grind (arith, bad),
  refl,
)
