use Rattle.std.proofs.Common.{◌++◌, [], ◌∷◌, ◌∙◌, sym, subst, arith}
use Rattle.std.proofs.lemmas.List.{length_push}
use Rattle.hub_turns.specs.Views.{AreBare}
use Rattle.hub_turns.proofs.Passes.{bare_more}
use Rattle.hub_turns.proofs.hub.bare_of.Goals as goal

pub loop-pass-preserved : goal.loop-pass-preserved
loop-pass-preserved c =
    let i = c.loop-pass.invariant in
    let size = length_push c.loop-pass.yielded c.in-Some.pass in
    let len = c.push_reserved.ensures.len in
    let was = i.4 in (
      tt,
      tt,
      subst (AreBare (c.loop-pass.yielded ++ c.in-Some.pass ∷ [])) (sym c.push_reserved.ensures.items)
          (bare_more c.loop-pass.yielded c.loop-pass.bare.items c.in-Some.pass c.into_pass.result i.2
          c.into_pass.ensures),
      c.push_reserved.ensures.capacity ∙ i.3,
      omega arith,
    )
