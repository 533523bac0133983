use Rattle.std.proofs.Common.{◌≡◌, true, sym, ◌∙◌, subst, arith}
use Rattle.std.specs.Prelude.{IfOk}
use Rattle.std.proofs.lemmas.Grind.{common_steps}
use Rattle.tree_answers.specs.WellFormed.{AreWellFormed}
use Rattle.service_starts.proofs.CheckFormed.{may_start_if}
use Rattle.service_starts.proofs.startable.may_start.Goals as goal

pub returns : goal.returns
returns c =
    let rest = c.if-not-rests.false in
    let agree = c.if-not-agrees.false in
    let rests : c.rests.result ≡ true = grind (arith, common_steps) in
    let agrees : c.agrees.result ≡ true = grind (arith, common_steps) in
    let formed = subst (λ filesets. IfOk c.are_well_formed.result (λ formed. formed ≡ true → AreWellFormed filesets)) c.as_slice.ensures c.are_well_formed.ensures in
    may_start_if c.are_well_formed.result c.args.tree.now c.requires.limits c.requires.servers c.requires.locks c.requires.opens (sym c.rests.ensures ∙ rests) (c.agrees.ensures agrees) formed
