use Rattle.std.proofs.Common.{Bool, ap, sym, ℕ, ◌&&◌, ◌∙◌}
use Rattle.host_tells.proofs.Fits.{facts_fit, holds_too, shortened}
use Rattle.host_tells.specs.Spoken.{facts_told}
use Rattle.message_parts.specs.Places.{spell_rights}
use Rattle.message_parts.specs.Words.{spell_name}
use Rattle.host_tells.proofs.fitting.facts_fit.Goals as goal

pub returns-then-name_fits : goal.returns-then-name_fits
returns-then-name_fits c =
    let facts = facts_told c.args.status.now c.args.user.now in
    c.rights_fit.ensures
    ∙ ap (λ (r : ℕ). (spell_rights r).fits) c.rights_on.ensures
    ∙ holds_too (spell_name facts.owner).fits (spell_rights facts.rights).fits
    (sym c.name_fits.ensures ∙ c.if-name_fits.true)
    ∙ facts_fit facts (shortened c.args.status.now.length)

pub returns-else-name_fits : goal.returns-else-name_fits
returns-else-name_fits c =
    let facts = facts_told c.args.status.now c.args.user.now in
    c.if-name_fits.false
    ∙ ap (λ (b : Bool). b && (spell_rights facts.rights).fits) (sym c.if-name_fits.false ∙ c.name_fits.ensures)
    ∙ facts_fit facts (shortened c.args.status.now.length)
