use Rattle.std.proofs.Common.{Bool, ap, sym, ◌&&◌, ◌∙◌}
use Rattle.host_tells.proofs.Fits.{entry_fits, holds_too}
use Rattle.message_parts.specs.Access.{spell_who_name}
use Rattle.message_parts.specs.Places.{spell_rights}
use Rattle.host_tells.proofs.fitting.entry_fits.Goals as goal

pub returns-then-who_fits : goal.returns-then-who_fits
returns-then-who_fits c =
    let entry = c.args.entry.now in
    c.rights_fit.ensures
    ∙ holds_too (spell_who_name entry.who).fits (spell_rights entry.rights).fits
    (sym c.who_fits.ensures ∙ c.if-who_fits.true)
    ∙ entry_fits entry

pub returns-else-who_fits : goal.returns-else-who_fits
returns-else-who_fits c =
    let entry = c.args.entry.now in
    c.if-who_fits.false
    ∙ ap (λ (b : Bool). b && (spell_rights entry.rights).fits) (sym c.if-who_fits.false ∙ c.who_fits.ensures)
    ∙ entry_fits entry
