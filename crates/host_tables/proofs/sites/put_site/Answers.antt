use Rattle.std.proofs.Common.{ap, sym, ◌∙◌}
use Rattle.std.specs.List.{position}
use Rattle.host_tables.specs.Updates.{is_site}
use Rattle.host_tables.proofs.Updating.{set_at, set_nowhere}
use Rattle.host_tables.proofs.sites.put_site.Goals as goal

pub returns-in-Some : goal.returns-in-Some
returns-in-Some c =
    let test = is_site c.args.site.server in
    let place = ap (position test) (sym c.as_slice.ensures) ∙ sym c.place_of.ensures ∙ c.in-Some.is in
    c.put.ensures ∙ set_at test c.args.site c.args.sites.now c.in-Some.place place

pub returns-in_default : goal.returns-in_default
returns-in_default c =
    let test = is_site c.args.site.server in
    let place = ap (position test) (sym c.as_slice.ensures) ∙ sym c.place_of.ensures ∙ c.in_default.is in
    set_nowhere test c.args.site c.args.sites.now place
