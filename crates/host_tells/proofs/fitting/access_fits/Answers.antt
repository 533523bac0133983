use Rattle.std.proofs.Common.{List, ap, ◌∙◌}
use Rattle.std.specs.List.{list_all}
use Rattle.base_types.specs.declared.access.AccessEntry.{AccessEntry}
use Rattle.host_tells.proofs.Fits.{list_fits}
use Rattle.message_parts.specs.Access.{spell_access_entry}
use Rattle.host_tells.proofs.fitting.access_fits.Goals as goal

pub returns : goal.returns
returns c =
    c.each_entry_fits.ensures
    ∙ ap (λ (entries : List AccessEntry). list_all (λ (entry : AccessEntry). (spell_access_entry entry).fits) entries)
    c.as_slice.ensures.value
    ∙ list_fits c.args.list.now c.as_slice.ensures.list
