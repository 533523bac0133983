use Rattle.std.proofs.Common.{◌∙◌, ap, subst, sym, arith}
use Rattle.disk_anode.specs.Anode.{Anode}
use Rattle.disk_lists.specs.Entries.{with_entries, IsDirectory}
use Rattle.disk_objects.proofs.Calls.{holds_changed}
use Rattle.disk_objects.proofs.laws.entries_holds.Goals as goal

pub returns-clause-asked : goal.returns-clause-asked
returns-clause-asked c = λ anodes page entries state image is held directory.
    subst (λ (anode : Anode). IsDirectory entries anode) (sym (held.anode page is)) directory

pub returns-clause-changed : goal.returns-clause-changed
returns-clause-changed c = λ anodes page entries others old new before after is held rest directory changed writes.
    let kind = directory.kind in
    holds_changed anodes page is (with_entries others) old new before after rest held changed writes
    (λ none. absurd (omega (arith, kind, none)))

pub returns-clause-entries : goal.returns-clause-entries
returns-clause-entries c = λ anodes page others old new before after is held changed directory.
    subst (λ (anode : Anode). IsDirectory others anode)
    (changed.anode ∙ ap (with_entries others) (held.anode page is)) directory
