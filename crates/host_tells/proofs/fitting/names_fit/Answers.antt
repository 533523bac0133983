use Rattle.std.proofs.Common.{Bool, ap, arith, length, sym, ◌&&◌, ◌∙◌}
use Rattle.std.proofs.lemmas.Bool.{le-leb, lt-leb}
use Rattle.std.specs.List.{list_all}
use Rattle.std.specs.Prelude.{nat_le}
use Rattle.host_tells.proofs.Fits.{holds_too, names_fit}
use Rattle.message_parts.specs.Words.{spell_name}
use Rattle.tree_calls.specs.declared.part.DirEntry.{DirEntry}
use Rattle.host_tells.proofs.fitting.names_fit.Goals as goal

pub returns-then-entries-le65535 : goal.returns-then-entries-le65535
returns-then-entries-le65535 c =
    let entries = c.args.entries.now in
    let few = c.if-entries-le65535.true in
    c.each_name_fits.ensures
    ∙ holds_too (nat_le (length entries) 65535)
    (list_all (λ (entry : DirEntry). (spell_name entry.name).fits) entries)
    (le-leb (length entries) 65535 (omega (arith, few)))
    ∙ names_fit entries

pub returns-else-entries-le65535 : goal.returns-else-entries-le65535
returns-else-entries-le65535 c =
    let entries = c.args.entries.now in
    let many = c.if-entries-le65535.false in
    let too_many = lt-leb (length entries) 65535 (omega (arith, many)) in
    too_many
    ∙ ap (λ (b : Bool). b && list_all (λ (entry : DirEntry). (spell_name entry.name).fits) entries) (sym too_many)
    ∙ names_fit entries
