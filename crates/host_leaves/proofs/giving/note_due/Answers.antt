use Rattle.std.proofs.Common.{ap, sym, ◌==◌, ◌∙◌}
use Rattle.std.specs.List.{list_any}
use Rattle.host_leaves.proofs.Making.{noted_once}
use Rattle.host_leaves.proofs.giving.note_due.Goals as goal

pub returns-then-has_fileset : goal.returns-then-has_fileset
returns-then-has_fileset c =
    noted_once c.args.tables.now c.args.fileset c.args.draft.now
    (ap (list_any (λ other. other.0 == c.args.fileset.0)) (sym c.as_slice.ensures)
    ∙ sym c.has_fileset.ensures ∙ c.if-has_fileset.true)
