use Rattle.std.proofs.Common.{◌≡◌, ◌∙◌, None, ap, sym}
use Rattle.std.specs.List.{position}
use Rattle.std.specs.Option.{option_and_then}
use Rattle.server_tables.specs.declared.tables.LastChange.{LastChange}
use Rattle.server_tables.specs.Answers.{is_for_change}
use Rattle.server_tables.proofs.Found.{none_at}
use Rattle.server_tables.proofs.answered.take_written.Goals as goal

pub returns-in-None-clause-answer : goal.returns-in-None-clause-answer
returns-in-None-clause-answer c =
    let test = is_for_change c.args.host c.args.fileset in
    let none : position test c.args.changes.now ≡ None =
    ap (position test) (sym c.as_slice.ensures) ∙ sym c.place_of.ensures ∙ c.in-None.is in
    sym (ap (option_and_then (λ (last : LastChange). last.written)) (none_at test c.args.changes.now none).0)

pub returns-in-None-clause-after : goal.returns-in-None-clause-after
returns-in-None-clause-after c =
    let test = is_for_change c.args.host c.args.fileset in
    let none : position test c.args.changes.now ≡ None =
    ap (position test) (sym c.as_slice.ensures) ∙ sym c.place_of.ensures ∙ c.in-None.is in
    sym (none_at test c.args.changes.now none).1
