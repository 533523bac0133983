use Rattle.std.proofs.Common.{◌≡◌, ◌∙◌, ap, sym}
use Rattle.std.specs.List.{filter}
use Rattle.std.specs.Option.{option_and_then}
use Rattle.server_tables.specs.declared.tables.LastChange.{LastChange}
use Rattle.server_tables.specs.Answers.{is_for_change, not_for_change}
use Rattle.server_tables.proofs.Found.{found_at, left_at, place_within}
use Rattle.server_tables.proofs.answered.take_at.Goals as goal

pub remove-last-requires : goal.remove-last-requires
remove-last-requires c = place_within (is_for_change c.args.host c.args.fileset) c.args.changes.now c.args.place
    c.requires

pub returns-clause-answer : goal.returns-clause-answer
returns-clause-answer c =
    let found = found_at (is_for_change c.args.host c.args.fileset) c.args.changes.now c.args.place
    c.remove-last.result c.requires
    c.remove-last.ensures.value in
    sym (ap (option_and_then (λ (last : LastChange). last.written)) found)

pub returns-clause-after : goal.returns-clause-after
returns-clause-after c =
    c.drop_change.ensures
    ∙ ap (filter (not_for_change c.args.host c.args.fileset)) c.remove-last.ensures.rest
    ∙ left_at (is_for_change c.args.host c.args.fileset) c.args.changes.now c.args.place c.remove-last.result c.requires
