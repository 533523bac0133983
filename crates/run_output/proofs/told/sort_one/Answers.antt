use Rattle.std.proofs.Common.{◌≡◌, ◌++◌, [], OnOk, flat_map, get_or, ap, sym, subst}
use Rattle.script_output.specs.Reports.{answer_in}
use Rattle.run_rules.specs.Runs.{entries_in}
use Rattle.run_output.proofs.Sorting.{of_done, of_replied, told_by}
use Rattle.run_output.proofs.told.sort_one.Goals as goal

pub returns-in-Replied : goal.returns-in-Replied
returns-in-Replied c server host calls =
    subst (λ told. OnOk c.sort_answer.result (told_by host calls (get_or c.sort_answer.new.sorted host [])
    ≡ told_by host calls (get_or c.args.sorted.now host []) ++ told))
    (of_replied host calls server c.args.applied.now _ c.in-Replied.is)
    (c.sort_answer.ensures host calls)

pub returns-in-Done : goal.returns-in-Done
returns-in-Done c server host calls =
    subst (λ told. OnOk c.sort_answer-in-Done.result (told_by host calls (get_or c.sort_answer-in-Done.new.sorted host [])
    ≡ told_by host calls (get_or c.args.sorted.now host []) ++ told))
    (of_done host calls server c.args.applied.now _ c.in-Done.is)
    (c.sort_answer-in-Done.ensures host calls)

pub returns-in-Moves : goal.returns-in-Moves
returns-in-Moves c server host calls =
    subst (λ told. OnOk c.sort_moved.result (told_by host calls (get_or c.sort_moved.new.sorted host [])
    ≡ told_by host calls (get_or c.args.sorted.now host []) ++ told))
    (sym (ap (λ one. flat_map (answer_in host calls) (entries_in server one)) c.in-Moves.is))
    (c.sort_moved.ensures server host calls)
