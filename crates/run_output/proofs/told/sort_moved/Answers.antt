use Rattle.std.proofs.Common.{◌≡◌, ◌++◌, [], OnOk, get_or, subst}
use Rattle.run_output.proofs.Sorting.{of_arrives, told_by}
use Rattle.run_output.proofs.told.sort_moved.Goals as goal

pub returns-in-Arrives : goal.returns-in-Arrives
returns-in-Arrives c server host calls =
    subst (λ told. OnOk c.sort_answer.result (told_by host calls (get_or c.sort_answer.new.sorted host [])
    ≡ told_by host calls (get_or c.args.sorted.now host []) ++ told))
    (of_arrives host calls server c.args.of.now _ c.in-Arrives.is)
    (c.sort_answer.ensures host calls)
