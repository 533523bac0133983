use Rattle.std.proofs.Common.{◌≡◌, [], OnOk, get_or, subst}
use Rattle.run_output.proofs.Sorting.{of_server, told_by}
use Rattle.run_output.proofs.told.sort_step.Goals as goal

pub returns-in-Server : goal.returns-in-Server
returns-in-Server c host calls =
    subst (λ told. OnOk c.sort_applied.result (told_by host calls (get_or c.sort_applied.new.sorted host []) ≡ told))
    (of_server host calls c.args.step.now.answers c.args.step.now.applied c.args.step.now.node _ c.in-Server.is
    (told_by host calls (get_or c.args.sorted.now host [])) (told_by host calls (get_or c.sort_answers.new.sorted host []))
    (c.in_ok-sort_answers.ensures host calls))
    (c.sort_applied.ensures host calls)
