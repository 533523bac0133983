use Rattle.std.proofs.Common.{sym, ◌∙◌}
use Rattle.host_tests.proofs.Covered.{found_covered}
use Rattle.host_tests.proofs.leaving.end_held.Goals as goal

pub leave_ended-requires : goal.leave_ended-requires
leave_ended-requires c =
    found_covered c.args.tables.now c.args.id c.in-Some.held (sym c.find.ensures ∙ c.in-Some.is)
