use Rattle.host_manager.proofs.manager.Manager.end.Goals as goal
use Rattle.host_manager.specs.Closing.{MayEnd}
use Rattle.host_manager.specs.Spoken.{tables_of}
use Rattle.host_manager.specs.declared.machine.Machine.{Machine}
use Rattle.std.proofs.Common.{IfOk, None, subst, ◌≢◌}

pub returns-clause-some : goal.returns-clause-some
returns-clause-some c =
    subst (λ (m : Machine). IfOk c.end.result (λ step. MayEnd (tables_of m) → step ≢ None)) c.self.view_is
    c.end.ensures.some
