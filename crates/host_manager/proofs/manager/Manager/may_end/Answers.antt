use Rattle.host_manager.specs.Closing.{MayEnd}
use Rattle.host_manager.proofs.manager.Manager.may_end.Goals as goal
use Rattle.host_manager.specs.Spoken.{tables_of}
use Rattle.host_manager.specs.declared.machine.Machine.{Machine}
use Rattle.std.proofs.Common.{IsTrue, subst, ◌↔◌}

pub returns : goal.returns
returns c = subst (λ (m : Machine). IsTrue c.may_end.result ↔ MayEnd (tables_of m)) c.self.view_is c.may_end.ensures
