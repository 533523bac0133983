use Rattle.host_tables.specs.Machine.{IsParted}
use Rattle.host_manager.proofs.manager.Manager.has_parted.Goals as goal
use Rattle.host_manager.specs.Spoken.{tables_of}
use Rattle.host_manager.specs.declared.machine.Machine.{Machine}
use Rattle.std.proofs.Common.{IsTrue, subst, ◌↔◌}

pub returns : goal.returns
returns c = subst (λ (m : Machine). IsTrue c.has_parted.result ↔ IsParted (tables_of m).sites) c.self.view_is c.has_parted.ensures
