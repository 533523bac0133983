use Rattle.std.proofs.Common.{ℕ}
use Rattle.std.specs.Prelude.{Ok}
use Rattle.disk_acts.specs.Steps.{Steps, beside_anodes, AllSaid}
use Rattle.disk_acts.proofs.facts.say_all.Given as goal

abbrev pub invariant-loop-slot : goal.invariant-loop-slot
invariant-loop-slot g l = record {
  says : g.D.Disk.tells → AllSaid g.D.Disk.view l.slot l.state l.initial.log l.log;
  steps : Steps {T = ℕ} g.D.Disk.tells g.D.Disk.view beside_anodes 0 (Ok 0) l.initial.log l.log l.initial.tx l.tx;
}
