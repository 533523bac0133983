-- A server's doings in a step, the oldest first. Lists that are called past have the newest first.
use Rattle.run_rules.specs.Doings.{Doing, admitting, deciding, epoch, sending}
use Rattle.run_rules.specs.Doings.Doing.{BeginsEpoch, Flushes, Reserves, Took}
use Rattle.std.specs.Prelude.{List, [], suc, ◌++◌, ◌∷◌}
use Rattle.run_rules.specs.declared.step.Cause.{Cause}
use Rattle.run_rules.specs.declared.step.Cause.TheVariants.{Message as Came, Restart, Flushed}
use Rattle.run_rules.specs.Doings.Doing.{Gets}
use Rattle.run_rules.specs.Doings.{shipping}
use Rattle.run_rules.specs.declared.step.Cause.TheVariants.{Freight}
use Rattle.run_rules.specs.declared.step.Step.{Step}

abbrev pub doings_cause : Cause → List Doing → List Doing → List Doing
doings_cause (Came m) past more = Took m.host m.epoch m.moves m.body ∷ more
doings_cause (Restart line) past more = BeginsEpoch (suc (epoch past)) ∷ more
doings_cause Flushed past more = Flushes ∷ more
doings_cause (Freight m) past more = Gets m.server m.moves m.body ∷ more
doings_cause _ past more = more

-- the doings of the step, after those before it
abbrev pub doings : Step → List Doing → List Doing
doings s past =
    doings_cause s.cause past
    (deciding s.applied ++ (admitting s.admitted ++ (sending s.sent
    ++ (shipping s.shipped ++ (Reserves s.reserved ∷ [])))))
