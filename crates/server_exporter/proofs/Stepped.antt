-- A step that was made, if it could be: what is so whatever its cause.
use Rattle.std.proofs.Common.{◌≡◌, ℕ, Bool, sym, ◌∙◌, ap, subst}
use Rattle.std.specs.Prelude.{Err, Ok, OnOk, Result}
use Rattle.run_rules.specs.declared.step.Step.{Step}
use Rattle.store_memory.specs.Views.{IsSameStore, View}
use Rattle.server_decides.specs.Keepers.{HasTried}
use Rattle.server_decides.specs.ExporterFault.{ExporterFault}
use Rattle.server_decides.specs.ExporterFault.TheVariants.{Memory}
use Rattle.server_decides.specs.Going.{step_if}
use Rattle.server_decides.specs.Serving.{IsServed}
use Rattle.server_exporter.specs.Machines.{IsSame}
use Rattle.server_exporter.specs.declared.exporter.Exporter.{Exporter}

pub on_ok_all : {T E : Type 0} (r : Result T E) {P : Type 0} → P → OnOk r P
on_ok_all (Ok value) p = p
on_ok_all (Err error) p = tt

abbrev the_fault : {T : Type 0} → Result T ExporterFault → ExporterFault
the_fault (Ok value) = Memory
the_fault (Err e) = e

pub tried_if : (made : Result Bool ExporterFault) (s : Step) (result : Result Step ExporterFault) (old new : View)
    (left : ℕ) → result ≡ step_if made s → HasTried made old new left → HasTried result old new left
tried_if made s result old new left e x =
    subst (λ (r : Result Step ExporterFault). HasTried r old new left) (sym e) (by made x)
  where
    by : (m : Result Bool ExporterFault) → HasTried m old new left → HasTried (step_if m s) old new left
    by (Ok value) x = record {
      same = x.same;
      wear = x.wear;
      ready = x.ready;
      mendable = x.mendable;
      counted = x.counted;
      blame = λ q. absurd (cc);
    }
    by (Err error) x = record {
      same = x.same;
      wear = x.wear;
      ready = tt;
      mendable = x.mendable;
      counted = x.counted;
      blame = λ q. x.blame (ap Err (ap the_fault q));
    }

pub same_machine : (x y : Exporter) (old new : View) → IsServed x.tables old.state → IsSameStore old new
    → IsServed y.tables new.state → IsSame x y
same_machine x y old new s same t = record {
  server = sym t.store.server ∙ same.server ∙ s.store.server;
  roster = sym t.store.roster ∙ same.roster ∙ s.store.roster;
}
