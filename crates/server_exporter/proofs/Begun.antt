-- What a restart owes, by what its parts answer.
use Rattle.std.proofs.Common.{◌≡◌, ℕ, true, refl, sym, ap, subst}
use Rattle.std.specs.Prelude.{IfOk, OnOk, Result, Ok, Err}
use Rattle.store_memory.specs.Views.{IsSameStore, View}
use Rattle.store_state.specs.declared.state.StoreState.{StoreState}
use Rattle.run_rules.specs.declared.step.Step.{Step}
use Rattle.server_decides.specs.ExporterFault.{ExporterFault}
use Rattle.server_tables.specs.Counting.{IsCounted}
use Rattle.server_tables.specs.Updates.{begun}
use Rattle.server_decides.specs.Acts.{epoch_begun}
use Rattle.server_decides.specs.Hailing.{restarting}
use Rattle.server_exporter.specs.Machines.{Follows, IsSame}
use Rattle.server_decides.specs.Serving.{IsServed}
use Rattle.server_exporter.specs.declared.exporter.Exporter.{Exporter}
use Rattle.server_exporter.proofs.Begins.{restart_follows}
use Rattle.server_decides.proofs.Served.{store_stays}

pub restart_follows_all : (r : Result Step ExporterFault) (x y : Exporter) (state next : StoreState) (line : ℕ)
    → IfOk r (λ step. step ≡ restarting x.tables line) → OnOk r (y ≡ record { tables = begun x.tables; rested = true })
    → OnOk r (next ≡ epoch_begun state) → IfOk r (λ step. Follows state x step next y)
restart_follows_all (Ok step) x y state next line e f g = restart_follows x y state next line step e f g
restart_follows_all (Err error) x y state next line e f g = tt

pub restart_served : (r : Result Step ExporterFault) (x y : Exporter) (old new : View) → IsServed x.tables old.state
    → IsSameStore old new
    → OnOk r (y ≡ record { tables = begun x.tables; rested = true })
    → (IsCounted x.tables → OnOk r (IsCounted y.tables)) → OnOk r (IsServed y.tables new.state)
restart_served (Err error) x y old new s same f c = tt
restart_served (Ok step) x y old new s same f c =
    let P : Exporter → Type 0 = λ w. IsCounted w.tables → IsServed w.tables new.state in
    subst P (sym f) (λ k. record {
      store = store_stays x.tables (begun x.tables) old new s.store same refl refl;
      users = s.users;
      counted = k;
      asked = tt;
    }) (c s.counted)

pub restart_same : (r : Result Step ExporterFault) (x y : Exporter)
    → OnOk r (y ≡ record { tables = begun x.tables; rested = true }) → OnOk r (IsSame x y)
restart_same (Err error) x y f = tt
restart_same (Ok step) x y f = record {
  server = ap (λ (w : Exporter). w.tables.server) f;
  roster =
      ap (λ (w : Exporter). w.tables.roster) f;
}
