use Rattle.std.proofs.Common.{◌≡◌, sym, subst}
use Rattle.std.specs.Prelude.{IfOk}
use Rattle.store_state.specs.Rows.{found_named}
use Rattle.store_state.specs.declared.state.StoreState.{StoreState}
use Rattle.disk_aggregate.specs.Stands.{disk_in}
use Rattle.disk_aggregate.proofs.Asked.{asked_still}
use Rattle.disk_aggregate.proofs.Seen.{seen_open}
use Rattle.disk_aggregate.proofs.store.AggregateStore.find.Goals as goal

pub returns-clause-found : goal.returns-clause-found
returns-clause-found g c = λ told. subst (λ (s : StoreState). IfOk c.find.result (λ found. found ≡ found_named s c.args.name.now)) (sym (seen_open g.D.Disk.view c.args.self.now c.requires.ready.0)) (c.find.ensures.found tt)

pub returns-clause-asked : goal.returns-clause-asked
returns-clause-asked g c =
    asked_still g.D.Disk.tells g.D.Disk.view c.args.self.now c.requires.ready (λ told. g.met.D.Disk.has_bytes (disk_in c.args.self.now) told) c.find.result c.find.new.self c.find.ensures.asked
