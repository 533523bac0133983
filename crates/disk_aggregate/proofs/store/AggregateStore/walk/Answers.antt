use Rattle.std.proofs.Common.{◌≡◌, sym, subst}
use Rattle.std.specs.Prelude.{IfOk}
use Rattle.store_memory.specs.Reading.{looked_up}
use Rattle.store_state.specs.declared.state.StoreState.{StoreState}
use Rattle.disk_aggregate.specs.Stands.{disk_in}
use Rattle.disk_aggregate.proofs.Asked.{asked_still}
use Rattle.disk_aggregate.proofs.Seen.{seen_open}
use Rattle.disk_aggregate.proofs.store.AggregateStore.walk.Goals as goal

pub returns-clause-looked : goal.returns-clause-looked
returns-clause-looked g c = λ told. subst (λ (s : StoreState). IfOk c.walk.result (λ looked. looked ≡ looked_up s c.args.user.now c.args.place.now)) (sym (seen_open g.D.Disk.view c.args.self.now c.requires.ready.0)) (c.walk.ensures.looked tt)

pub returns-clause-asked : goal.returns-clause-asked
returns-clause-asked g c =
    asked_still g.D.Disk.tells g.D.Disk.view c.args.self.now c.requires.ready (λ told. g.met.D.Disk.has_bytes (disk_in c.args.self.now) told) c.walk.result c.walk.new.self c.walk.ensures.asked
