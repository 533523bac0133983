use Rattle.std.proofs.Common.{◌≡◌, sym, subst}
use Rattle.std.specs.Prelude.{IfOk}
use Rattle.store_memory.specs.Reading.{entries_told}
use Rattle.store_state.specs.declared.state.StoreState.{StoreState}
use Rattle.disk_aggregate.specs.Stands.{disk_in}
use Rattle.disk_aggregate.proofs.Asked.{asked_still}
use Rattle.disk_aggregate.proofs.Seen.{seen_open}
use Rattle.disk_aggregate.proofs.store.AggregateStore.entries.Goals as goal

pub returns-clause-entries : goal.returns-clause-entries
returns-clause-entries g c = λ told. subst (λ (s : StoreState). IfOk c.entries.result (λ entries. entries ≡ entries_told s c.args.fid)) (sym (seen_open g.D.Disk.view c.args.self.now c.requires.ready.0)) (c.entries.ensures.entries tt)

pub returns-clause-asked : goal.returns-clause-asked
returns-clause-asked g c =
    asked_still g.D.Disk.tells g.D.Disk.view c.args.self.now c.requires.ready (λ told. g.met.D.Disk.has_bytes (disk_in c.args.self.now) told) c.entries.result c.entries.new.self c.entries.ensures.asked
