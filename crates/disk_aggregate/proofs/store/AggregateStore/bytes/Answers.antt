use Rattle.std.proofs.Common.{◌≡◌, sym, subst}
use Rattle.std.specs.Prelude.{IfOk}
use Rattle.store_memory.specs.Reading.{bytes_told}
use Rattle.store_state.specs.declared.state.StoreState.{StoreState}
use Rattle.disk_aggregate.specs.Stands.{disk_in}
use Rattle.disk_aggregate.proofs.Asked.{asked_still}
use Rattle.disk_aggregate.proofs.Seen.{seen_open}
use Rattle.disk_aggregate.proofs.store.AggregateStore.bytes.Goals as goal

pub returns-clause-bytes : goal.returns-clause-bytes
returns-clause-bytes g c = λ told. subst (λ (s : StoreState). IfOk c.bytes.result (λ bytes. bytes ≡ bytes_told s c.args.fid c.args.span)) (sym (seen_open g.D.Disk.view c.args.self.now c.requires.ready.0)) (c.bytes.ensures.bytes tt)

pub returns-clause-asked : goal.returns-clause-asked
returns-clause-asked g c =
    asked_still g.D.Disk.tells g.D.Disk.view c.args.self.now c.requires.ready (λ told. g.met.D.Disk.has_bytes (disk_in c.args.self.now) told) c.bytes.result c.bytes.new.self c.bytes.ensures.asked
