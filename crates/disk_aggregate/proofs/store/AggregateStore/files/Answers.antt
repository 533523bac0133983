use Rattle.std.proofs.Common.{◌≡◌, sym, subst}
use Rattle.std.specs.Prelude.{IfOk}
use Rattle.store_memory.specs.Reading.{files_of}
use Rattle.store_state.specs.declared.state.StoreState.{StoreState}
use Rattle.disk_aggregate.specs.Stands.{disk_in}
use Rattle.disk_aggregate.proofs.Asked.{asked_still}
use Rattle.disk_aggregate.proofs.Seen.{seen_open}
use Rattle.disk_aggregate.proofs.store.AggregateStore.files.Goals as goal

pub returns-clause-files : goal.returns-clause-files
returns-clause-files g c = λ told. subst (λ (s : StoreState). IfOk c.files.result (λ files. files ≡ files_of s c.args.fileset)) (sym (seen_open g.D.Disk.view c.args.self.now c.requires.ready.0)) (c.files.ensures.files tt)

pub returns-clause-asked : goal.returns-clause-asked
returns-clause-asked g c =
    asked_still g.D.Disk.tells g.D.Disk.view c.args.self.now c.requires.ready (λ told. g.met.D.Disk.has_bytes (disk_in c.args.self.now) told) c.files.result c.files.new.self c.files.ensures.asked
