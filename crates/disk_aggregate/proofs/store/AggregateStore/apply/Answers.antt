use Rattle.std.proofs.Common.{◌∙◌, List, length, sym, subst, ap, arith}
use Rattle.std.proofs.lemmas.List.{take_all}
use Rattle.base_outside.specs.Runs.{LeavesOnly}
use Rattle.store_acts.specs.Acts.{dones_of, state_after}
use Rattle.store_acts.specs.Sound.{AreActs}
use Rattle.store_acts.specs.declared.act.Act.{Act}
use Rattle.store_state.specs.declared.state.StoreState.{StoreState}
use Rattle.disk_aggregate.specs.Applying.{IsDurable, IsLeftOfBatch}
use Rattle.disk_aggregate.specs.Stands.{disk_in, state_in}
use Rattle.disk_aggregate.specs.StoreView.{kept_state}
use Rattle.disk_aggregate.proofs.Acted.{left_mendable, left_seen, settled_durable}
use Rattle.disk_aggregate.proofs.Asked.{blamed, blamed_ok}
use Rattle.disk_aggregate.proofs.Mending.{stands_mendable, stands_store}
use Rattle.disk_aggregate.proofs.Records.{batch_leaves}
use Rattle.disk_aggregate.proofs.Seen.{seen_same, seen_open}
use Rattle.disk_aggregate.proofs.store.AggregateStore.apply.Goals as goal

pub do_batch-requires-clause-acts : goal.do_batch-requires-clause-acts
do_batch-requires-clause-acts g c = subst (λ (s : StoreState). AreActs s.roster s.server c.args.batch.now) (seen_open g.D.Disk.view c.args.self.now c.requires.ready.0) c.requires.acts

pub returns-in-Ok-clause-dones : goal.returns-in-Ok-clause-dones
returns-in-Ok-clause-dones g c = λ told fits. c.in-Ok.ensures.dones ∙ ap (λ (s : StoreState). dones_of s c.args.batch.now) (sym (seen_open g.D.Disk.view c.args.self.now c.requires.ready.0))

pub returns-in-Ok-clause-state : goal.returns-in-Ok-clause-state
returns-in-Ok-clause-state g c = λ told fits.
    seen_open g.D.Disk.view c.do_batch.new.self c.in-Ok.ensures.stands.0 ∙ c.in-Ok.ensures.state
    ∙ ap (λ (s : StoreState). state_after s c.args.batch.now) (sym (seen_open g.D.Disk.view c.args.self.now c.requires.ready.0))

pub returns-in-Ok-clause-same : goal.returns-in-Ok-clause-same
returns-in-Ok-clause-same g c = seen_same g.D.Disk.view c.args.self.now c.do_batch.new.self c.in-Ok.ensures.server c.in-Ok.ensures.roster g.D.Disk.tells

pub returns-in-Ok-clause-mendable : goal.returns-in-Ok-clause-mendable
returns-in-Ok-clause-mendable g c =
    stands_mendable g.D.Disk.tells g.D.Disk.view c.do_batch.new.self c.in-Ok.ensures.stands (λ told. g.met.D.Disk.has_bytes (disk_in c.do_batch.new.self) told)

pub returns-in-Ok-clause-blame : goal.returns-in-Ok-clause-blame
returns-in-Ok-clause-blame g c = blamed_ok g.D.Disk.tells g.D.Disk.view c.args.self.now c.do_batch.new.self c.in-Ok.ensures.counted c.in-Ok.dones

pub returns-in-Ok-clause-durable : goal.returns-in-Ok-clause-durable
returns-in-Ok-clause-durable g c = λ told.
    (let view = g.D.Disk.view in
    let new = c.do_batch.new.self in
    let stands = c.in-Ok.ensures.stands in
    subst (λ (s : StoreState). IsDurable s (view (disk_in new))) (sym (seen_open view new stands.0))
    (settled_durable (state_in new) (view (disk_in new)) stands.1.settled
    (stands_store g.D.Disk.tells view (state_in new) new.wear new.log stands.1 told (g.met.D.Disk.has_bytes (disk_in new) told)).found))

pub returns-in-Ok-clause-made : goal.returns-in-Ok-clause-made
returns-in-Ok-clause-made g c = λ told. (
  length c.args.batch.now,
  omega arith,
  seen_open g.D.Disk.view c.do_batch.new.self c.in-Ok.ensures.stands.0 ∙ c.in-Ok.ensures.state
      ∙ ap (λ (s : StoreState). state_after s c.args.batch.now) (sym (seen_open g.D.Disk.view c.args.self.now c.requires.ready.0))
      ∙ ap (λ (l : List Act). state_after (kept_state g.D.Disk.view c.args.self.now) l) (sym (take_all (length c.args.batch.now) c.args.batch.now (omega arith))),
)

pub returns-in-Ok-clause-crash : goal.returns-in-Ok-clause-crash
returns-in-Ok-clause-crash g c = λ told.
    (let view = g.D.Disk.view in
    let old = c.args.self.now in
    let new = c.do_batch.new.self in
    subst (λ (s : StoreState). LeavesOnly (IsLeftOfBatch new.wear s c.args.batch.now) (view (disk_in old)) (view (disk_in new))) (sym (seen_open view old c.requires.ready.0)) (c.in-Ok.ensures.crash told))

pub returns-in-Err-clause-made : goal.returns-in-Err-clause-made
returns-in-Err-clause-made g c = λ told.
    (let made = c.in-Err.ensures in
    left_seen g.D.Disk.view c.args.self.now c.do_batch.new.self made.server made.roster c.args.batch.now (c.requires.ready.1.record_held told).storable.limits (subst (λ (s : StoreState). AreActs s.roster s.server c.args.batch.now) (seen_open g.D.Disk.view c.args.self.now c.requires.ready.0) c.requires.acts).each
    made.shut (made.left told) (kept_state g.D.Disk.view c.args.self.now) (seen_open g.D.Disk.view c.args.self.now c.requires.ready.0))

pub returns-in-Err-clause-fault : goal.returns-in-Err-clause-fault
returns-in-Err-clause-fault g c = λ told fits. returns-in-Err-clause-made g c told

pub returns-in-Err-clause-same : goal.returns-in-Err-clause-same
returns-in-Err-clause-same g c = seen_same g.D.Disk.view c.args.self.now c.do_batch.new.self c.in-Err.ensures.server c.in-Err.ensures.roster g.D.Disk.tells

pub returns-in-Err-clause-mendable : goal.returns-in-Err-clause-mendable
returns-in-Err-clause-mendable g c = λ told.
    (let made = c.in-Err.ensures in
    let acts = subst (λ (s : StoreState). AreActs s.roster s.server c.args.batch.now) (seen_open g.D.Disk.view c.args.self.now c.requires.ready.0) c.requires.acts in
    left_mendable g.D.Disk.view c.args.self.now c.do_batch.new.self made.server made.roster c.args.batch.now (c.requires.ready.1.record_held told).storable.limits acts.each
    made.shut (made.left told))

pub returns-in-Err-clause-blame : goal.returns-in-Err-clause-blame
returns-in-Err-clause-blame g c =
    blamed g.D.Disk.tells g.D.Disk.view c.args.self.now c.do_batch.new.self c.in-Err.ensures.counted c.in-Err.fault c.store_fault.result c.store_fault.ensures c.in-Err.ensures.only

pub returns-in-Err-clause-crash : goal.returns-in-Err-clause-crash
returns-in-Err-clause-crash g c = λ told.
    (let view = g.D.Disk.view in
    let old = c.args.self.now in
    let new = c.do_batch.new.self in
    subst (λ (s : StoreState). LeavesOnly (IsLeftOfBatch new.wear s c.args.batch.now) (view (disk_in old)) (view (disk_in new))) (sym (seen_open view old c.requires.ready.0)) (c.in-Err.ensures.crash told))

pub returns-in-Ok-clause-leaves : goal.returns-in-Ok-clause-leaves
returns-in-Ok-clause-leaves g c = λ told.
    (let old = c.args.self.now in
    let made = c.in-Ok.ensures in
    let acts = subst (λ (s : StoreState). AreActs s.roster s.server c.args.batch.now) (seen_open g.D.Disk.view old c.requires.ready.0) c.requires.acts in
    batch_leaves g.D.Disk.tells g.D.Disk.view old c.do_batch.new.self made.server made.roster c.do_batch.new.self.wear c.args.batch.now c.requires.ready.0
    (c.requires.ready.1.record_held told).storable.limits acts.each (made.crash told))

pub returns-in-Err-clause-leaves : goal.returns-in-Err-clause-leaves
returns-in-Err-clause-leaves g c = λ told.
    (let old = c.args.self.now in
    let made = c.in-Err.ensures in
    let acts = subst (λ (s : StoreState). AreActs s.roster s.server c.args.batch.now) (seen_open g.D.Disk.view old c.requires.ready.0) c.requires.acts in
    batch_leaves g.D.Disk.tells g.D.Disk.view old c.do_batch.new.self made.server made.roster c.do_batch.new.self.wear c.args.batch.now c.requires.ready.0
    (c.requires.ready.1.record_held told).storable.limits acts.each (made.crash told))
