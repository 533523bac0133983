use Rattle.std.proofs.Common.{◌≡◌, ◌≤◌, ℕ, ◌+◌, ◌++◌, ◌∷◌, [], length, take, refl, sym, ap, ◌∙◌, subst, arith}
use Rattle.store_memory.specs.MapStores.{kept_in}
use Rattle.store_memory.proofs.Batches.{dones_next}
use Rattle.store_acts.specs.Acts.{act_done, dones_of}
use Rattle.store_state.specs.declared.state.StoreState.{StoreState}
use Rattle.disk_log.specs.Contents.{contents_of, last_stage}
use Rattle.disk_log.specs.Log.{disk_of, state_of}
use Rattle.disk_log.specs.State.{State}
use Rattle.disk_anode.specs.Room.{free_blocks}
use Rattle.disk_acts.specs.Acts.{act_blocks}
use Rattle.disk_acts.specs.Records.{HasStage, HasTables}
use Rattle.disk_acts.proofs.Outcomes.{keeps_tables}
use Rattle.disk_acts.specs.Stored.{IsOwn}
use Rattle.disk_acts.specs.Batch.{Goes}
use Rattle.disk_acts.proofs.Batching.{act_is, counts_next, goes_counted, next_of, own_next}
use Rattle.disk_acts.proofs.Counts.{act_counted}
use Rattle.disk_acts.proofs.Going.{goes_next, goes_failed}
use Rattle.disk_acts.proofs.Settled.{goes_made, crash_made}
use Rattle.disk_acts.proofs.batch.do_all.Goals as goal

pub loop-act-init : goal.loop-act-init
loop-act-init g c = record {
  state = refl;
  dones = c.new-dones.ensures;
  server = refl;
  roster = refl;
  tables = c.requires.tables;
  goes = goes_counted g.D.Disk.tells g.D.Disk.view (c.args.log.now.kept.half.generation + 9) (kept_in c.args.store.now) c.args.batch.now c.args.log.now c.count_free.new.log c.requires.rests c.in_ok-room.ensures.idle
      c.in_ok-room.ensures.state c.in_ok-room.ensures.quiet c.in_ok-room.ensures.counted;
  counts = record { generation = (let e = ap (λ (s : State). s.half.generation) c.in_ok-room.ensures.state in omega (arith, e)); epoch = omega arith; ship = omega arith };
  room = λ told. (let free = c.in_ok-room.ensures.free told in
      let e : free_blocks (state_of c.count_free.new.log) (g.D.Disk.view (disk_of c.count_free.new.log)).image ≡ free_blocks (state_of c.args.log.now) (g.D.Disk.view (disk_of c.args.log.now)).image =
      (λ i. free_blocks (c.in_ok-room.ensures.state i) (c.in_ok-room.ensures.quiet.image i)) in
      omega (arith, free, e));
}

pub returns-in_err-room-2-clause-crash : goal.returns-in_err-room-2-clause-crash
returns-in_err-room-2-clause-crash g c = λ told.
    crash_made g.D.Disk.tells g.D.Disk.view (c.args.log.now.kept.half.generation + 9) (kept_in c.args.store.now) c.args.batch.now c.loop-act.act-index (g.D.Disk.view (disk_of c.args.log.now)) c.loop-act.log c.make_room.new.log c.loop-act.invariant.goes (let lt = c.loop-act-test.true in omega (arith, lt)) (let first = c.loop-act.invariant.counts.generation in let lt = c.loop-act-test.true in let few = c.requires.acts.few in omega (arith, first, lt, few)) (act_blocks c.act-item.result) c.make_room.result c.make_room.ensures told

pub do_one-requires-clause-may : goal.do_one-requires-clause-may
do_one-requires-clause-may g c =
    let goes = (goes_made g.D.Disk.tells g.D.Disk.view (c.args.log.now.kept.half.generation + 9) (kept_in c.args.store.now) c.args.batch.now c.loop-act.act-index (g.D.Disk.view (disk_of c.args.log.now)) c.loop-act.log c.make_room.new.log c.loop-act.invariant.goes (let lt = c.loop-act-test.true in omega (arith, lt)) (let first = c.loop-act.invariant.counts.generation in let lt = c.loop-act-test.true in let few = c.requires.acts.few in omega (arith, first, lt, few)) (act_blocks c.act-item.result) c.in_ok-room-2.room c.in_ok-room-2.ensures).0 in
    record {
      idle = goes.idle;
      entries = c.in_ok-room-2.ensures.entries;
      held = λ told. subst (λ (s : StoreState). HasStage s (last_stage (contents_of g.D.Disk.view c.make_room.new.log)) (contents_of g.D.Disk.view c.make_room.new.log)) (sym c.loop-act.invariant.state) (goes.last told);
      room = λ told. (let free = c.in_ok-room-2.ensures.free told in omega (arith, free));
    }

pub returns-in_err-done-clause-crash : goal.returns-in_err-done-clause-crash
returns-in_err-done-clause-crash g c = λ told.
    goes_failed g.D.Disk.tells g.D.Disk.view (c.args.log.now.kept.half.generation + 9) (kept_in c.args.store.now) c.args.batch.now c.loop-act.act-index (g.D.Disk.view (disk_of c.args.log.now)) c.make_room.new.log c.do_one.new.log (act_blocks c.act-item.result) (act_done (kept_in c.loop-act.store) c.act-item.result).state c.do_one.result (goes_made g.D.Disk.tells g.D.Disk.view (c.args.log.now.kept.half.generation + 9) (kept_in c.args.store.now) c.args.batch.now c.loop-act.act-index (g.D.Disk.view (disk_of c.args.log.now)) c.loop-act.log c.make_room.new.log c.loop-act.invariant.goes (let lt = c.loop-act-test.true in omega (arith, lt)) (let first = c.loop-act.invariant.counts.generation in let lt = c.loop-act-test.true in let few = c.requires.acts.few in omega (arith, first, lt, few)) (act_blocks c.act-item.result) c.in_ok-room-2.room c.in_ok-room-2.ensures).0 (let lt = c.loop-act-test.true in omega (arith, lt)) (let made = (goes_made g.D.Disk.tells g.D.Disk.view (c.args.log.now.kept.half.generation + 9) (kept_in c.args.store.now) c.args.batch.now c.loop-act.act-index (g.D.Disk.view (disk_of c.args.log.now)) c.loop-act.log c.make_room.new.log c.loop-act.invariant.goes (let lt = c.loop-act-test.true in omega (arith, lt)) (let first = c.loop-act.invariant.counts.generation in let lt = c.loop-act-test.true in let few = c.requires.acts.few in omega (arith, first, lt, few)) (act_blocks c.act-item.result) c.in_ok-room-2.room c.in_ok-room-2.ensures).1 in let first = c.loop-act.invariant.counts.generation in let lt = c.loop-act-test.true in let few = c.requires.acts.few in omega (arith, made, first, lt, few)) c.do_one.ensures.does told

pub returns-in-Err-clause-crash : goal.returns-in-Err-clause-crash
returns-in-Err-clause-crash g c = λ told.
    goes_failed g.D.Disk.tells g.D.Disk.view (c.args.log.now.kept.half.generation + 9) (kept_in c.args.store.now) c.args.batch.now c.loop-act.act-index (g.D.Disk.view (disk_of c.args.log.now)) c.make_room.new.log c.do_one.new.log (act_blocks c.act-item.result) (act_done (kept_in c.loop-act.store) c.act-item.result).state c.do_one.result (goes_made g.D.Disk.tells g.D.Disk.view (c.args.log.now.kept.half.generation + 9) (kept_in c.args.store.now) c.args.batch.now c.loop-act.act-index (g.D.Disk.view (disk_of c.args.log.now)) c.loop-act.log c.make_room.new.log c.loop-act.invariant.goes (let lt = c.loop-act-test.true in omega (arith, lt)) (let first = c.loop-act.invariant.counts.generation in let lt = c.loop-act-test.true in let few = c.requires.acts.few in omega (arith, first, lt, few)) (act_blocks c.act-item.result) c.in_ok-room-2.room c.in_ok-room-2.ensures).0 (let lt = c.loop-act-test.true in omega (arith, lt)) (let made = (goes_made g.D.Disk.tells g.D.Disk.view (c.args.log.now.kept.half.generation + 9) (kept_in c.args.store.now) c.args.batch.now c.loop-act.act-index (g.D.Disk.view (disk_of c.args.log.now)) c.loop-act.log c.make_room.new.log c.loop-act.invariant.goes (let lt = c.loop-act-test.true in omega (arith, lt)) (let first = c.loop-act.invariant.counts.generation in let lt = c.loop-act-test.true in let few = c.requires.acts.few in omega (arith, first, lt, few)) (act_blocks c.act-item.result) c.in_ok-room-2.room c.in_ok-room-2.ensures).1 in let first = c.loop-act.invariant.counts.generation in let lt = c.loop-act-test.true in let few = c.requires.acts.few in omega (arith, made, first, lt, few)) c.do_one.ensures.does told

pub returns-clause-goes : goal.returns-clause-goes
returns-clause-goes g c =
    let past = c.loop-act-test.false in
    let within = c.loop-act.auto.act-index-end in
    let all : c.loop-act.act-index ≡ length c.args.batch.now = omega (arith, past, within) in
    subst (λ (n : ℕ). Goes g.D.Disk.tells g.D.Disk.view (c.args.log.now.kept.half.generation + 9) (kept_in c.args.store.now) c.args.batch.now n (g.D.Disk.view (disk_of c.args.log.now)) c.loop-act.log) all c.loop-act.invariant.goes

pub loop-act-preserved : goal.loop-act-preserved
loop-act-preserved g c =
    let inv = c.loop-act.invariant in
    let start = kept_in c.args.store.now in
    let now = kept_in c.loop-act.store in
    let acts = c.args.batch.now in
    let i = c.loop-act.act-index in
    let act = c.act-item.result in
    let lt = c.loop-act-test.true in
    let is = act_is start now acts i act inv.server inv.roster c.requires.acts.each lt c.act-item.is in
    let made = (goes_made g.D.Disk.tells g.D.Disk.view (c.args.log.now.kept.half.generation + 9) (kept_in c.args.store.now) c.args.batch.now c.loop-act.act-index (g.D.Disk.view (disk_of c.args.log.now)) c.loop-act.log c.make_room.new.log c.loop-act.invariant.goes (let lt = c.loop-act-test.true in omega (arith, lt)) (let first = c.loop-act.invariant.counts.generation in let lt = c.loop-act-test.true in let few = c.requires.acts.few in omega (arith, first, lt, few)) (act_blocks c.act-item.result) c.in_ok-room-2.room c.in_ok-room-2.ensures) in
    let fresh : c.make_room.new.log.kept.half.generation + 1 ≤ c.args.log.now.kept.half.generation + 9 = (let made = (goes_made g.D.Disk.tells g.D.Disk.view (c.args.log.now.kept.half.generation + 9) (kept_in c.args.store.now) c.args.batch.now c.loop-act.act-index (g.D.Disk.view (disk_of c.args.log.now)) c.loop-act.log c.make_room.new.log c.loop-act.invariant.goes (let lt = c.loop-act-test.true in omega (arith, lt)) (let first = c.loop-act.invariant.counts.generation in let lt = c.loop-act-test.true in let few = c.requires.acts.few in omega (arith, first, lt, few)) (act_blocks c.act-item.result) c.in_ok-room-2.room c.in_ok-room-2.ensures).1 in let first = c.loop-act.invariant.counts.generation in let lt = c.loop-act-test.true in let few = c.requires.acts.few in omega (arith, made, first, lt, few)) in
    let next = next_of start now c.do_one.new.store.state acts i act lt c.act-item.is inv.state c.in_ok-done.ensures.state in
    let counted = act_counted now act in
    let same = c.in_ok-done.ensures.does.half in
    let below = made.1 in
    record {
      state = next;
      dones = c.in-Ok.ensures.ok
          ∙ ap (λ dones. dones ++ c.in_ok-done.done ∷ []) inv.dones
          ∙ ap (λ done. dones_of start (take i acts) ++ done ∷ []) (c.in_ok-done.ensures.done ∙ ap (λ x. (act_done x act).done) inv.state)
          ∙ sym (dones_next acts i act start lt c.act-item.is);
      server = c.in_ok-done.ensures.server ∙ inv.server;
      roster = c.in_ok-done.ensures.roster ∙ inv.roster;
      tables = subst HasTables (sym c.in_ok-done.ensures.state) (keeps_tables now act inv.tables is);
      goes = goes_next g.D.Disk.tells g.D.Disk.view (c.args.log.now.kept.half.generation + 9) (kept_in c.args.store.now) c.args.batch.now i (g.D.Disk.view (disk_of c.args.log.now)) c.make_room.new.log c.do_one.new.log (act_blocks act) (act_done now act).state c.in_ok-done.done made.0 (omega (arith, lt)) fresh
          (sym c.in_ok-done.ensures.state ∙ next)
          (λ told.
          (let own = subst (λ (s : StoreState). IsOwn s c.make_room.new.log.kept.superblock) (sym inv.state) (made.0.own told) in
          own_next now (kept_in c.do_one.new.store) act _ own is c.in_ok-done.ensures.state (c.in_ok-done.ensures.storable own.storable)))
          c.in_ok-done.ensures.does;
      counts = counts_next i start now c.do_one.new.store.state act c.args.log.now c.loop-act.log c.make_room.new.log c.do_one.new.log inv.counts below same c.in_ok-done.ensures.state;
      room = λ told. (let free = c.in_ok-room-2.ensures.free told in let room = c.in_ok-done.ensures.does.room told in omega (arith, free, room));
    }
