use Rattle.std.proofs.Common.{◌≡◌, refl, sym, ap, ◌∙◌, subst}
use Rattle.std.specs.Prelude.{Bool, true, false, not}
use Rattle.std.proofs.lemmas.Bool.{false≢true}
use Rattle.store_memory.specs.MapStores.{kept_in}
use Rattle.store_acts.proofs.Next.{act_next}
use Rattle.store_state.specs.declared.done.Done.{Done}
use Rattle.store_state.specs.declared.state.StoreState.{StoreState}
use Rattle.store_records.specs.Stored.{IsStorable}
use Rattle.disk_acts.specs.Acts.{act_blocks}
use Rattle.disk_acts.specs.Records.{HasTables}
use Rattle.disk_acts.proofs.Outcomes.{keeps_stale, keeps_tables}
use Rattle.disk_acts.proofs.Batching.{does_stale}
use Rattle.disk_acts.proofs.one.do_one.Goals as goal

isnt : (b : Bool) → not b ≡ true → b ≡ false
isnt true e = absurd (false≢true e)
isnt false e = refl

pub returns-then-not-done-clause-server : goal.returns-then-not-done-clause-server
returns-then-not-done-clause-server g c = ap (λ (s : StoreState). s.server) c.in-Ok-do_act.ensures.state ∙ (act_next (kept_in c.args.store.now) c.args.act.now c.requires.tables.limits c.requires.act).server

pub returns-then-not-done-clause-roster : goal.returns-then-not-done-clause-roster
returns-then-not-done-clause-roster g c = ap (λ (s : StoreState). s.roster) c.in-Ok-do_act.ensures.state ∙ (act_next (kept_in c.args.store.now) c.args.act.now c.requires.tables.limits c.requires.act).roster

pub returns-in-Ok-put_standing-clause-server : goal.returns-in-Ok-put_standing-clause-server
returns-in-Ok-put_standing-clause-server g c = ap (λ (s : StoreState). s.server) c.in-Ok-do_act.ensures.state ∙ (act_next (kept_in c.args.store.now) c.args.act.now c.requires.tables.limits c.requires.act).server

pub returns-in-Ok-put_standing-clause-roster : goal.returns-in-Ok-put_standing-clause-roster
returns-in-Ok-put_standing-clause-roster g c = ap (λ (s : StoreState). s.roster) c.in-Ok-do_act.ensures.state ∙ (act_next (kept_in c.args.store.now) c.args.act.now c.requires.tables.limits c.requires.act).roster

pub returns-clause-server : goal.returns-clause-server
returns-clause-server g c = ap (λ (s : StoreState). s.server) c.in-Ok-do_act.ensures.state ∙ (act_next (kept_in c.args.store.now) c.args.act.now c.requires.tables.limits c.requires.act).server

pub returns-clause-roster : goal.returns-clause-roster
returns-clause-roster g c = ap (λ (s : StoreState). s.roster) c.in-Ok-do_act.ensures.state ∙ (act_next (kept_in c.args.store.now) c.args.act.now c.requires.tables.limits c.requires.act).roster

pub returns-then-not-done-clause-does : goal.returns-then-not-done-clause-does
returns-then-not-done-clause-does g c =
    let stale : c.in-Ok-do_act.done.fresh ≡ false = isnt c.in-Ok-do_act.done.fresh c.if-not-done.true in
    does_stale g.D.Disk.tells g.D.Disk.view (act_blocks c.args.act.now) (kept_in c.args.store.now) c.args.act.now c.args.log.now c.in-Ok-do_act.done c.requires.may
    (ap (λ (d : Done). d.fresh) (sym c.in-Ok-do_act.ensures.done) ∙ stale)

pub put_standing-requires-clause-tables : goal.put_standing-requires-clause-tables
put_standing-requires-clause-tables g c =
    subst HasTables (sym (c.state-2.ensures.kept ∙ c.in-Ok-do_act.ensures.state)) (keeps_tables (kept_in c.args.store.now) c.args.act.now c.requires.tables c.requires.act)

pub returns-then-not-done-clause-storable : goal.returns-then-not-done-clause-storable
returns-then-not-done-clause-storable g c = λ storable.
    (let stale : c.in-Ok-do_act.done.fresh ≡ false = isnt c.in-Ok-do_act.done.fresh c.if-not-done.true in
    subst IsStorable
    (sym (c.in-Ok-do_act.ensures.state ∙ keeps_stale (kept_in c.args.store.now) c.args.act.now (ap (λ (d : Done). d.fresh) (sym c.in-Ok-do_act.ensures.done) ∙ stale)))
    storable)

pub returns-in-Ok-put_standing-clause-storable : goal.returns-in-Ok-put_standing-clause-storable
returns-in-Ok-put_standing-clause-storable g c = λ storable.
    subst IsStorable c.state-2.ensures.kept
    (c.in-Ok-put_standing.ensures.stands (kept_in c.args.store.now)
    (record { storable = storable; allowed = c.requires.act; done = c.state-2.ensures.kept ∙ c.in-Ok-do_act.ensures.state }))
