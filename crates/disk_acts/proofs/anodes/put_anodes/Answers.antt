use Rattle.std.proofs.Common.{ℕ, ◌+◌, ◌-◌, ◌*◌, ◌∙◌, List, refl, sym, subst, arith}
use Rattle.std.specs.Prelude.{Ok, Err, slice_get}
use Rattle.std.proofs.lemmas.Result.{err_from_is_err_and}
use Rattle.tree_objects.specs.declared.content.Anode.{Anode}
use Rattle.disk_log.specs.Log.{disk_of, state_of}
use Rattle.disk_log.proofs.Mounting.{quiet_none}
use Rattle.disk_objects.specs.Objects.{with_anode, KeepsNow}
use Rattle.disk_fileset.proofs.Changing.{may_after, turned_then, turned_as, changes_then, changes_failed, changes_value, changes_as}
use Rattle.disk_fileset.proofs.Looking.{look_changes}
use Rattle.disk_fileset.proofs.EachAnode.{slot_itself}
use Rattle.disk_acts.specs.Anodes.{IsAt, AreAt, renewed}
use Rattle.disk_acts.proofs.Renewing.{renewed_to, renewed_more, renewed_whole, at_next}
use Rattle.disk_acts.proofs.anodes.put_anodes.Goals as goal

pub loop-at-init : goal.loop-at-init
loop-at-init g c = record {
  room = omega arith;
  kept = λ told slots held is. subst (λ (s : ℕ → List Anode). KeepsNow s (state_of c.args.log.now) (g.D.Disk.view (disk_of c.args.log.now)).image) (sym (slot_itself slots c.args.slot)) held;
  changes = look_changes g.D.Disk.tells g.D.Disk.view c.args.log.now c.args.log.now refl (quiet_none (g.D.Disk.view (disk_of c.args.log.now))) c.args.slot 0 c.args.tx.now c.requires.may.sound (omega arith);
}

pub renew-requires-clause-may : goal.renew-requires-clause-may
renew-requires-clause-may g c =
    may_after g.D.Disk.tells g.D.Disk.view c.args.slot (72 * (2 - c.loop-at.room)) (72 * c.loop-at.room) 144 (let few = c.loop-at.invariant.room in omega (arith, few)) 0 c.args.log.now c.loop-at.log c.args.tx.now c.loop-at.tx c.loop-at.invariant.changes
    KeepsNow (AreAt c.args.slot c.args.before.now c.args.after.now) (AreAt c.args.slot c.args.before.now c.args.after.now) (IsAt c.args.slot c.loop-at.at c.args.before.now c.args.after.now) (renewed_to c.args.slot c.args.after.now c.loop-at.at) c.requires.may c.loop-at.invariant.kept
    (λ slots held is. (is, at_next c.args.slot c.loop-at.at c.args.before.now c.args.after.now slots (is c.loop-at.at c.loop-at-test.true)))

pub returns-in_err-renew-clause-changes : goal.returns-in_err-renew-clause-changes
returns-in_err-renew-clause-changes g c =
    let p = err_from_is_err_and c.from_residual.result c.from_residual.ensures.1 in
    let few = c.loop-at.invariant.room in
    let less = c.renew.ensures.room in
    changes_as g.D.Disk.tells g.D.Disk.view c.args.slot 144 c.from_residual.result (Err c.in_err-renew.field-0.0) c.args.log.now c.renew.new.log c.args.tx.now c.renew.new.tx (p.1 ∙ (λ i. Err (p.2 i)))
    (changes_then g.D.Disk.tells g.D.Disk.view c.args.slot (72 * (2 - c.loop-at.room)) (72 * (c.loop-at.room - c.renew.new.room)) 144 (omega (arith, few, less)) 0 c.args.log.now c.loop-at.log c.args.tx.now c.loop-at.tx c.loop-at.invariant.changes _ c.renew.new.log c.renew.new.tx
    (changes_failed g.D.Disk.tells g.D.Disk.view c.args.slot (72 * (c.loop-at.room - c.renew.new.room)) (72 * (c.loop-at.room - c.renew.new.room)) _ c.loop-at.log c.renew.new.log c.loop-at.tx c.renew.new.tx c.in_err-renew.ensures.changes))

pub loop-at-preserved : goal.loop-at-preserved
loop-at-preserved g c =
    let invariant = c.loop-at.invariant in
    let few = invariant.room in
    let less = c.renew.ensures.room in
    record {
      room = omega (arith, few, less);
      kept = turned_as {T = ℕ} KeepsNow g.D.Disk.tells g.D.Disk.view (AreAt c.args.slot c.args.before.now c.args.after.now)
          (λ slots. with_anode c.args.slot (c.loop-at.at + 1) (renewed (slice_get c.args.after.now c.loop-at.at)) (renewed_to c.args.slot c.args.after.now c.loop-at.at slots)) (renewed_to c.args.slot c.args.after.now (c.loop-at.at + 1)) (Ok 0) c.args.log.now c.renew.new.log
          (λ slots is. renewed_more c.args.slot c.loop-at.at c.args.after.now slots)
          (turned_then {U = ℕ} KeepsNow g.D.Disk.tells g.D.Disk.view (AreAt c.args.slot c.args.before.now c.args.after.now) (AreAt c.args.slot c.args.before.now c.args.after.now) (IsAt c.args.slot c.loop-at.at c.args.before.now c.args.after.now) (renewed_to c.args.slot c.args.after.now c.loop-at.at)
          (with_anode c.args.slot (c.loop-at.at + 1) (renewed (slice_get c.args.after.now c.loop-at.at))) (Ok 0) c.args.log.now c.loop-at.log c.renew.new.log
          (λ slots held is. (is, at_next c.args.slot c.loop-at.at c.args.before.now c.args.after.now slots (is c.loop-at.at c.loop-at-test.true))) invariant.kept c.in_ok-renew.ensures.kept);
      changes = changes_then g.D.Disk.tells g.D.Disk.view c.args.slot (72 * (2 - c.loop-at.room)) (72 * (c.loop-at.room - c.renew.new.room)) (72 * (2 - c.renew.new.room)) (omega (arith, few, less)) 0 c.args.log.now c.loop-at.log c.args.tx.now c.loop-at.tx invariant.changes (Ok 0) c.renew.new.log c.renew.new.tx
          (changes_value g.D.Disk.tells g.D.Disk.view c.args.slot (72 * (c.loop-at.room - c.renew.new.room)) _ 0 c.loop-at.log c.renew.new.log c.loop-at.tx c.renew.new.tx c.in_ok-renew.ensures.changes);
    }

pub returns-clause-kept : goal.returns-clause-kept
returns-clause-kept g c = λ told slots held is.
    (let count = (held.each c.args.slot c.requires.slot).count in
    let past = c.loop-at-test.false in
    subst (λ (s : ℕ → List Anode). KeepsNow s (state_of c.loop-at.log) (g.D.Disk.view (disk_of c.loop-at.log)).image)
    (renewed_whole c.args.slot c.loop-at.at c.args.after.now slots (omega (arith, count, past))) (c.loop-at.invariant.kept told slots held is))

pub returns-clause-changes : goal.returns-clause-changes
returns-clause-changes g c =
    changes_then g.D.Disk.tells g.D.Disk.view c.args.slot (72 * (2 - c.loop-at.room)) 0 144 (let few = c.loop-at.invariant.room in omega (arith, few)) 0 c.args.log.now c.loop-at.log c.args.tx.now c.loop-at.tx c.loop-at.invariant.changes (Ok tt) c.loop-at.log c.loop-at.tx
    (look_changes g.D.Disk.tells g.D.Disk.view c.loop-at.log c.loop-at.log refl (quiet_none (g.D.Disk.view (disk_of c.loop-at.log))) c.args.slot tt c.loop-at.tx c.loop-at.invariant.changes.sound (omega arith))
