use Rattle.std.proofs.Common.{ℕ, ◌+◌, ◌∙◌, List, refl, sym, subst, arith, rules}
use Rattle.std.specs.Prelude.{Ok, Err}
use Rattle.std.proofs.lemmas.Result.{err_from_is_err_and}
use Rattle.tree_objects.specs.declared.content.Anode.{Anode}
use Rattle.disk_log.specs.Log.{disk_of, state_of}
use Rattle.disk_log.proofs.Mounting.{quiet_none}
use Rattle.disk_objects.specs.Objects.{anode_at, with_anode, KeepsNow}
use Rattle.disk_fileset.specs.Slots.{IsVacant, AllVacant, CopiesNow}
use Rattle.disk_fileset.proofs.Changing.{may_after, turned_then, turned_as, changes_then, changes_failed, changes_fewer, changes_value, changes_as}
use Rattle.disk_fileset.proofs.Looking.{look_changes}
use Rattle.disk_fileset.proofs.EachAnode.{copied_to, slot_itself, copied_more, copied_whole, vacant_next}
use Rattle.disk_fileset.proofs.Copies.{copies_none, copies_trimmed, may_copy}
use Rattle.disk_fileset.proofs.whole.copy_slot.Goals as goal

pub loop-i-init : goal.loop-i-init
loop-i-init g c = record {
  kept = λ told slots held is. subst (λ (s : ℕ → List Anode). CopiesNow c.args.from c.args.to s (state_of c.args.log.now) (g.D.Disk.view (disk_of c.args.log.now)).image) (sym (slot_itself slots c.args.to)) held;
  changes = look_changes g.D.Disk.tells g.D.Disk.view c.args.log.now c.args.log.now refl (quiet_none (g.D.Disk.view (disk_of c.args.log.now))) c.args.to 0 c.args.tx.now c.requires.may.sound (omega arith);
}

pub copy_anode-requires-clause-may : goal.copy_anode-requires-clause-may
copy_anode-requires-clause-may g c =
    may_after g.D.Disk.tells g.D.Disk.view c.args.to c.loop-i.i 1 64 (let lt = c.loop-i-test.true in omega (arith, lt)) 0 c.args.log.now c.loop-i.log c.args.tx.now c.loop-i.tx c.loop-i.invariant.changes
    (CopiesNow c.args.from c.args.to) (AllVacant c.args.to) (AllVacant c.args.to) (IsVacant c.args.to (c.loop-i.i + 1)) (copied_to c.args.from c.args.to c.loop-i.i)
    (may_copy c.args.from c.args.to g.D.Disk.tells g.D.Disk.view 64 c.args.log.now c.args.tx.now c.requires.may) c.loop-i.invariant.kept (λ slots held is. (is, vacant_next c.args.from c.args.to c.loop-i.i slots c.loop-i-test.true is))

pub returns-in_err-copy_anode-clause-changes : goal.returns-in_err-copy_anode-clause-changes
returns-in_err-copy_anode-clause-changes g c =
    let p = err_from_is_err_and c.from_residual.result c.from_residual.ensures.1 in
    changes_as g.D.Disk.tells g.D.Disk.view c.args.to 64 c.from_residual.result (Err c.in_err-copy_anode.field-0.0) c.args.log.now c.copy_anode.new.log c.args.tx.now c.copy_anode.new.tx (p.1 ∙ (λ i. Err (p.2 i)))
    (changes_then g.D.Disk.tells g.D.Disk.view c.args.to c.loop-i.i 1 64 (let lt = c.loop-i-test.true in omega (arith, lt)) 0 c.args.log.now c.loop-i.log c.args.tx.now c.loop-i.tx c.loop-i.invariant.changes _ c.copy_anode.new.log c.copy_anode.new.tx
    (changes_failed g.D.Disk.tells g.D.Disk.view c.args.to 1 1 _ c.loop-i.log c.copy_anode.new.log c.loop-i.tx c.copy_anode.new.tx c.in_err-copy_anode.ensures.changes))

pub loop-i-preserved : goal.loop-i-preserved
loop-i-preserved g c =
    let invariant = c.loop-i.invariant in
    record {
      kept = turned_as {T = ℕ} (CopiesNow c.args.from c.args.to) g.D.Disk.tells g.D.Disk.view (AllVacant c.args.to) (λ slots. (λ (before : ℕ → List Anode). with_anode c.args.to (c.loop-i.i + 1) (λ free. anode_at (before c.args.from) (c.loop-i.i + 1)) before) (copied_to c.args.from c.args.to c.loop-i.i slots)) (copied_to c.args.from c.args.to (c.loop-i.i + 1)) (Ok 0) c.args.log.now c.copy_anode.new.log (λ slots is. copied_more c.args.from c.args.to c.loop-i.i slots c.requires.apart)
          (turned_then {U = ℕ} (CopiesNow c.args.from c.args.to) g.D.Disk.tells g.D.Disk.view (AllVacant c.args.to) (AllVacant c.args.to) (IsVacant c.args.to (c.loop-i.i + 1)) (copied_to c.args.from c.args.to c.loop-i.i) ((λ (before : ℕ → List Anode). with_anode c.args.to (c.loop-i.i + 1) (λ free. anode_at (before c.args.from) (c.loop-i.i + 1)) before)) (Ok 0) c.args.log.now c.loop-i.log c.copy_anode.new.log (λ slots held is. (is, vacant_next c.args.from c.args.to c.loop-i.i slots c.loop-i-test.true is)) invariant.kept c.in_ok-copy_anode.ensures.kept);
      changes = changes_then g.D.Disk.tells g.D.Disk.view c.args.to c.loop-i.i 1 (c.loop-i.i + 1) (omega arith) 0 c.args.log.now c.loop-i.log c.args.tx.now c.loop-i.tx invariant.changes (Ok 0) c.copy_anode.new.log c.copy_anode.new.tx
          (changes_value g.D.Disk.tells g.D.Disk.view c.args.to 1 _ 0 c.loop-i.log c.copy_anode.new.log c.loop-i.tx c.copy_anode.new.tx c.in_ok-copy_anode.ensures.changes);
    }

pub returns-clause-kept : goal.returns-clause-kept
returns-clause-kept g c = λ told slots held is.
    (let count = (held.each c.args.from c.requires.from).count in
    let count_2 = (held.each c.args.to c.requires.slot).count in
    let past = c.loop-i-test.false in
    subst (λ (s : ℕ → List Anode). KeepsNow s (state_of c.loop-i.log) (g.D.Disk.view (disk_of c.loop-i.log)).image)
    (copied_whole c.args.from c.args.to c.loop-i.i slots (omega (arith, count, count_2)) (omega (arith, count_2, past))) (c.loop-i.invariant.kept told slots (copies_none c.args.from c.args.to slots (state_of c.args.log.now) (g.D.Disk.view (disk_of c.args.log.now)).image held is) is).keeps)

pub returns-clause-changes : goal.returns-clause-changes
returns-clause-changes g c =
    changes_value g.D.Disk.tells g.D.Disk.view c.args.to 64 0 _ c.args.log.now c.loop-i.log c.args.tx.now c.loop-i.tx
    (changes_fewer g.D.Disk.tells g.D.Disk.view c.args.to c.loop-i.i 64 (Ok 0) c.args.log.now c.loop-i.log c.args.tx.now c.loop-i.tx (search rules) c.loop-i.invariant.changes)

pub returns-clause-trimmed : goal.returns-clause-trimmed
returns-clause-trimmed g c = λ told.
    (let held = c.requires.may.held told in
    copies_trimmed c.args.from c.args.to c.requires.slot (copied_to c.args.from c.args.to c.loop-i.i held.0) (state_of c.loop-i.log) (g.D.Disk.view (disk_of c.loop-i.log)).image
    (c.loop-i.invariant.kept told held.0 (copies_none c.args.from c.args.to held.0 (state_of c.args.log.now) (g.D.Disk.view (disk_of c.args.log.now)).image held.1 held.2) held.2))
