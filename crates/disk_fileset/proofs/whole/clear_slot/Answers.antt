use Rattle.std.proofs.Common.{ℕ, ◌+◌, ◌∙◌, List, refl, sym, subst, arith}
use Rattle.std.specs.Prelude.{⊤, Ok, Err}
use Rattle.std.proofs.lemmas.Result.{err_from_is_err_and}
use Rattle.tree_objects.specs.declared.content.Anode.{Anode}
use Rattle.tree_objects.specs.Changes.{anode_freed}
use Rattle.disk_log.specs.Log.{disk_of, state_of}
use Rattle.disk_log.proofs.Mounting.{quiet_none}
use Rattle.disk_objects.specs.Objects.{with_anode, KeepsNow}
use Rattle.disk_fileset.proofs.Changing.{may_after, turned_then, turned_as, changes_then, changes_failed, changes_value, changes_as}
use Rattle.disk_fileset.proofs.Looking.{look_changes}
use Rattle.disk_fileset.proofs.EachAnode.{freed_to, slot_itself, freed_more, freed_whole}
use Rattle.disk_fileset.proofs.whole.clear_slot.Goals as goal

pub loop-i-init : goal.loop-i-init
loop-i-init g c = record {
  kept = λ told slots held is. subst (λ (s : ℕ → List Anode). KeepsNow s (state_of c.args.log.now) (g.D.Disk.view (disk_of c.args.log.now)).image) (sym (slot_itself slots c.args.slot)) held;
  changes = look_changes g.D.Disk.tells g.D.Disk.view c.args.log.now c.args.log.now refl (quiet_none (g.D.Disk.view (disk_of c.args.log.now))) c.args.slot 0 c.args.tx.now c.requires.may.sound (omega arith);
}

pub vacate-requires-clause-may : goal.vacate-requires-clause-may
vacate-requires-clause-may g c =
    may_after g.D.Disk.tells g.D.Disk.view c.args.slot 0 0 0 (omega arith) 0 c.args.log.now c.loop-i.log c.args.tx.now c.loop-i.tx c.loop-i.invariant.changes
    KeepsNow (λ slots. ⊤) (λ slots. ⊤) (λ slots. ⊤) (freed_to c.args.slot c.loop-i.i) c.requires.may c.loop-i.invariant.kept (λ slots held is. (tt, tt))

pub returns-in_err-vacate-clause-changes : goal.returns-in_err-vacate-clause-changes
returns-in_err-vacate-clause-changes g c =
    let p = err_from_is_err_and c.from_residual.result c.from_residual.ensures.1 in
    changes_as g.D.Disk.tells g.D.Disk.view c.args.slot 0 c.from_residual.result (Err c.in_err-vacate.field-0.0) c.args.log.now c.vacate.new.log c.args.tx.now c.vacate.new.tx (p.1 ∙ (λ i. Err (p.2 i)))
    (changes_then g.D.Disk.tells g.D.Disk.view c.args.slot 0 0 0 (omega arith) 0 c.args.log.now c.loop-i.log c.args.tx.now c.loop-i.tx c.loop-i.invariant.changes _ c.vacate.new.log c.vacate.new.tx
    (changes_failed g.D.Disk.tells g.D.Disk.view c.args.slot 0 0 _ c.loop-i.log c.vacate.new.log c.loop-i.tx c.vacate.new.tx c.in_err-vacate.ensures.changes))

pub loop-i-preserved : goal.loop-i-preserved
loop-i-preserved g c =
    let invariant = c.loop-i.invariant in
    record {
      kept = turned_as {T = ℕ} KeepsNow g.D.Disk.tells g.D.Disk.view (λ slots. ⊤) (λ slots. with_anode c.args.slot (c.loop-i.i + 1) anode_freed (freed_to c.args.slot c.loop-i.i slots)) (freed_to c.args.slot (c.loop-i.i + 1)) (Ok 0) c.args.log.now c.vacate.new.log (λ slots is. freed_more c.args.slot c.loop-i.i slots)
          (turned_then {U = ℕ} KeepsNow g.D.Disk.tells g.D.Disk.view (λ slots. ⊤) (λ slots. ⊤) (λ slots. ⊤) (freed_to c.args.slot c.loop-i.i) (with_anode c.args.slot (c.loop-i.i + 1) anode_freed) (Ok 0) c.args.log.now c.loop-i.log c.vacate.new.log (λ slots held is. (tt, tt)) invariant.kept c.in_ok-vacate.ensures.kept);
      changes = changes_then g.D.Disk.tells g.D.Disk.view c.args.slot 0 0 0 (omega arith) 0 c.args.log.now c.loop-i.log c.args.tx.now c.loop-i.tx invariant.changes (Ok 0) c.vacate.new.log c.vacate.new.tx
          (changes_value g.D.Disk.tells g.D.Disk.view c.args.slot 0 _ 0 c.loop-i.log c.vacate.new.log c.loop-i.tx c.vacate.new.tx c.in_ok-vacate.ensures.changes);
    }

pub returns-clause-kept : goal.returns-clause-kept
returns-clause-kept g c = λ told slots held is.
    (let count = (held.each c.args.slot c.requires.slot).count in
    let past = c.loop-i-test.false in
    subst (λ (s : ℕ → List Anode). KeepsNow s (state_of c.loop-i.log) (g.D.Disk.view (disk_of c.loop-i.log)).image)
    (freed_whole c.args.slot c.loop-i.i slots (omega (arith, count, past))) (c.loop-i.invariant.kept told slots held is))

pub returns-clause-changes : goal.returns-clause-changes
returns-clause-changes g c = changes_value g.D.Disk.tells g.D.Disk.view c.args.slot 0 0 _ c.args.log.now c.loop-i.log c.args.tx.now c.loop-i.tx c.loop-i.invariant.changes
