use Rattle.std.proofs.Common.{◌≡◌, ◌∙◌, List, [], ◌∷◌, ◌++◌, length, sym, subst, arith}
use Rattle.std.specs.Prelude.{Ok, Err, Option, IfSome}
use Rattle.std.proofs.lemmas.Result.{err_from_is_err_and}
use Rattle.std.proofs.lemmas.List.{length-append, take_all}
use Rattle.message_types.specs.Soundness.{Each}
use Rattle.store_acts.specs.Sound.{IsHolding}
use Rattle.store_state.specs.declared.state.Holding.{Holding}
use Rattle.disk_fileset.proofs.Read.{looks_none, looks_then, looks_value, looks_failed}
use Rattle.disk_records.proofs.Limits.{each_more}
use Rattle.disk_records.proofs.Looked.{record_still, slot_more}
use Rattle.disk_records.proofs.state.slots_in.Goals as goal

pub loop-slot-init : goal.loop-slot-init
loop-slot-init g c = record {
  looks = looks_none g.D.Disk.tells g.D.Disk.view 0 c.args.log.now c.requires.sound;
  slots = λ told two state keeps own. c.new-slots.ensures;
  size = (λ i. length (c.new-slots.ensures i));
  limits = λ roster few. subst (λ (l : List (Option Holding)). Each (λ slot. IfSome slot (IsHolding roster)) l) (sym c.new-slots.ensures) tt;
}

pub returns-in_err-held-clause-looks : goal.returns-in_err-held-clause-looks
returns-in_err-held-clause-looks g c =
    let p = err_from_is_err_and c.from_residual.result c.from_residual.ensures.1 in
    looks_failed g.D.Disk.tells g.D.Disk.view {T = Option Holding} c.in_err-held.field-0.0 c.from_residual.result c.args.log.now c.held_in.new.log (p.1 ∙ (λ i. Err (p.2 i)))
    (looks_then g.D.Disk.tells g.D.Disk.view 0 _ c.args.log.now c.loop-slot.log c.held_in.new.log c.loop-slot.invariant.looks c.in_err-held.ensures.looks)

pub loop-slot-preserved : goal.loop-slot-preserved
loop-slot-preserved g c =
    let inv = c.loop-slot.invariant in
    record {
      looks = looks_value g.D.Disk.tells g.D.Disk.view c.in_ok-held.held 0 c.args.log.now c.held_in.new.log (looks_then g.D.Disk.tells g.D.Disk.view 0 (Ok c.in_ok-held.held) c.args.log.now c.loop-slot.log c.held_in.new.log inv.looks c.in_ok-held.ensures.looks);
      slots = λ told two state keeps own.
          (let still = record_still g.D.Disk.tells g.D.Disk.view c.args.log.now c.loop-slot.log inv.looks.state inv.looks.quiet state keeps in
          let low = c.loop-slot-test.true in
          c.in-Ok.ensures.ok ∙ slot_more state.slots c.loop-slot.slots c.loop-slot.slot c.in_ok-held.held keeps.storable.limits.table low (inv.slots told two state keeps own) (c.in_ok-held.ensures.held told two state still own));
      size = (let e = inv.size in let f : length c.push.new.self ≡ length (c.loop-slot.slots ++ c.in_ok-held.held ∷ []) = (λ i. length (c.in-Ok.ensures.ok i)) in let h = length-append c.loop-slot.slots (c.in_ok-held.held ∷ []) in omega (arith, e, f, h));
      limits = λ roster few. subst (λ (l : List (Option Holding)). Each (λ slot. IfSome slot (IsHolding roster)) l) (sym c.in-Ok.ensures.ok) (each_more (λ slot. IfSome slot (IsHolding roster)) c.loop-slot.slots c.in_ok-held.held (inv.limits roster few) (c.in_ok-held.ensures.limits roster few));
    }

pub returns-clause-slots : goal.returns-clause-slots
returns-clause-slots g c = λ told two state keeps own.
    c.loop-slot.invariant.slots told two state keeps own ∙ take_all c.loop-slot.slot state.slots (let full = keeps.storable.limits.table in let past = c.loop-slot-test.false in omega (arith, full, past))

pub returns-clause-looks : goal.returns-clause-looks
returns-clause-looks g c = looks_value g.D.Disk.tells g.D.Disk.view 0 _ c.args.log.now c.loop-slot.log c.loop-slot.invariant.looks
