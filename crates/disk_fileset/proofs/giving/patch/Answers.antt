use Rattle.std.proofs.Common.{ℕ, ◌+◌, ◌/◌, ◌-◌, ◌≡◌, ◌≤◌, ◌∙◌, List, length, refl, sym, ap, subst, arith}
use Rattle.std.specs.Prelude.{Err}
use Rattle.std.proofs.lemmas.Bool.{false≢true}
use Rattle.std.proofs.lemmas.Result.{err_from_is_err_and, on_ok_weaker}
use Rattle.tree_objects.specs.declared.content.Anode.{Anode}
use Rattle.disk_log.specs.Log.{disk_of, state_of, slot_of}
use Rattle.disk_objects.specs.Objects.{KeepsNow}
use Rattle.disk_fileset.specs.Giving.{IsLong}
use Rattle.disk_fileset.proofs.Changing.{may_in, counted_in, few_in, others_same, changes_in, changes_then, changes_as, more_room}
use Rattle.disk_fileset.proofs.Looking.{look_changes, look_failed, look_held, look_may}
use Rattle.disk_fileset.proofs.Patching.{nothing_turns, patch_turns, patched_after}
use Rattle.disk_fileset.proofs.giving.patch.Goals as goal

pub returns-then-is_empty-clause-kept : goal.returns-then-is_empty-clause-kept
returns-then-is_empty-clause-kept g c = λ told slots held is.
    (let same = c.if-is_empty.ensures.0 refl in
    let each = (held.each c.args.slot c.requires.slot).each c.args.anode c.requires.first c.requires.last in
    subst (λ (s : ℕ → List Anode). KeepsNow s (state_of c.args.log.now) (g.D.Disk.view (disk_of c.args.log.now)).image)
    (sym (nothing_turns slots c.args.slot c.args.anode c.requires.slot c.requires.first c.requires.last each c.args.pieces.now c.args.end c.span_of-span.result.from c.span_of-span.result.to is c.span_of-span.ensures.lie (omega (arith, same)))) held)

pub returns-in_err-bytes-clause-changes : goal.returns-in_err-bytes-clause-changes
returns-in_err-bytes-clause-changes g c =
    let p = err_from_is_err_and c.from_residual.result c.from_residual.ensures.1 in
    changes_as g.D.Disk.tells g.D.Disk.view c.args.slot 66 c.from_residual.result (Err c.in_err-bytes.field-0.0) c.args.log.now c.patched.new.log c.args.tx.now c.args.tx.now (p.1 ∙ (λ i. Err (p.2 i)))
    (look_failed g.D.Disk.tells g.D.Disk.view c.args.log.now c.patched.new.log c.in_err-bytes.ensures.state c.in_err-bytes.ensures.quiet c.args.slot 66 c.in_err-bytes.field-0.0 c.args.tx.now c.in_err-bytes.ensures.sound c.in_err-bytes.ensures.counted c.in_err-bytes.ensures.only)

pub write_at-requires-clause-may : goal.write_at-requires-clause-may
write_at-requires-clause-may g c =
    let may = look_may g.D.Disk.tells g.D.Disk.view c.args.log.now c.patched.new.log c.in_ok-bytes.ensures.state c.in_ok-bytes.ensures.quiet KeepsNow (IsLong c.args.slot c.args.anode c.args.end) c.args.slot 66 c.args.tx.now c.in_ok-bytes.ensures.sound c.requires.may in
    may_in c.args.slot c.args.anode c.anode_page-page.result c.requires.slot c.requires.first c.requires.last c.anode_page-page.ensures (state_of c.patched.new.log) (slot_of c.args.tx.now) may.may

pub write_at-requires-clause-named : goal.write_at-requires-clause-named
write_at-requires-clause-named g c = λ told.
    (let may = look_may g.D.Disk.tells g.D.Disk.view c.args.log.now c.patched.new.log c.in_ok-bytes.ensures.state c.in_ok-bytes.ensures.quiet KeepsNow (IsLong c.args.slot c.args.anode c.args.end) c.args.slot 66 c.args.tx.now c.in_ok-bytes.ensures.sound c.requires.may in
    let held = may.held told in
    counted_in c.args.slot c.args.anode c.anode_page-page.result c.requires.slot c.requires.first c.requires.last c.anode_page-page.ensures held.0 (state_of c.patched.new.log) (g.D.Disk.view (disk_of c.patched.new.log)).image held.1)

pub write_at-requires-clause-few : goal.write_at-requires-clause-few
write_at-requires-clause-few g c = λ told.
    (let may = look_may g.D.Disk.tells g.D.Disk.view c.args.log.now c.patched.new.log c.in_ok-bytes.ensures.state c.in_ok-bytes.ensures.quiet KeepsNow (IsLong c.args.slot c.args.anode c.args.end) c.args.slot 66 c.args.tx.now c.in_ok-bytes.ensures.sound c.requires.may in
    let held = may.held told in
    few_in c.args.slot c.args.anode c.anode_page-page.result c.requires.slot c.requires.first c.requires.last c.anode_page-page.ensures held.0 (state_of c.patched.new.log) (g.D.Disk.view (disk_of c.patched.new.log)).image held.1)

pub returns-clause-kept : goal.returns-clause-kept
returns-clause-kept g c = λ told slots held is.
    (let differ : c.span_of-span.result.from ≡ c.span_of-span.result.to → ⊥ = λ same. false≢true (c.if-is_empty.ensures.1 same) in
    let ordered = c.span_of-span.result.ordered in
    let patched = patched_after c.args.pieces.now c.span_of-span.result.from c.span_of-span.result.to c.anode_page-page.result (state_of c.args.log.now) (state_of c.patched.new.log)
    (g.D.Disk.view (disk_of c.args.log.now)).image (g.D.Disk.view (disk_of c.patched.new.log)).image c.in_ok-bytes.bytes c.as_slice.result.now
    c.in_ok-bytes.ensures.state c.in_ok-bytes.ensures.quiet.image c.as_slice.ensures (c.in_ok-bytes.ensures.bytes told) in
    patch_turns slots c.args.slot c.args.anode c.requires.slot c.requires.first c.requires.last c.anode_page-page.result c.anode_page-page.ensures
    (state_of c.patched.new.log) (state_of c.write_at.new.log) (g.D.Disk.view (disk_of c.patched.new.log)).image (g.D.Disk.view (disk_of c.write_at.new.log)).image
    c.write_at.ensures.puts.rest (look_held g.D.Disk.tells g.D.Disk.view c.args.log.now c.patched.new.log c.in_ok-bytes.ensures.state c.in_ok-bytes.ensures.quiet KeepsNow slots held) c.write_at.result c.args.pieces.now c.span_of-span.result.from c.span_of-span.result.to c.args.end c.as_slice.result.now is
    c.span_of-span.ensures.lie c.span_of-span.ensures.end (omega (arith, differ, ordered)) patched (c.write_at.ensures.wrote told).reads (c.write_at.ensures.changed told))

pub returns-clause-changes : goal.returns-clause-changes
returns-clause-changes g c =
    let look = look_changes g.D.Disk.tells g.D.Disk.view c.args.log.now c.patched.new.log c.in_ok-bytes.ensures.state c.in_ok-bytes.ensures.quiet {T = ℕ} c.args.slot 0 c.args.tx.now c.in_ok-bytes.ensures.sound c.in_ok-bytes.ensures.counted in
    let size = c.in_ok-bytes.ensures.size in
    let same = c.as_slice.ensures in
    let low = c.requires.end in
    let within = c.span_of-span.ensures.end in
    let ordered = c.span_of-span.result.ordered in
    let length_is = ap length same in
    let few : (c.span_of-span.result.from + length c.as_slice.result.now + 1023) / 1024 - c.span_of-span.result.from / 1024 + 2 ≤ 66 = omega (arith, size, length_is, low, within, ordered) in
    changes_then g.D.Disk.tells g.D.Disk.view c.args.slot 0 66 66 (omega arith) 0 c.args.log.now c.patched.new.log c.args.tx.now c.args.tx.now look c.write_at.result c.write_at.new.log c.write_at.new.tx
    (changes_in g.D.Disk.tells g.D.Disk.view c.args.slot c.args.anode c.anode_page-page.result 66 c.write_at.result c.patched.new.log c.write_at.new.log c.args.tx.now c.write_at.new.tx _ c.requires.first c.requires.last c.anode_page-page.ensures
    c.write_at.ensures.sound c.write_at.ensures.tx c.write_at.ensures.puts
    (λ told. others_same c.write_at.result _ (state_of c.patched.new.log) (state_of c.write_at.new.log) (g.D.Disk.view (disk_of c.patched.new.log)).image (g.D.Disk.view (disk_of c.write_at.new.log)).image (on_ok_weaker c.write_at.result (λ changed. changed.turns.pages) (c.write_at.ensures.changed told)))
    (λ told. more_room c.write_at.result _ _ _ _ few (c.write_at.ensures.room told)) c.write_at.ensures.wrote c.write_at.ensures.counted c.write_at.ensures.only)
