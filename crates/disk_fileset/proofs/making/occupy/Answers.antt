use Rattle.std.proofs.Common.{ℕ, ◌∙◌, List, subst, arith}
use Rattle.std.specs.Prelude.{Err}
use Rattle.std.proofs.lemmas.Result.{err_from_is_err_and}
use Rattle.tree_objects.specs.declared.content.Anode.{Anode}
use Rattle.tree_objects.specs.declared.content.Content.{Content}
use Rattle.tree_objects.specs.Changes.{anode_changed}
use Rattle.tree_objects.specs.Objects.{is_dir}
use Rattle.disk_log.specs.Log.{disk_of, state_of}
use Rattle.disk_objects.specs.Holds.{HoldsNow}
use Rattle.disk_objects.specs.Objects.{with_anode, kept_anodes, FitsContent, HeldNow}
use Rattle.disk_objects.proofs.Keeping.{held_of, fits_changed, each_changed}
use Rattle.disk_fileset.specs.Slots.{IsBlank, TakesObject, emptied, used_by, blank_content}
use Rattle.disk_fileset.proofs.Changing.{may_after, may_held, changes_then, changes_failed, changes_value, changes_as}
use Rattle.disk_fileset.proofs.Steps.{blank_made, new_emptied, new_listed}
use Rattle.disk_fileset.proofs.Twice.{anode_twice}
use Rattle.disk_fileset.proofs.making.occupy.Goals as goal

pub fill_all-requires-clause-listed : goal.fill_all-requires-clause-listed
fill_all-requires-clause-listed g c = new_listed c.args.object.now.content c.requires.new

pub fill_all-requires-clause-may : goal.fill_all-requires-clause-may
fill_all-requires-clause-may g c =
    may_after g.D.Disk.tells g.D.Disk.view c.args.slot 0 6 6 (omega arith) _ c.args.log.now c.begin.new.log c.args.tx.now c.begin.new.tx c.in_ok-unique.ensures.changes
    HeldNow (TakesObject c.args.slot c.args.anode) (TakesObject c.args.slot c.args.anode) (IsBlank c.args.slot c.args.anode (is_dir c.args.object.now.content)) (with_anode c.args.slot c.args.anode (used_by (record { owner = c.args.object.now.owner; group = c.args.object.now.group; content = blank_content c.is_dir-dir.result }))) (may_held g.D.Disk.tells g.D.Disk.view (TakesObject c.args.slot c.args.anode) c.args.slot 6 c.args.log.now c.args.tx.now c.requires.may) c.in_ok-unique.ensures.turned
    (λ slots held is. (is, blank_made slots c.args.slot c.args.anode c.is_dir-dir.result (is_dir c.args.object.now.content) c.args.object.now.owner c.args.object.now.group c.requires.first (let full = held.count c.args.slot c.requires.slot in let few = c.requires.last in omega (arith, full, few)) c.is_dir-dir.ensures))

pub returns-in_err-fill_all-clause-changes : goal.returns-in_err-fill_all-clause-changes
returns-in_err-fill_all-clause-changes g c =
    (let p = err_from_is_err_and c.from_residual-in_err-fill_all.result c.from_residual-in_err-fill_all.ensures.1 in
    changes_as g.D.Disk.tells g.D.Disk.view c.args.slot 6 c.from_residual-in_err-fill_all.result (Err c.in_err-fill_all.field-0.0) c.args.log.now c.fill_all.new.log c.args.tx.now c.fill_all.new.tx (p.1 ∙ (λ i. Err (p.2 i)))
    (changes_then g.D.Disk.tells g.D.Disk.view c.args.slot 0 6 6 (omega arith) _ c.args.log.now c.begin.new.log c.args.tx.now c.begin.new.tx c.in_ok-unique.ensures.changes _ c.fill_all.new.log c.fill_all.new.tx
    (changes_failed g.D.Disk.tells g.D.Disk.view c.args.slot 6 6 _ c.begin.new.log c.fill_all.new.log c.begin.new.tx c.fill_all.new.tx c.in_err-fill_all.ensures.changes)))

pub returns-clause-unique : goal.returns-clause-unique
returns-clause-unique g c = λ told slots keeps. c.in_ok-unique.ensures.unique told slots (held_of slots (state_of c.args.log.now) _ keeps)

pub returns-clause-kept : goal.returns-clause-kept
returns-clause-kept g c = λ told slots keeps takes.
    (let held = held_of slots (state_of c.args.log.now) (g.D.Disk.view (disk_of c.args.log.now)).image keeps in
    let first = c.in_ok-unique.ensures.turned told slots held takes in
    let last = c.in_ok-fill_all.ensures.turned told ((with_anode c.args.slot c.args.anode (used_by (record { owner = c.args.object.now.owner; group = c.args.object.now.group; content = blank_content c.is_dir-dir.result }))) slots) first (blank_made slots c.args.slot c.args.anode c.is_dir-dir.result (is_dir c.args.object.now.content) c.args.object.now.owner c.args.object.now.group c.requires.first (let full = held.count c.args.slot c.requires.slot in let few = c.requires.last in omega (arith, full, few)) c.is_dir-dir.ensures) in
    let empty = new_emptied c.args.object.now.content c.requires.new in
    record {
      held = subst (λ (s : ℕ → List Anode). HoldsNow (kept_anodes s) (state_of c.fill_all.new.log) (g.D.Disk.view (disk_of c.fill_all.new.log)).image)
          (anode_twice slots c.args.slot c.args.anode (anode_changed (λ blank. emptied c.args.object.now.content)) (used_by (record { owner = c.args.object.now.owner; group = c.args.object.now.group; content = blank_content c.is_dir-dir.result }))
          ∙ (λ i. with_anode c.args.slot c.args.anode (used_by (record { owner = c.args.object.now.owner; group = c.args.object.now.group; content = empty i })) slots)) last.held;
      each = each_changed slots c.args.slot _ keeps.each (fits_changed (slots c.args.slot) c.args.anode (used_by c.args.object.now) (keeps.each c.args.slot c.requires.slot) c.requires.first c.requires.last
          (record { owner = c.known.ensures; group = c.known-2.ensures; content = subst (λ (content : Content). FitsContent content) empty (c.in_ok-fill_all.ensures.fits told) }));
    })

pub returns-clause-changes : goal.returns-clause-changes
returns-clause-changes g c =
    changes_then g.D.Disk.tells g.D.Disk.view c.args.slot 0 6 6 (omega arith) _ c.args.log.now c.begin.new.log c.args.tx.now c.begin.new.tx c.in_ok-unique.ensures.changes _ c.fill_all.new.log c.fill_all.new.tx
    (changes_value g.D.Disk.tells g.D.Disk.view c.args.slot 6 _ _ c.begin.new.log c.fill_all.new.log c.begin.new.tx c.fill_all.new.tx c.in_ok-fill_all.ensures.changes)
