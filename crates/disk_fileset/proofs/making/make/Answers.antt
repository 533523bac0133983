use Rattle.std.proofs.Common.{ℕ, ◌+◌, ◌∙◌, List, refl, subst, arith}
use Rattle.std.specs.Prelude.{Err}
use Rattle.std.proofs.lemmas.Result.{err_from_is_err_and}
use Rattle.tree_objects.specs.declared.content.Anode.{Anode}
use Rattle.tree_objects.specs.Changes.{anode_changed}
use Rattle.tree_objects.specs.Entries.{content_with_entry}
use Rattle.disk_log.specs.Log.{disk_of, state_of}
use Rattle.disk_objects.specs.Objects.{with_anode, KeepsNow}
use Rattle.disk_fileset.specs.Slots.{MayMake, TakesName, TakesObject}
use Rattle.disk_fileset.proofs.Changing.{may_after, changes_then, changes_failed, changes_value, changes_as}
use Rattle.disk_fileset.proofs.Steps.{takes_after, unique_after, used_turn}
use Rattle.disk_fileset.proofs.making.make.Goals as goal

pub occupy-requires-clause-may : goal.occupy-requires-clause-may
occupy-requires-clause-may g c =
    may_after g.D.Disk.tells g.D.Disk.view c.args.slot 7 6 13 (omega arith) _ c.args.log.now c.enter.new.log c.args.tx.now c.enter.new.tx c.in_ok-enter.ensures.changes
    KeepsNow (MayMake c.args.slot c.args.creation.now) (TakesName c.args.slot c.args.creation.now.parent c.args.creation.now.entry.name) (TakesObject c.args.slot c.args.creation.now.entry.anode) (with_anode c.args.slot c.args.creation.now.parent (anode_changed (content_with_entry c.args.creation.now.entry))) c.requires.may c.in_ok-enter.ensures.kept
    (λ slots held is. (is.0, takes_after slots c.args.slot c.args.creation.now.parent c.args.creation.now.entry.anode (content_with_entry c.args.creation.now.entry) c.requires.parent c.requires.first is.1))

pub returns-in_err-occupy-clause-changes : goal.returns-in_err-occupy-clause-changes
returns-in_err-occupy-clause-changes g c =
    (let p = err_from_is_err_and c.from_residual-in_err-occupy.result c.from_residual-in_err-occupy.ensures.1 in
    changes_as g.D.Disk.tells g.D.Disk.view c.args.slot 13 c.from_residual-in_err-occupy.result (Err c.in_err-occupy.field-0.0) c.args.log.now c.occupy.new.log c.args.tx.now c.occupy.new.tx (p.1 ∙ (λ i. Err (p.2 i)))
    (changes_then g.D.Disk.tells g.D.Disk.view c.args.slot 7 6 13 (omega arith) _ c.args.log.now c.enter.new.log c.args.tx.now c.enter.new.tx c.in_ok-enter.ensures.changes _ c.occupy.new.log c.occupy.new.tx
    (changes_failed g.D.Disk.tells g.D.Disk.view c.args.slot 6 6 _ c.enter.new.log c.occupy.new.log c.enter.new.tx c.occupy.new.tx c.in_err-occupy.ensures.changes)))

pub returns-clause-kept : goal.returns-clause-kept
returns-clause-kept g c = λ told slots keeps is.
    (let next = (with_anode c.args.slot c.args.creation.now.parent (anode_changed (content_with_entry c.args.creation.now.entry))) slots in
    let same = unique_after slots c.args.slot c.args.creation.now.parent c.args.creation.now.entry.anode _ (content_with_entry c.args.creation.now.entry) c.requires.parent c.requires.first refl in
    let last = c.in_ok-occupy.ensures.kept told next (c.in_ok-enter.ensures.kept told slots keeps is.0) (takes_after slots c.args.slot c.args.creation.now.parent c.args.creation.now.entry.anode (content_with_entry c.args.creation.now.entry) c.requires.parent c.requires.first is.1) in
    subst (λ (s : ℕ → List Anode). KeepsNow s (state_of c.occupy.new.log) (g.D.Disk.view (disk_of c.occupy.new.log)).image)
    (used_turn next c.args.slot c.args.creation.now.entry.anode c.args.creation.now.entry.unique c.args.creation.now.object ((λ i. same i + 1) ∙ is.2)) last)

pub returns-clause-changes : goal.returns-clause-changes
returns-clause-changes g c =
    changes_then g.D.Disk.tells g.D.Disk.view c.args.slot 7 6 13 (omega arith) _ c.args.log.now c.enter.new.log c.args.tx.now c.enter.new.tx c.in_ok-enter.ensures.changes _ c.occupy.new.log c.occupy.new.tx
    (changes_value g.D.Disk.tells g.D.Disk.view c.args.slot 6 _ _ c.enter.new.log c.occupy.new.log c.enter.new.tx c.occupy.new.tx c.in_ok-occupy.ensures.changes)
