use Rattle.std.proofs.Common.{ℕ, List, subst, arith}
use Rattle.tree_filesets.specs.Creation.{occupied}
use Rattle.tree_objects.specs.declared.content.Anode.{Anode}
use Rattle.tree_objects.specs.Changes.{anode_changed}
use Rattle.tree_objects.specs.Objects.{is_dir}
use Rattle.disk_log.specs.Log.{disk_of, state_of}
use Rattle.disk_objects.specs.Holds.{HoldsNow}
use Rattle.disk_objects.specs.Objects.{with_anode, kept_anodes, FitsContent, HeldNow}
use Rattle.disk_objects.proofs.Keeping.{held_of, fits_changed, each_changed}
use Rattle.disk_fileset.specs.Slots.{IsBlank, IsVacant, emptied, blank_content}
use Rattle.disk_fileset.proofs.Changing.{on_ok_two, may_after, may_held, changes_then}
use Rattle.disk_fileset.proofs.Arrived.{blank_put}
use Rattle.disk_fileset.proofs.Twice.{anode_twice}
use Rattle.disk_fileset.proofs.arriving.put_empty.Goals as goal

pub fill_all-requires-clause-may : goal.fill_all-requires-clause-may
fill_all-requires-clause-may g c =
    may_after g.D.Disk.tells g.D.Disk.view c.args.slot 0 6 6 (omega arith) _ c.args.log.now c.start.new.log c.args.tx.now c.start.new.tx c.in_ok-start.ensures.changes
    HeldNow (IsVacant c.args.slot c.args.anode) (IsVacant c.args.slot c.args.anode) (IsBlank c.args.slot c.args.anode (is_dir c.args.object.now.content)) (with_anode c.args.slot c.args.anode (occupied c.args.unique (record { owner = c.args.object.now.owner; group = c.args.object.now.group; content = blank_content c.is_dir-dir.result }))) (may_held g.D.Disk.tells g.D.Disk.view (IsVacant c.args.slot c.args.anode) c.args.slot 6 c.args.log.now c.args.tx.now c.requires.may) c.in_ok-start.ensures.turned
    (λ slots held is. (is, blank_put slots c.args.slot c.args.anode c.args.unique c.is_dir-dir.result (is_dir c.args.object.now.content) c.args.object.now.owner c.args.object.now.group c.requires.first (let full = held.count c.args.slot c.requires.slot in let few = c.requires.last in omega (arith, full, few)) c.is_dir-dir.ensures))

pub returns-clause-kept : goal.returns-clause-kept
returns-clause-kept g c = λ told slots keeps vacant.
    (let held = held_of slots (state_of c.args.log.now) (g.D.Disk.view (disk_of c.args.log.now)).image keeps in
    let blank = occupied c.args.unique (record { owner = c.args.object.now.owner; group = c.args.object.now.group; content = blank_content c.is_dir-dir.result }) in
    let first = c.in_ok-start.ensures.turned told slots held vacant in
    let last = c.fill_all.ensures.turned told (with_anode c.args.slot c.args.anode blank slots) first (blank_put slots c.args.slot c.args.anode c.args.unique c.is_dir-dir.result (is_dir c.args.object.now.content) c.args.object.now.owner c.args.object.now.group c.requires.first (let full = held.count c.args.slot c.requires.slot in let few = c.requires.last in omega (arith, full, few)) c.is_dir-dir.ensures) in
    on_ok_two c.fill_all.result (λ (h : HeldNow (with_anode c.args.slot c.args.anode (anode_changed (λ blank. emptied c.args.object.now.content)) (with_anode c.args.slot c.args.anode blank slots)) (state_of c.fill_all.new.log) (g.D.Disk.view (disk_of c.fill_all.new.log)).image) (fits : FitsContent (emptied c.args.object.now.content)).
    record {
      held = subst (λ (s : ℕ → List Anode). HoldsNow (kept_anodes s) (state_of c.fill_all.new.log) (g.D.Disk.view (disk_of c.fill_all.new.log)).image)
          (anode_twice slots c.args.slot c.args.anode (anode_changed (λ blank. emptied c.args.object.now.content)) blank) h.held;
      each = each_changed slots c.args.slot _ keeps.each (fits_changed (slots c.args.slot) c.args.anode (occupied c.args.unique (record { owner = c.args.object.now.owner; group = c.args.object.now.group; content = emptied c.args.object.now.content })) (keeps.each c.args.slot c.requires.slot) c.requires.first c.requires.last
          (record { owner = c.known.ensures; group = c.known-2.ensures; content = fits }));
    }) last (c.fill_all.ensures.fits told))

pub returns-clause-changes : goal.returns-clause-changes
returns-clause-changes g c =
    changes_then g.D.Disk.tells g.D.Disk.view c.args.slot 0 6 6 (omega arith) _ c.args.log.now c.start.new.log c.args.tx.now c.start.new.tx c.in_ok-start.ensures.changes c.fill_all.result c.fill_all.new.log c.fill_all.new.tx c.fill_all.ensures.changes
