use Rattle.std.proofs.Common.{◌∙◌, ◌*◌, ◌++◌, ℕ, List, take, refl, sym, subst, arith}
use Rattle.std.proofs.lemmas.Result.{on_ok_weaker}
use Rattle.tree_calls.specs.declared.part.DirEntry.{DirEntry}
use Rattle.disk_log.specs.Log.{disk_of, state_of}
use Rattle.disk_anode.specs.Node.{node_in}
use Rattle.disk_anode.specs.Anode.{Anode, anode_in}
use Rattle.disk_anode.specs.Changes.{own_names}
use Rattle.disk_anode.proofs.Moving.{wrote_after}
use Rattle.disk_lists.specs.Entries.{entry_bytes, entered, with_entries, IsEntry, IsDirectory, IsPlace, AreEntries}
use Rattle.disk_lists.proofs.Laid.{take_behind}
use Rattle.disk_lists.proofs.Kept.{changed_as}
use Rattle.disk_lists.proofs.Adding.{entered_ended, entered_directory}
use Rattle.disk_lists.proofs.dir.add.Goals as goal

pub returns-in-Ok-clause-changed : goal.returns-in-Ok-clause-changed
returns-in-Ok-clause-changed g c = λ told entries is none few.
    let old = state_of c.args.log.now in
    let before = (g.D.Disk.view (disk_of c.args.log.now)).image in
    let anode = anode_in old before c.args.page in
    let entry : DirEntry = record { name = c.args.name.now; anode = c.args.anode; unique = c.args.unique } in
    let bytes : List ℕ = take (72 * c.in_ok-count.count) c.read_entries.new.out in
    let are : AreEntries entries bytes = c.in_ok-count.ensures.entries told entries is in
    let place = c.place_of-place.result in
    let name = c.as_bytes.ensures.value in
    let valid : IsEntry entry = record { name = c.as_bytes.ensures.name; anode = omega arith; unique = omega arith } in
    let at : IsPlace entries c.args.name.now place = subst (λ (n : List ℕ). IsPlace entries n place) name (c.place_of-place.ensures.place entries are) in
    on_ok_weaker c.write_end.result (λ changed. changed_as c.args.page _ (with_entries (entered entry entries)) old (state_of c.read_entries.new.log) (state_of c.write_end.new.log) before _ _ c.read_entries.ensures.state c.read_entries.ensures.quiet.image
    (entered_ended anode entries entry bytes place is are valid at c.as_slice.result.now (72 * place) refl (c.as_slice.ensures.value ∙ c.in-Ok.ensures ∙ (λ j. entry_bytes entry ++ take_behind (72 * place) bytes j))) changed) (c.write_end.ensures.changed told)

pub returns-in-Ok-clause-directory : goal.returns-in-Ok-clause-directory
returns-in-Ok-clause-directory g c = λ told entries is none few.
    let old = state_of c.args.log.now in
    let before = (g.D.Disk.view (disk_of c.args.log.now)).image in
    let anode = anode_in old before c.args.page in
    let entry : DirEntry = record { name = c.args.name.now; anode = c.args.anode; unique = c.args.unique } in
    let bytes : List ℕ = take (72 * c.in_ok-count.count) c.read_entries.new.out in
    let are : AreEntries entries bytes = c.in_ok-count.ensures.entries told entries is in
    let place = c.place_of-place.result in
    let name = c.as_bytes.ensures.value in
    let valid : IsEntry entry = record { name = c.as_bytes.ensures.name; anode = omega arith; unique = omega arith } in
    let at : IsPlace entries c.args.name.now place = subst (λ (n : List ℕ). IsPlace entries n place) name (c.place_of-place.ensures.place entries are) in
    on_ok_weaker c.write_end.result (λ changed. subst (λ (a : Anode). IsDirectory (entered entry entries) a) (sym changed.anode) (entered_directory anode entries entry bytes place is are valid at none few)) (returns-in-Ok-clause-changed g c told entries is none few)

pub returns-in-Ok-clause-wrote : goal.returns-in-Ok-clause-wrote
returns-in-Ok-clause-wrote g c = λ told.
    let state = c.read_entries.ensures.state in
    let quiet = c.read_entries.ensures.quiet in
    wrote_after _ _ (state_of c.args.log.now) (state_of c.read_entries.new.log) _ _ _ (λ i. own_names (state i) (quiet.image i) (node_in (state i) (quiet.image i) c.args.page)) state quiet (c.write_end.ensures.wrote told)
