use Rattle.std.proofs.Common.{◌∙◌, ◌+◌, ◌*◌, ℕ, List, take, refl, sym, subst}
use Rattle.std.specs.Prelude.{Some, None}
use Rattle.std.proofs.lemmas.Result.{on_ok_weaker}
use Rattle.disk_log.specs.Log.{disk_of, state_of}
use Rattle.disk_anode.specs.Anode.{Anode, anode_in}
use Rattle.disk_lists.specs.Entries.{without, with_entries, IsDirectory, AreEntries, IsNamedAt}
use Rattle.disk_lists.proofs.Laid.{take_behind}
use Rattle.disk_lists.proofs.Kept.{changed_as, changed_none, same_entries}
use Rattle.disk_lists.proofs.Adding.{left_ended, left_directory}
use Rattle.disk_lists.proofs.dir.drop_name.Goals as goal

pub returns-in_default-clause-changed : goal.returns-in_default-clause-changed
returns-in_default-clause-changed g c = λ told entries is.
    let old = state_of c.args.log.now in
    let before = (g.D.Disk.view (disk_of c.args.log.now)).image in
    let anode = anode_in old before c.args.page in
    let bytes : List ℕ = take (72 * c.in_ok-count.count) c.read_entries.new.out in
    let are : AreEntries entries bytes = c.in_ok-count.ensures.entries told entries is in
    let name = c.as_bytes.ensures.value in
    let none : IsNamedAt entries c.args.name.now None = subst (λ (n : List ℕ). IsNamedAt entries n None) name (c.in_default.ensures.entry entries are) in
    changed_none c.args.page (with_entries (without c.args.name.now entries)) old (state_of c.read_entries.new.log) before _ c.read_entries.ensures.state c.read_entries.ensures.quiet.image
    (same_entries anode entries is ∙ (λ j. with_entries (sym none.1 j) anode))

pub returns-in_default-clause-directory : goal.returns-in_default-clause-directory
returns-in_default-clause-directory g c = λ told entries is.
    let changed = returns-in_default-clause-changed g c told entries is in
    subst (λ (a : Anode). IsDirectory (without c.args.name.now entries) a) (sym changed.anode) (left_directory (anode_in (state_of c.args.log.now) (g.D.Disk.view (disk_of c.args.log.now)).image c.args.page) entries c.args.name.now is)

pub returns-clause-changed : goal.returns-clause-changed
returns-clause-changed g c = λ told entries is.
    let old = state_of c.args.log.now in
    let before = (g.D.Disk.view (disk_of c.args.log.now)).image in
    let anode = anode_in old before c.args.page in
    let bytes : List ℕ = take (72 * c.in_ok-count.count) c.read_entries.new.out in
    let are : AreEntries entries bytes = c.in_ok-count.ensures.entries told entries is in
    let name = c.as_bytes.ensures.value in
    let some : IsNamedAt entries c.args.name.now (Some c.in-Some.i) = subst (λ (n : List ℕ). IsNamedAt entries n (Some c.in-Some.i)) name (c.in-Some.ensures.entry entries are) in
    on_ok_weaker c.write_end.result (λ changed. changed_as c.args.page _ (with_entries (without c.args.name.now entries)) old (state_of c.read_entries.new.log) (state_of c.write_end.new.log) before _ _ c.read_entries.ensures.state c.read_entries.ensures.quiet.image
    (left_ended anode entries bytes c.args.name.now c.in-Some.i is are some c.in-Some.ensures.within _ (72 * c.in-Some.i) refl (take_behind (72 * c.in-Some.i + 72) bytes)) changed) (c.write_end.ensures.changed told)

pub returns-clause-directory : goal.returns-clause-directory
returns-clause-directory g c = λ told entries is.
    on_ok_weaker c.write_end.result (λ changed. subst (λ (a : Anode). IsDirectory (without c.args.name.now entries) a) (sym changed.anode) (left_directory (anode_in (state_of c.args.log.now) (g.D.Disk.view (disk_of c.args.log.now)).image c.args.page) entries c.args.name.now is)) (returns-clause-changed g c told entries is)
