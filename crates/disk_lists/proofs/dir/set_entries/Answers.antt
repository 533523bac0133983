use Rattle.std.proofs.Common.{◌≤◌, ◌∙◌, ◌+◌, ◌-◌, ◌/◌, ℕ, length, refl, sym, subst, ap, arith}
use Rattle.std.specs.Prelude.{Result, Ok, Err, OnOk}
use Rattle.std.proofs.lemmas.Result.{on_ok_weaker}
use Rattle.disk_log.specs.Log.{disk_of, state_of}
use Rattle.disk_anode.specs.Anode.{Anode, anode_in}
use Rattle.disk_lists.specs.Entries.{with_entries, IsDirectory}
use Rattle.disk_lists.proofs.Laid.{length-bytes_of}
use Rattle.disk_lists.proofs.Kept.{changed_as, directory_with, ended_all}
use Rattle.disk_lists.proofs.dir.set_entries.Goals as goal

pub write_end-requires-clause-within : goal.write_end-requires-clause-within
write_end-requires-clause-within g c =
    let size = ap length (c.as_slice.ensures.value ∙ c.in-Ok.ensures.items) ∙ length-bytes_of c.args.entries.now c.in-Ok.ensures.fits in
    let most = c.requires.most in
    omega (arith, size, most)

pub write_end-requires-clause-room : goal.write_end-requires-clause-room
write_end-requires-clause-room g c = λ told.
    (let size = ap length (c.as_slice.ensures.value ∙ c.in-Ok.ensures.items) ∙ length-bytes_of c.args.entries.now c.in-Ok.ensures.fits in
    let most = c.requires.most in
    let room = c.requires.room told in
    omega (arith, size, most, room))

at_most : {T E : Type 0} (r : Result T E) (a b m n : ℕ) → m ≤ n → OnOk r (a ≤ b + m) → OnOk r (a ≤ b + n)
at_most (Ok value) a b m n few le = omega (arith, few, le)
at_most (Err error) a b m n few le = tt

pub returns-in-Ok-clause-room : goal.returns-in-Ok-clause-room
returns-in-Ok-clause-room g c = λ told.
    (let size = ap length (c.as_slice.ensures.value ∙ c.in-Ok.ensures.items) ∙ length-bytes_of c.args.entries.now c.in-Ok.ensures.fits in
    let most = c.requires.most in
    let few : (0 + length c.as_slice.result.now + 1023) / 1024 - 0 / 1024 + 2 ≤ 7 = omega (arith, size, most) in
    at_most c.write_end.result _ _ _ 7 few (c.write_end.ensures.room told))

pub returns-in-Ok-clause-changed : goal.returns-in-Ok-clause-changed
returns-in-Ok-clause-changed g c = λ told others is.
    let old = state_of c.args.log.now in
    let before = (g.D.Disk.view (disk_of c.args.log.now)).image in
    on_ok_weaker c.write_end.result (λ changed. changed_as c.args.page _ (with_entries c.args.entries.now) old old (state_of c.write_end.new.log) before before _ refl refl
    (ended_all (anode_in old before c.args.page) others c.args.entries.now c.as_slice.result.now is c.in-Ok.ensures.fits (c.as_slice.ensures.value ∙ c.in-Ok.ensures.items)) changed) (c.write_end.ensures.changed told)

pub returns-in-Ok-clause-directory : goal.returns-in-Ok-clause-directory
returns-in-Ok-clause-directory g c = λ told others is.
    let anode = anode_in (state_of c.args.log.now) (g.D.Disk.view (disk_of c.args.log.now)).image c.args.page in
    on_ok_weaker c.write_end.result (λ changed. subst (λ (a : Anode). IsDirectory c.args.entries.now a) (sym changed.anode)
    (directory_with anode others c.args.entries.now is c.requires.most c.in-Ok.ensures.fits c.requires.rise)) (returns-in-Ok-clause-changed g c told others is)
