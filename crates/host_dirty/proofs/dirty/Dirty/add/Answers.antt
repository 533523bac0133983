use Rattle.std.proofs.Common.{◌≡◌, cond, ap, sym, ◌∙◌, unwrap_or, Some, None}
use Rattle.std.proofs.lemmas.Map.Steps.{set_value_same}
use Rattle.std.specs.BTreeMap.{is_at, get}
use Rattle.base_types.specs.Ids.{same_fid}
use Rattle.host_dirty.specs.Dirtiness.{file_at}
use Rattle.host_dirty.specs.Files.{clean, key_cmp, key_of}
use Rattle.host_dirty.specs.declared.dirty.Dirty.{Dirty}
use Rattle.host_dirty.proofs.Changing.{added, found_is, on_err, put_at, same_map}
use Rattle.host_dirty.proofs.dirty.Dirty.add.Goals as goal

pub returns-in_err-add-clause-err : goal.returns-in_err-add-clause-err
returns-in_err-add-clause-err c =
    let old = c.args.self.now in
    let new : Dirty = record { alloc = old.alloc; files = c.get_mut.follows.lender c.add.new.self } in
    let was = sym c.in-Some.ensures.value ∙ ap Some (sym c.in_err-add.ensures.err) in
    let same = (c.get_mut.follows.holds c.add.new.self).0
    ∙ set_value_same (is_at (key_cmp c.key_of-key.result)) old.files.entries c.add.new.self was in
    on_err c.from_residual.result (same_map old new same)

pub returns-in-Some-clause-after : goal.returns-in-Some-clause-after
returns-in-Some-clause-after c =
    let old = c.args.self.now in
    let key = c.key_of-key.result in
    let was = c.in-Some.file.now in
    let file = c.add.new.self in
    let new : Dirty = record { alloc = old.alloc; files = c.get_mut.follows.lender file } in
    added old new c.args.fid file was
    (found_is old c.args.fid key was c.key_of-key.ensures c.in-Some.ensures.value)
    (put_at old new c.args.fid key was file c.key_of-key.ensures c.in-Some.ensures.value (λ some.
    ((c.get_mut.follows.holds file).3 some).0))
    c.args.span c.in_ok-add.ensures.ok.spans c.in_ok-add.ensures.ok.length

pub returns-clause-after : goal.returns-clause-after
returns-clause-after c =
    let old = c.args.self.now in
    let fid = c.args.fid in
    let file = c.add-2.new.self in
    let none : get key_cmp old.files (key_of fid) ≡ None =
    ap (get key_cmp old.files) (sym c.key_of-key.ensures) ∙ sym c.in_default.ensures.value in
    added old c.put.new.self fid file c.clean-file.result
    (c.clean-file.ensures ∙ sym (ap (λ o. unwrap_or o clean) none))
    (λ other. c.in_ok-put.ensures.after other
    ∙ (λ i. cond (same_fid fid other) file
    (file_at (record { alloc = old.alloc; files = c.get_mut.follows.holds-at-none i }) other)))
    c.args.span c.in_ok-add-2.ensures.ok.spans c.in_ok-add-2.ensures.ok.length
