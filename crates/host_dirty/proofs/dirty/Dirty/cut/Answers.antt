use Rattle.std.proofs.Common.{ap, sym, ◌∙◌, Some}
use Rattle.std.proofs.lemmas.Map.Steps.{set_value_same}
use Rattle.std.specs.BTreeMap.{is_at}
use Rattle.host_dirty.specs.Files.{key_cmp}
use Rattle.host_dirty.specs.declared.dirty.Dirty.{Dirty}
use Rattle.host_dirty.proofs.Changing.{clean_is, found_is, on_err, put_at, put_out, same_map, was_cut}
use Rattle.host_dirty.proofs.dirty.Dirty.cut.Goals as goal

pub returns-in_err-cut-clause-err : goal.returns-in_err-cut-clause-err
returns-in_err-cut-clause-err c =
    let old = c.args.self.now in
    let new : Dirty = record { alloc = old.alloc; files = c.get_mut.follows.lender c.cut.new.self } in
    let was = sym c.in-Some.ensures.value ∙ ap Some (sym c.in_err-cut.ensures.err) in
    let same = (c.get_mut.follows.holds c.cut.new.self).0
    ∙ set_value_same (is_at (key_cmp c.key_of-key.result)) old.files.entries c.cut.new.self was in
    on_err c.from_residual.result (same_map old new same)

pub returns-then-is_clean-clause-after : goal.returns-then-is_clean-clause-after
returns-then-is_clean-clause-after c =
    let old = c.args.self.now in
    let key = c.key_of-key.result in
    let was = c.in-Some.file.now in
    let file = c.cut.new.self in
    let between : Dirty = record { alloc = old.alloc; files = c.get_mut.follows.lender file } in
    let new : Dirty = record { alloc = old.alloc; files = c.remove.new.self } in
    was_cut old new c.args.fid file was
    (found_is old c.args.fid key was c.key_of-key.ensures c.in-Some.ensures.value)
    (put_out old between new c.args.fid key was file c.key_of-key.ensures c.in-Some.ensures.value
    (clean_is file (sym c.is_clean.ensures ∙ c.if-is_clean.true))
    (λ some. ((c.get_mut.follows.holds file).3 some).0) c.remove.ensures.updates.0)
    c.args.span c.in_ok-cut.ensures.ok.spans c.in_ok-cut.ensures.ok.length

pub returns-else-is_clean-clause-after : goal.returns-else-is_clean-clause-after
returns-else-is_clean-clause-after c =
    let old = c.args.self.now in
    let key = c.key_of-key.result in
    let was = c.in-Some.file.now in
    let file = c.cut.new.self in
    let new : Dirty = record { alloc = old.alloc; files = c.get_mut.follows.lender file } in
    was_cut old new c.args.fid file was
    (found_is old c.args.fid key was c.key_of-key.ensures c.in-Some.ensures.value)
    (put_at old new c.args.fid key was file c.key_of-key.ensures c.in-Some.ensures.value (λ some.
    ((c.get_mut.follows.holds file).3 some).0))
    c.args.span c.in_ok-cut.ensures.ok.spans c.in_ok-cut.ensures.ok.length
