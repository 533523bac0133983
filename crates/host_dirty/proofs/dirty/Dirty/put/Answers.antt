use Rattle.std.proofs.Common.{◌≡◌, true, cond, Some, None, sym, ap, ◌∙◌}
use Rattle.std.specs.BTreeMap.{get, is_at}
use Rattle.host_dirty.specs.Files.{key_cmp, is_clean}
use Rattle.host_dirty.specs.declared.dirty.Dirty.{Dirty}
use Rattle.host_dirty.proofs.Changing.{put_in, taken_out, clean_is}
use Rattle.host_dirty.proofs.dirty.Dirty.put.Goals as goal

pub returns-then-is_clean-clause-after : goal.returns-then-is_clean-clause-after
returns-then-is_clean-clause-after c =
    let old = c.args.self.now in
    let new : Dirty = record { alloc = old.alloc; files = c.remove.new.self } in
    let is : is_clean c.args.file ≡ true = sym c.is_clean.ensures ∙ c.if-is_clean.true in
    taken_out old new c.args.fid c.args.file (clean_is c.args.file is) (λ q.
    c.remove.ensures.updates.0 q
    ∙ ap (λ k. cond (is_at (key_cmp k) q) None (get key_cmp old.files q)) c.key_of-key.ensures)

pub returns-clause-after : goal.returns-clause-after
returns-clause-after c =
    let old = c.args.self.now in
    let new : Dirty = record { alloc = old.alloc; files = c.insert.new.self } in
    put_in old new c.args.fid c.args.file (λ q.
    c.in_ok-insert.ensures.updates.0 q
    ∙ ap (λ k. cond (is_at (key_cmp k) q) (Some c.args.file) (get key_cmp old.files q)) c.key_of-key.ensures)
