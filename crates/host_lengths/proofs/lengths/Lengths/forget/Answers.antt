use Rattle.std.proofs.Common.{◌≡◌, List, ap, not, subst, ◌∙◌}
use Rattle.std.specs.List.{IsDistinct}
use Rattle.std.specs.Map.{keys_of, remove_entry, values_of}
use Rattle.base_types.specs.Ids.{same_fid}
use Rattle.base_types.specs.declared.ids.Fid.{Fid}
use Rattle.host_lengths.specs.Giving.{without_file}
use Rattle.host_lengths.specs.Lengths.{FileKey, file_key, keyed, same_file}
use Rattle.host_lengths.specs.declared.given.Given.{Given}
use Rattle.host_lengths.proofs.Keyed.{once_keyed, rekeyed, removed_keyed}
use Rattle.host_lengths.proofs.Noted.{lengths_are, noted_kept}
use Rattle.host_lengths.proofs.lengths.Lengths.forget.Goals as goal

left : (old new : List (FileKey × Given)) (fid : Fid) (key : FileKey) → key ≡ file_key fid →
    old ≡ keyed (values_of old) → IsDistinct same_file (keys_of old) → new ≡ remove_entry (same_file key) old →
    new ≡ keyed (without_file fid (values_of old))
left old new fid key is keys distinct made =
    made ∙ ap (λ k. remove_entry (same_file k) old) is ∙ ap (remove_entry (same_file (file_key fid))) keys
    ∙ removed_keyed fid (values_of old) (once_keyed fid (values_of old)
    (subst (λ (es : List (FileKey × Given)). IsDistinct same_file (keys_of es)) keys distinct))

pub invariant_of-self : goal.invariant_of-self
invariant_of-self c =
    let old = c.self.inside.by_file.entries in
    let fid = c.args.fid in
    lengths_are c.shift_remove.new.self.entries (without_file fid (values_of old)) c.self.inside.files.entries
    (left old c.shift_remove.new.self.entries fid c.file_key.result c.file_key.ensures c.self.invariant.keys
    c.len-count.ensures.unique c.shift_remove.ensures.entries)
    (noted_kept (λ g. not (same_fid g.fid fid)) c.self.inside.files.entries (values_of old) c.self.invariant.noted)

pub returns : goal.returns
returns c =
    let old = c.self.inside.by_file.entries in
    (rekeyed c.shift_remove.new.self.entries (without_file c.args.fid (values_of old))
    (left old c.shift_remove.new.self.entries c.args.fid c.file_key.result c.file_key.ensures c.self.invariant.keys
    c.len-count.ensures.unique c.shift_remove.ensures.entries)).1 ∙ ap (without_file c.args.fid) c.self.view_is
