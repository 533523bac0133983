use Rattle.std.proofs.Common.{rules, not, map, ap, ◌∙◌}
use Rattle.std.specs.List.{filter}
use Rattle.std.proofs.lemmas.Fn.{filter_same}
use Rattle.host_dirty.specs.Files.{fid_of, is_clean}
use Rattle.host_dirty.specs.Dirtiness.{file_at}
use Rattle.host_dirty.proofs.dirty.Dirty.files.Goals as goal

pub returns : goal.returns
returns c =
    filter_same _ _ _ (λ x b f' k. search rules) _ _ c.retain.ensures
    ∙ ap (filter (λ fid. not (is_clean (file_at c.args.self.now fid))))
    (c.in_ok-fids.ensures ∙ ap (map fid_of) (c.as_slice.ensures ∙ c.in_ok-keys.ensures))
