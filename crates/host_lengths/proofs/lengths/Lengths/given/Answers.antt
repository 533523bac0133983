use Rattle.std.proofs.Common.{ap, ◌∙◌}
use Rattle.std.specs.Map.{lookup, values_of}
use Rattle.host_lengths.specs.Giving.{length_given}
use Rattle.host_lengths.specs.Lengths.{file_key, same_file}
use Rattle.host_lengths.proofs.Keyed.{lookup_keyed}
use Rattle.host_lengths.proofs.lengths.Lengths.given.Goals as goal

pub returns : goal.returns
returns c =
    c.copied.ensures ∙ c.get.ensures.value
    ∙ ap (λ k. lookup (same_file k) c.self.inside.by_file.entries) c.file_key.ensures
    ∙ ap (lookup (same_file (file_key c.args.fid))) c.self.invariant.keys
    ∙ lookup_keyed c.args.fid (values_of c.self.inside.by_file.entries)
    ∙ ap (λ lengths. length_given lengths c.args.fid) c.self.view_is
