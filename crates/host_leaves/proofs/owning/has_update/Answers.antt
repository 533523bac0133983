use Rattle.std.proofs.Common.{ap, sym, ◌∙◌}
use Rattle.std.specs.List.{list_any}
use Rattle.host_tables.specs.Tables.{updates_status}
use Rattle.host_leaves.proofs.DirtyTokens.{any_at_file}
use Rattle.host_leaves.proofs.owning.has_update.Goals as goal

pub returns : goal.returns
returns c =
    c.updates_any.ensures
    ∙ ap (list_any (λ token. updates_status token.kind)) c.tokens_at.ensures
    ∙ sym (any_at_file (λ token. updates_status token.kind) c.args.fid c.args.cache.now.held)
