use Rattle.std.proofs.Common.{subst, sym, ◌∙◌}
use Rattle.host_cache.specs.Holding.{tokens_of}
use Rattle.token_types.specs.Covers.{Covers}
use Rattle.host_leaves.specs.Revoking.{covers_status}
use Rattle.host_leaves.proofs.Held.{status_covers}
use Rattle.host_leaves.proofs.Spans.{same_test}
use Rattle.host_leaves.proofs.revoking.covers_status.Goals as goal

pub returns : goal.returns
returns c =
    let held = tokens_of c.args.cache.now.held in
    let fid = c.args.fid in
    same_test c.covers.result (covers_status fid held)
    (λ e. sym (status_covers fid held) ∙ subst (Covers held) c.status_need.ensures (c.covers.ensures.0 e))
    (λ e. c.covers.ensures.1 (subst (Covers held) (sym c.status_need.ensures) (status_covers fid held ∙ e)))
