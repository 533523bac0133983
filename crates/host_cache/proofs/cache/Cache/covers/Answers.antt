use Rattle.std.proofs.Common.{sym, subst}
use Rattle.token_types.specs.Covers.{CoversKind}
use Rattle.host_cache.proofs.Seeing.{covers_all, covers_own}
use Rattle.host_cache.proofs.cache.Cache.covers.Goals as goal

pub returns : goal.returns
returns c =
    let fid = c.args.need.now.fid in
    let kind = c.args.need.now.kind in (
      λ h. covers_all c.args.self.now.held fid kind
          (subst (λ ts. CoversKind ts fid kind) c.tokens_at.ensures (c.covers.ensures.0 h)),
      λ h. c.covers.ensures.1 (subst (λ ts. CoversKind ts fid kind) (sym c.tokens_at.ensures)
          (covers_own c.args.self.now.held fid kind h)),
    )
