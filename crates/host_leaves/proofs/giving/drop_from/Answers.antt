use Rattle.std.proofs.Common.{ap, ◌∙◌}
use Rattle.host_cache.specs.Seen.{Seen, after_drop, seen}
use Rattle.token_types.specs.declared.token.Token.{Token}
use Rattle.host_leaves.specs.Giving.{leaves_by}
use Rattle.host_leaves.proofs.Steps.{behind_next, fold_next}
use Rattle.host_leaves.proofs.giving.drop_from.Goals as goal

pub loop-token-preserved : goal.loop-token-preserved
loop-token-preserved c =
    record {
      shown = c.drop_id.ensures.after ∙ ap (λ s. after_drop s c.token-item.result.id) c.loop-token.invariant.shown
          ∙ fold_next c.args.tokens.now c.loop-token.token-index c.token-item.result c.loop-token-test.true
          c.token-item.is (λ (s : Seen) (token : Token). after_drop s token.id) (seen c.args.cache.now);
      dropped = c.in_ok-push.ensures.ok
          ∙ behind_next c.args.tokens.now c.loop-token.token-index c.token-item.result c.loop-token-test.true
          c.token-item.is c.args.dropped.now c.loop-token.dropped (leaves_by c.args.why)
          c.loop-token.invariant.dropped;
    }
