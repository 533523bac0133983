use Rattle.std.proofs.Common.{List, ap, map, [], ◌++◌, ◌∙◌, ◌∷◌}
use Rattle.base_types.specs.declared.span.Span.{Span}
use Rattle.token_types.specs.declared.token.Kind.TheVariants.{Bytes}
use Rattle.token_types.specs.declared.token.Need.{Need}
use Rattle.host_leaves.proofs.Steps.{behind_next, take_whole}
use Rattle.host_asks.proofs.asking.push_clean.Goals as goal

pub loop-left-preserved : goal.loop-left-preserved
loop-left-preserved c =
    let need : Span → Need = (λ (left : Span). record { fid = c.args.fid; kind = Bytes c.args.update left }) in
    c.in_ok-push.ensures.ok ∙ ap (λ n. c.loop-left.needs ++ n ∷ []) c.bytes_need.ensures
    ∙ behind_next c.spans-left-items.result.now c.loop-left.left-index c.left-item.result c.loop-left-test.true
    c.left-item.is c.args.needs.now c.loop-left.needs
    need c.loop-left.invariant

pub returns : goal.returns
returns c =
    let need : Span → Need = (λ (left : Span). record { fid = c.args.fid; kind = Bytes c.args.update left }) in
    record {
      added = c.in_ok-clean.clean;
      needs = c.loop-left.invariant
          ∙ ap (λ (spans : List Span). c.args.needs.now ++ map need spans)
          (take_whole c.spans-left-items.result.now c.loop-left.left-index c.loop-left-test.false
          ∙ c.spans-left-items.ensures.value);
      bytes = c.in_ok-clean.ensures;
      apart = c.spans-left-items.ensures.apart;
    }
