use Rattle.std.proofs.Common.{ap, not, sym, ◌∙◌}
use Rattle.base_types.specs.Spans.{in_spans}
use Rattle.host_leaves.specs.Dirtying.{is_named, updates_byte}
use Rattle.token_types.specs.declared.token.Token.{Token}
use Rattle.host_leaves.proofs.Steps.{cut_no, cut_yes}
use Rattle.host_leaves.proofs.dirtying.cut_staying.Goals.{then-not-names+in_ok-cut_span, else-not-names}
use Rattle.host_leaves.proofs.dirtying.cut_staying.Goals as goal

pub loop-token-preserved : goal.loop-token-preserved
loop-token-preserved c at =
    let keeps = λ (token : Token). not (is_named c.args.leaving.now token) in
    let old = in_spans c.args.cover.now at in
    let now = in_spans c.loop-token.cover at in
    elim c.if-not-names.branch [
      | then-not-names+in_ok-cut_span w ↦
          ap (λ cover. in_spans cover at) w.cover-is
          ∙ cut_yes c.args.held.now c.loop-token.token-index c.token-item.result c.loop-token-test.true
          c.token-item.is (updates_byte at) keeps old now
          (in_spans w.cut_span.new.cover at) (ap not (sym c.names.ensures ∙ w.if-not-names.true))
          (c.loop-token.invariant at) (w.in_ok-cut_span.ensures at)
      | else-not-names w ↦
          ap (λ cover. in_spans cover at) w.cover-is
          ∙ cut_no c.args.held.now c.loop-token.token-index c.token-item.result c.loop-token-test.true c.token-item.is
          (updates_byte at) keeps old now
          (ap not (sym c.names.ensures ∙ w.if-not-names.false)) (c.loop-token.invariant at)
    ]
