use Rattle.std.proofs.Common.{ap, sym, ℕ, ◌&&◌, ◌∙◌, ◌≡◌, false}
use Rattle.std.proofs.lemmas.Result.{IfOk-weaker}
use Rattle.base_types.specs.Spans.{in_spans}
use Rattle.host_dirty.specs.Dirtiness.{spans_of}
use Rattle.host_leaves.specs.Dirtying.{covers_left, is_dirty_left, spans_within}
use Rattle.host_leaves.proofs.Spans.{in_both, none_in}
use Rattle.host_leaves.proofs.dirtying.dirty_left.Goals as goal

pub returns-then-is_empty : goal.returns-then-is_empty
returns-then-is_empty c at =
    let leaving = c.args.leaving.now in
    let none : in_spans (spans_of c.args.tables.now.dirty c.args.fid) at ≡ false =
    ap (λ spans. in_spans spans at) (sym c.spans-dirty.ensures.spans)
    ∙ none_in c.spans-dirty.result.now at (sym c.is_empty.ensures ∙ c.if-is_empty.true) in
    ap (λ spans. in_spans spans at) c.new.ensures
    ∙ ap (λ t. t && covers_left c.args.tables.now c.args.fid leaving leaving at) (sym none)

pub returns : goal.returns
returns c =
    let m = c.args.tables.now in
    let leaving = c.args.leaving.now in
    let dirty = c.spans-dirty.result.now in
    let cover = c.spans.result.now in
    IfOk-weaker c.spans_within.result (λ spans. spans ≡ spans_within dirty cover)
    (λ spans. (at : ℕ) → in_spans spans at ≡ is_dirty_left m c.args.fid leaving at)
    (λ spans e at. ap (λ s. in_spans s at) e ∙ in_both dirty cover at
    ∙ ap (λ t. in_spans dirty at && t)
    (ap (λ s. in_spans s at) c.spans.ensures.value ∙ c.in_ok-cover.ensures at)
    ∙ ap (λ s. in_spans s at && covers_left m c.args.fid leaving leaving at) c.spans-dirty.ensures.spans)
    c.spans_within.ensures
