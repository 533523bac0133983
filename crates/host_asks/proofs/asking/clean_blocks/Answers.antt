use Rattle.std.proofs.Common.{List, ap, not, sym, ◌&&◌, ◌||◌, ◌∙◌}
use Rattle.std.specs.List.{list_any}
use Rattle.base_types.specs.Spans.{has_byte, in_spans}
use Rattle.base_types.specs.declared.span.Span.{Span}
use Rattle.host_asks.specs.Fetching.{is_near}
use Rattle.token_ranges.specs.Positions.{Joins, Leaves}
use Rattle.host_asks.proofs.Blocks.{cut_block}
use Rattle.host_leaves.proofs.Steps.{and_none, take_whole}
use Rattle.host_asks.proofs.asking.clean_blocks.Goals as goal

pub loop-other-init : goal.loop-other-init
unfolding Joins
loop-other-init c at =
    let h : Joins c.new-clean.result c.args.span c.add.new.self = c.in_ok-add.ensures.ok in
    h at ∙ ap (λ set. in_spans set at || has_byte c.args.span at) c.new-clean.ensures
    ∙ sym (and_none (has_byte c.args.span at))

pub loop-other-preserved : goal.loop-other-preserved
unfolding Leaves
loop-other-preserved c at =
    let h : Leaves c.loop-other.clean c.blocks_around.result c.cut.new.self = c.in_ok-cut.ensures.ok in
    cut_block c.spans-other-items.result.now c.loop-other.other-index c.other-item.result c.loop-other-test.true
    c.other-item.is c.spans-other-items.ensures.apart at (has_byte c.args.span at)
    (in_spans c.loop-other.clean at) (in_spans c.cut.new.self at) c.blocks_around.result c.blocks_around.ensures
    (c.loop-other.invariant at) (h at)

pub returns : goal.returns
returns c at =
    c.loop-other.invariant at
    ∙ ap (λ (spans : List Span). has_byte c.args.span at && not (list_any (is_near at) spans))
    (take_whole c.spans-other-items.result.now c.loop-other.other-index c.loop-other-test.false
    ∙ c.spans-other-items.ensures.spans)
