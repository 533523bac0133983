use Rattle.std.proofs.Common.{ap, false, sym, ◌∙◌, ◌&&◌, not}
use Rattle.std.specs.Option.{option_map_or}
use Rattle.std.proofs.lemmas.Result.{on_ok_weaker}
use Rattle.base_types.specs.Spans.{has_byte, in_spans}
use Rattle.token_ranges.specs.Positions.{Leaves}
use Rattle.host_leaves.proofs.Steps.{and_none}
use Rattle.host_leaves.proofs.dirtying.cut_span.Goals as goal

pub returns-in-Some : goal.returns-in-Some
unfolding Leaves
returns-in-Some c =
    on_ok_weaker c.cut.result
    (λ (h : Leaves c.args.cover.now c.in-Some.span c.cut.new.self) at. h at
    ∙ ap (λ o. in_spans c.args.cover.now at && not (option_map_or (λ span. has_byte span at) o false))
    (sym c.in-Some.is ∙ c.update_span.ensures)) c.cut.ensures.ok

pub returns-in-None : goal.returns-in-None
returns-in-None c at =
    sym (and_none (in_spans c.args.cover.now at))
    ∙ ap (λ o. in_spans c.args.cover.now at && not (option_map_or (λ span. has_byte span at) o false))
    (sym c.in-None.is ∙ c.update_span.ensures)
