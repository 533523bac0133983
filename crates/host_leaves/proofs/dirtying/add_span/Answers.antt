use Rattle.std.proofs.Common.{ap, false, sym, ◌∙◌, ◌||◌}
use Rattle.std.specs.Option.{option_map_or}
use Rattle.std.proofs.lemmas.Result.{on_ok_weaker}
use Rattle.base_types.specs.Spans.{has_byte, in_spans}
use Rattle.token_ranges.specs.Positions.{Joins}
use Rattle.host_leaves.proofs.Steps.{or_none}
use Rattle.host_leaves.proofs.dirtying.add_span.Goals as goal

pub returns-in-Some : goal.returns-in-Some
unfolding Joins
returns-in-Some c =
    on_ok_weaker c.add.result
    (λ (h : Joins c.args.cover.now c.in-Some.span c.add.new.self) at. h at
    ∙ ap (λ o. in_spans c.args.cover.now at || option_map_or (λ span. has_byte span at) o false)
    (sym c.in-Some.is ∙ c.update_span.ensures)) c.add.ensures.ok

pub returns-in-None : goal.returns-in-None
returns-in-None c at =
    sym (or_none (in_spans c.args.cover.now at))
    ∙ ap (λ o. in_spans c.args.cover.now at || option_map_or (λ span. has_byte span at) o false)
    (sym c.in-None.is ∙ c.update_span.ensures)
