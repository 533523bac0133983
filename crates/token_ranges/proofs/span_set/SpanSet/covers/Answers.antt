use Rattle.std.proofs.Common.{◌≡◌, ◌<◌, ◌+◌, List, sym, ◌∙◌, ap, subst, arith}
use Rattle.std.proofs.lemmas.Bool.{false≢true}
use Rattle.std.specs.List.{list_any}
use Rattle.base_types.specs.declared.limits.TheConstants.{FILE_BYTES_MAX}
use Rattle.base_types.specs.declared.span.Span.{Span}
use Rattle.token_ranges.specs.Positions.{IsApart}
use Rattle.token_ranges.proofs.Covering.{is_around, one_has_all, all_in_one}
use Rattle.token_ranges.proofs.span_set.SpanSet.covers.Goals as goal

pub returns-else-is_empty : goal.returns-else-is_empty
returns-else-is_empty c =
    let spans : List Span = c.args.self.now in
    let differ : c.args.span.from ≡ c.args.span.to → ⊥ = λ same. false≢true (c.if-is_empty.ensures.1 same) in
    let filled : c.args.span.from < c.args.span.to = omega (arith, c.args.span.ordered) in
    let e : c.has_around.result ≡ list_any (is_around c.args.span) spans = c.has_around.ensures ∙ ap
    (list_any (is_around c.args.span)) (c.as_slice.ensures ∙ c.self.view_is) in
    let apart : IsApart spans = subst IsApart c.self.view_is c.self.invariant in (
      λ h. one_has_all c.args.span spans (sym e ∙ h),
      λ all. e ∙ all_in_one 0 (FILE_BYTES_MAX + 1) c.args.span spans
          filled apart all,
    )
