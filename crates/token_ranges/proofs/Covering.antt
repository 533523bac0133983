-- A set has all positions of a span exactly where one of its spans has them.
use Rattle.std.proofs.Common.{◌≡◌, ◌≤◌, ◌<◌, ◌+◌, ℕ, Bool, true, false, ◌&&◌, nat_le, nat_lt, List, [], ◌∷◌, inl, inr}
use Rattle.std.proofs.Common.{sym, ◌∙◌, refl, arith}
use Rattle.std.specs.List.{list_any}
use Rattle.std.proofs.lemmas.Bool.{cases_lt, and_parts, and_from, or_cases, or_left, or_right, or_from, and_left}
use Rattle.std.proofs.lemmas.Bool.{and_right, ltb-true, leb-true, lt-ltb, le-leb, lt-leb, le-ltb, false≢true}
use Rattle.base_types.specs.declared.span.Span.{Span}
use Rattle.base_types.specs.Spans.{has_byte, in_spans}
use Rattle.token_ranges.specs.Positions.{IsApartBetween, HasAll}
use Rattle.token_ranges.proofs.Apart.{none_below}

-- whether a span has all positions of another
abbrev pub is_around : Span → Span → Bool
is_around span around = nat_le around.from span.from && nat_le span.to around.to

-- a span that is around has each position
around_has : (span around : Span) (at : ℕ) → is_around span around ≡ true → has_byte span at ≡ true → has_byte around
    at ≡ true
around_has span around at h in' =
    let ends = and_parts (nat_le around.from span.from) (nat_le span.to around.to) h in
    let place = and_parts (nat_le span.from at) (nat_lt at span.to) in' in
    let from : around.from ≤ at = omega (arith, leb-true around.from span.from ends.0, leb-true span.from at place.0) in
    let to : at < around.to = omega (arith, leb-true span.to around.to ends.1, ltb-true at span.to place.1) in
    and_from (nat_le around.from at) (nat_lt at around.to) (le-leb around.from at from) (lt-ltb at around.to to)

pub one_has_all : (span : Span) (spans : List Span) → list_any (is_around span) spans ≡ true → HasAll spans span
unfolding HasAll
one_has_all span [] h at in' = absurd (false≢true h)
one_has_all span (first ∷ spans) h at in' =
    elim (or_cases (is_around span first) (list_any (is_around span) spans) h) [
      | inl here ↦ or_left (has_byte first at) (in_spans spans at) (around_has span first at here in')
      | inr later ↦ or_right (has_byte first at) (in_spans spans at) (one_has_all span spans later at in')
    ]

-- a position of the span that isn't in the set
no_position : (span : Span) (spans : List Span) (at : ℕ) → span.from ≤ at → at < span.to → in_spans spans at ≡ false
    → HasAll spans span → ⊥
unfolding HasAll
no_position span spans at from to none all =
    false≢true (sym none ∙ all at (and_from (nat_le span.from at) (nat_lt at span.to) (le-leb span.from at from)
    (lt-ltb at span.to to)))

-- a place outside the first span and before the others
outside_both : (high at : ℕ) (first : Span) (spans : List Span) → has_byte first at ≡ false → at < first.to + 1
    → IsApartBetween (first.to + 1) spans high → in_spans (first ∷ spans) at ≡ false
outside_both high at first spans out before apart = or_from (has_byte first at) (in_spans spans at) out
    (none_below (first.to + 1) high at spans apart before)

-- the others have what the first lacks
others_have : (span first : Span) (spans : List Span) → first.to ≤ span.from → HasAll (first ∷ spans) span → HasAll
    spans span
unfolding HasAll
others_have span first spans before all at in' =
    elim (or_cases (has_byte first at) (in_spans spans at) (all at in')) [
      | inl here ↦ absurd (omega (
        arith,
        ltb-true at first.to
            (and_parts (nat_le first.from at) (nat_lt at first.to) here).1,
        leb-true span.from at
            (and_parts (nat_le span.from at) (nat_lt at span.to) in').0,
      ))
      | inr later ↦ later
    ]

pub all_in_one : (low high : ℕ) (span : Span) (spans : List Span) → span.from < span.to → IsApartBetween low spans
    high → HasAll spans span → list_any (is_around span) spans ≡ true
all_in_one low high span [] filled apart all = absurd (no_position span [] span.from (omega arith) filled refl all)
all_in_one low high span (first ∷ spans) filled apart all =
    elim (cases_lt span.from first.from) [
      | inl before ↦ absurd (no_position span (first ∷ spans) span.from (omega arith) filled
          (outside_both high span.from first spans (and_left (nat_le first.from span.from)
          (nat_lt span.from first.to) (lt-leb first.from span.from before)) (omega (arith, apart.1)) apart.2) all)
      | inr from ↦ elim (cases_lt span.from first.to) [
        | inr behind ↦ or_right (is_around span first) (list_any (is_around span) spans)
            (all_in_one (first.to + 1) high span spans filled apart.2 (others_have span first spans behind all))
        | inl inside ↦ elim (cases_lt first.to span.to) [
          | inl beyond ↦ absurd (no_position span (first ∷ spans) first.to (omega arith) beyond
              (outside_both high first.to first spans (and_right (nat_le first.from first.to)
              (nat_lt first.to first.to) (le-ltb first.to first.to (omega arith))) (omega arith) apart.2) all)
          | inr within ↦ or_left (is_around span first) (list_any (is_around span) spans)
              (and_from (nat_le first.from span.from) (nat_le span.to first.to) (le-leb first.from span.from from)
              (le-leb span.to first.to within))
        ]
      ]
    ]
