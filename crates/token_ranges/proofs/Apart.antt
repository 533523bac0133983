-- Spans that are apart.
use Rattle.std.proofs.Common.{◌≡◌, ◌≤◌, ◌<◌, ◌+◌, min, ℕ, false, nat_le, nat_lt, List, [], ◌∷◌, ◌++◌, drop, drop-cons}
use Rattle.std.proofs.Common.{length, get_or, add-one, zero, suc, sym, ◌∙◌, ap, refl, arith}
use Rattle.std.proofs.lemmas.Bool.{or_from, and_left, lt-leb}
use Rattle.base_types.specs.declared.span.Span.{Span}
use Rattle.base_types.specs.Spans.{has_byte, in_spans}
use Rattle.token_ranges.specs.Positions.{IsApartBetween}

-- the limits may be wider
pub widen : (low low' high high' : ℕ) (spans : List Span) → low' ≤ low → high ≤ high' → IsApartBetween low spans high
    → IsApartBetween low' spans high'
widen low low' high high' [] l h apart = omega arith
widen low low' high high' (span ∷ spans) l h apart =
    (omega (arith, apart.0), apart.1, widen (span.to + 1) (span.to + 1) high high' spans (omega arith) h apart.2)

-- spans before, a span, and spans behind it
pub join : (low high : ℕ) (before : List Span) (span : Span) (after : List Span) → IsApartBetween low before
    span.from → span.from < span.to → IsApartBetween (span.to + 1) after high → IsApartBetween low
    (before ++ span ∷ after) high
join low high [] span after b f a = (b, f, a)
join low high (first ∷ before) span after b f a = (b.0, b.1, join (first.to + 1) high before span after b.2 f a)

-- the same, taken apart
pub record Parts (low high : ℕ) (before : List Span) (span : Span) (after : List Span) : Type 0 where
  pub front : IsApartBetween low before span.from
  pub filled : span.from < span.to
  pub back : IsApartBetween (span.to + 1) after high

pub split : (low high : ℕ) (before : List Span) (span : Span) (after : List Span) → IsApartBetween low
    (before ++ span ∷ after) high → Parts low high before span after
split low high [] span after h = record { front = h.0; filled = h.1; back = h.2 }
split low high (first ∷ before) span after h =
    let p = split (first.to + 1) high before span after h.2 in
    record { front = (h.0, h.1, p.front); filled = p.filled; back = p.back }

-- there is no position below the lower limit
pub none_below : (low high at : ℕ) (spans : List Span) → IsApartBetween low spans high → at < low → in_spans spans at
    ≡ false
none_below low high at [] h b = refl
none_below low high at (span ∷ spans) h b =
    or_from (has_byte span at) (in_spans spans at)
    (and_left (nat_le span.from at) (nat_lt at span.to) (lt-leb span.from at (omega (arith, h.0))))
    (none_below (span.to + 1) high at spans h.2 (omega (arith, h.0, h.1)))

-- spans before, and spans behind a place
pub append : (low middle high : ℕ) (before after : List Span) → IsApartBetween low before middle → IsApartBetween
    middle after high → IsApartBetween low (before ++ after) high
append low middle high [] after b a = widen middle low high high after b (omega arith) a
append low middle high (first ∷ before) after b a = (b.0, b.1, append (first.to + 1) middle high before after b.2 a)

-- spans that end before each of two places end before the smaller one
pub before_both : (low a b : ℕ) (spans : List Span) → IsApartBetween low spans a → IsApartBetween low spans b
    → IsApartBetween low spans (min a b)
before_both low a b [] h k = omega arith
before_both low a b (span ∷ spans) h k = (h.0, h.1, before_both (span.to + 1) a b spans h.2 k.2)

-- a span behind those before, and nothing else
pub add_last : (low high : ℕ) (spans : List Span) (span : Span) → span.from < span.to → span.to < high
    → IsApartBetween low spans span.from → IsApartBetween low (spans ++ span ∷ []) high
add_last low high spans span filled below apart = join low high spans span [] apart filled (omega arith)

-- at a place where there is one it is the same by any default
pub same_at : (spans : List Span) (i : ℕ) (d e : Span) → i < length spans → get_or spans i d ≡ get_or spans i e
same_at [] i d e l = absurd (omega (arith, l))
same_at (span ∷ spans) zero d e l = refl
same_at (span ∷ spans) (suc i) d e l = same_at spans i d e (omega (arith, l))

-- the next span of those that are left
pub next_of : (spans : List Span) (next : Span) (i : ℕ) → i < length spans → next ≡ get_or spans i next → drop i
    spans ≡ next ∷ drop (i + 1) spans
next_of spans next i within e = rw add-one (drop-cons spans i next within ∙ ap (λ span. span ∷ drop (suc i) spans)
    (sym e))
