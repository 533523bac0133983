-- The positions that are in both of two lists of spans.
use Rattle.std.proofs.Common.{Bool, List, [], ap, arith, cond, false, filter, map, max, min, nat_le, nat_lt, refl, sym}
use Rattle.std.proofs.Common.{eqb-true, length, ◌==◌}
use Rattle.std.proofs.Common.{true, ℕ, ◌&&◌, ◌+◌, ◌++◌, ◌<◌, ◌||◌, ◌∙◌, ◌∷◌, ◌≡◌, ◌≤◌}
use Rattle.std.specs.List.{list_any}
use Rattle.std.proofs.lemmas.Bool.{and_from, and_parts, le-leb, leb-true, lt-ltb, ltb-true}
use Rattle.std.proofs.lemmas.List.Folds.{list_any-append}
use Rattle.base_types.specs.Spans.{has_byte, in_spans, overlap}
use Rattle.base_types.specs.declared.span.Span.{Span}
use Rattle.token_ranges.specs.Positions.{IsApart, IsApartBetween}
use Rattle.token_ranges.proofs.Apart.{append, widen}
use Rattle.host_leaves.specs.Dirtying.{common, spans_within, within}

-- two tests are the same where each passes when the other does
pub same_test : (a b : Bool) → (a ≡ true → b ≡ true) → (b ≡ true → a ≡ true) → a ≡ b
same_test true b to from = sym (to refl)
same_test false true to from = from refl
same_test false false to from = refl

pub has_parts : (span : Span) (at : ℕ) → has_byte span at ≡ true → (span.from ≤ at) × (at < span.to)
has_parts span at h =
    let p = and_parts (nat_le span.from at) (nat_lt at span.to) h in
    (leb-true span.from at p.0, ltb-true at span.to p.1)

pub has_from : (span : Span) (at : ℕ) → span.from ≤ at → at < span.to → has_byte span at ≡ true
has_from span at low high =
    and_from (nat_le span.from at) (nat_lt at span.to) (le-leb span.from at low) (lt-ltb at span.to high)

-- the ends of the common part
pub common_from : (a b : Span) → overlap a b ≡ true → (common a b).from ≡ max a.from b.from
common_from a b h =
    let k = ltb-true (max a.from b.from) (min a.to b.to) h in
    let w = a.within in
    omega (arith, k, w)

pub common_to : (a b : Span) → (common a b).to ≡ min a.to b.to
common_to a b = let w = a.within in omega (arith, w)

pub has_common : (a b : Span) (at : ℕ) → overlap a b ≡ true →
    has_byte (common a b) at ≡ (has_byte a at && has_byte b at)
has_common a b at h =
    same_test (has_byte (common a b) at) (has_byte a at && has_byte b at)
    (λ e. let p = has_parts (common a b) at e in
    and_from (has_byte a at) (has_byte b at)
    (has_from a at (omega (arith, p.0, common_from a b h)) (omega (arith, p.1, common_to a b)))
    (has_from b at (omega (arith, p.0, common_from a b h)) (omega (arith, p.1, common_to a b))))
    (λ e. let p = and_parts (has_byte a at) (has_byte b at) e in
    let q = has_parts a at p.0 in
    let r = has_parts b at p.1 in
    has_from (common a b) at (omega (arith, q.0, r.0, common_from a b h)) (omega (arith, q.1, r.1, common_to a b)))

-- spans that don't overlap have no common position
pub none_common : (a b : Span) (at : ℕ) → overlap a b ≡ false → (has_byte a at && has_byte b at) ≡ false
none_common a b at h =
    same_test (has_byte a at && has_byte b at) false
    (λ e. let p = and_parts (has_byte a at) (has_byte b at) e in
    let q = has_parts a at p.0 in
    let r = has_parts b at p.1 in
    sym h ∙ lt-ltb (max a.from b.from) (min a.to b.to) (omega (arith, q.0, q.1, r.0, r.1)))
    (λ e. absurd (cc))

and_or : (a b c : Bool) → ((a && c) || (b && c)) ≡ ((a || b) && c)
and_or true true true = refl
and_or true true false = refl
and_or true false true = refl
and_or true false false = refl
and_or false b c = refl

or_none : (a b : Bool) → a ≡ false → b ≡ (a || b)
or_none a b h = sym (ap (λ t. t || b) h)

pub in_within : (span : Span) (others : List Span) (at : ℕ) →
    in_spans (within span others) at ≡ (in_spans others at && has_byte span at)
in_within span [] at = refl
in_within span (other ∷ others) at = by_test (in_within span others at) (overlap other span) refl
  where
    by_test : in_spans (within span others) at ≡ (in_spans others at && has_byte span at) → (b : Bool) →
        overlap other span ≡ b →
        in_spans (within span (other ∷ others)) at ≡ (in_spans (other ∷ others) at && has_byte span at)
    by_test rest true e =
        ap (λ t. in_spans (map (λ o. common o span) (cond t (other ∷ filter (λ o. overlap o span) others)
        (filter (λ o. overlap o span) others))) at) e
        ∙ ap (λ t. t || in_spans (within span others) at) (has_common other span at e)
        ∙ ap (λ t. (has_byte other at && has_byte span at) || t) rest
        ∙ and_or (has_byte other at) (in_spans others at) (has_byte span at)
    by_test rest false e =
        ap (λ t. in_spans (map (λ o. common o span) (cond t (other ∷ filter (λ o. overlap o span) others)
        (filter (λ o. overlap o span) others))) at) e
        ∙ rest
        ∙ or_none (has_byte other at && has_byte span at) (in_spans others at && has_byte span at)
        (none_common other span at e)
        ∙ and_or (has_byte other at) (in_spans others at) (has_byte span at)

or_and : (a b c : Bool) → ((c && a) || (b && c)) ≡ ((a || b) && c)
or_and true true true = refl
or_and true true false = refl
or_and true false true = refl
or_and true false false = refl
or_and false true true = refl
or_and false true false = refl
or_and false false true = refl
or_and false false false = refl

pub in_both : (spans others : List Span) (at : ℕ) →
    in_spans (spans_within spans others) at ≡ (in_spans spans at && in_spans others at)
in_both [] others at = refl
in_both (span ∷ spans) others at =
    list_any-append (λ s. has_byte s at) (within span others) (spans_within spans others)
    ∙ ap (λ t. t || in_spans (spans_within spans others) at) (in_within span others at)
    ∙ ap (λ t. (in_spans others at && has_byte span at) || t) (in_both spans others at)
    ∙ or_and (has_byte span at) (in_spans spans at) (in_spans others at)

-- they are apart where those of both lists are
within_apart : (span : Span) (low high : ℕ) (others : List Span) → IsApartBetween low others high →
    IsApartBetween (min (max low span.from) (span.to + 1)) (within span others) (span.to + 1)
within_apart span low high [] h = omega arith
within_apart span low high (other ∷ others) h =
    by_test (within_apart span (other.to + 1) high others h.2) (overlap other span) refl
  where
    by_test : IsApartBetween (min (max (other.to + 1) span.from) (span.to + 1)) (within span others) (span.to + 1) →
        (b : Bool) → overlap other span ≡ b →
        IsApartBetween (min (max low span.from) (span.to + 1))
        (map (λ o. common o span) (cond b (other ∷ filter (λ o. overlap o span) others)
        (filter (λ o. overlap o span) others))) (span.to + 1)
    by_test rest true e =
        let a = h.0 in
        let from = common_from other span e in
        let to = common_to other span in
        let k = ltb-true (max other.from span.from) (min other.to span.to) e in (
          omega (arith, a, from),
          omega (arith, from, to, k),
          widen (min (max (other.to + 1) span.from) (span.to + 1)) ((common other span).to + 1) (span.to + 1)
              (span.to + 1) (within span others) (omega (arith, to)) (omega arith) rest,
        )
    by_test rest false e =
        let a = h.0 in
        let b = h.1 in
        widen (min (max (other.to + 1) span.from) (span.to + 1)) (min (max low span.from) (span.to + 1))
        (span.to + 1) (span.to + 1) (within span others) (omega (arith, a, b)) (omega arith) rest

pub both_apart : (low high : ℕ) (spans others : List Span) → IsApartBetween low spans high → IsApart others →
    IsApartBetween low (spans_within spans others) high
both_apart low high [] others h k = h
both_apart low high (span ∷ spans) others h k =
    let a = h.0 in
    let b = h.1 in
    append low (span.to + 1) high (within span others) (spans_within spans others)
    (widen (min (max 0 span.from) (span.to + 1)) low (span.to + 1) (span.to + 1) (within span others)
    (omega (arith, a, b)) (omega arith) (within_apart span 0 65537 others k))
    (both_apart (span.to + 1) high spans others h.2 k)

-- no position is in no span
pub none_in : (spans : List Span) (at : ℕ) → (length spans == 0) ≡ true → in_spans spans at ≡ false
none_in [] at e = refl
none_in (span ∷ spans) at e = let k = eqb-true (length (span ∷ spans)) 0 e in absurd (omega (arith, k))
