-- A set to which a span is added, on the way: the spans before it, the one that grows, and those that are left.
use Rattle.std.proofs.Common.{◌≡◌, ◌≤◌, ◌<◌, ◌+◌, ◌-◌, ℕ, zero, suc, Bool, true, false, ◌||◌, ◌&&◌, nat_le, nat_lt}
use Rattle.std.proofs.Common.{min, max, get_or, List, [], ◌∷◌, ◌++◌, length, take, drop, ap, sym, ◌∙◌, refl, arith}
use Rattle.std.proofs.Common.{subst, append_assoc}
use Rattle.std.specs.List.{AllWithin}
use Rattle.std.specs.List.Sorted.{IsPartitionedBy}
use Rattle.std.proofs.lemmas.List.Sorted.{IsPartitionedBy-ltb}
use Rattle.std.proofs.lemmas.List.{length-drop}
use Rattle.std.proofs.lemmas.List.Folds.{list_any-append}
use Rattle.std.proofs.lemmas.Bool.Decides.{nat_tests}
use Rattle.std.proofs.lemmas.Grind.{common_steps}
use Rattle.base_types.specs.declared.span.Span.{Span}
use Rattle.base_types.specs.Spans.{has_byte, in_spans}
use Rattle.base_types.specs.declared.limits.TheConstants.{FILE_BYTES_MAX}
use Rattle.token_ranges.specs.Positions.{IsApartBetween, IsApart}
use Rattle.token_ranges.proofs.Apart.{widen, join, split, append, before_both, next_of}

-- the first of those that are left ends at a place or behind it
abbrev pub Reaches : ℕ → List Span → Type 0
Reaches place [] = 0 ≤ 0
Reaches place (next ∷ rest) = place ≤ next.to

-- the first of those that are left begins behind a place
abbrev pub Begins : ℕ → List Span → Type 0
Begins place [] = 0 ≤ 0
Begins place (next ∷ rest) = place < next.from

pub record IsJoining (want : ℕ → Bool) (done : List Span) (merged : Span) (rest : List Span) : Type 0 where
  pub filled : merged.from < merged.to
  pub front : IsApartBetween 0 done merged.from
  pub back : IsApart (done ++ rest)
  pub reaches : Reaches merged.from rest
  pub positions : (at : ℕ) → (in_spans done at || (has_byte merged at || in_spans rest at)) ≡ want at

-- two parts become one
or_merges : (o m n r both : Bool) → both ≡ (m || n) → (o || (both || r)) ≡ (o || (m || (n || r)))
or_merges o true n r both e = rw e
or_merges o false n r both e = rw e

-- a part comes last
or_last : (o m r : Bool) → (o || (m || r)) ≡ ((o || r) || m)
or_last true m r = refl
or_last false true true = refl
or_last false true false = refl
or_last false false true = refl
or_last false false false = refl

-- two spans that overlap or touch have the positions of the span around both
around_both : (a b c d at : ℕ) → c ≤ b → a ≤ d → (nat_le (min a c) at && nat_lt at (max b d))
    ≡ ((nat_le a at && nat_lt at b) || (nat_le c at && nat_lt at d))
around_both a b c d at h k = grind (arith, nat_tests)

-- a later one doesn't end before an earlier one
ends_at : (low high : ℕ) (spans : List Span) (i j : ℕ) (d : Span) → IsApartBetween low spans high → i ≤ j → j <
    length spans
    → ((get_or spans i d).to ≤ (get_or spans j d).to) × (low ≤ (get_or spans j d).from)
    × ((get_or spans j d).from < (get_or spans j d).to)
ends_at low high [] i j d h o l = absurd (omega (arith, l))
ends_at low high (next ∷ spans) zero zero d h o l = (omega arith, h.0, h.1)
ends_at low high (next ∷ spans) zero (suc j) d h o l =
    let rest = ends_at (next.to + 1) high spans j j d h.2 (omega arith) (omega (arith, l)) in
    (omega (arith, rest), omega (arith, h.0, h.1, rest), rest.2)
ends_at low high (next ∷ spans) (suc i) zero d h o l = absurd (omega (arith, o))
ends_at low high (next ∷ spans) (suc i) (suc j) d h o l =
    let rest = ends_at (next.to + 1) high spans i j d h.2 (omega (arith, o)) (omega (arith, l)) in
    (rest.0, omega (arith, h.0, h.1, rest), rest.2)

-- those that end before a place stand before the others
pub parts_apart : (place : ℕ) (spans : List Span) → IsApart spans → IsPartitionedBy
    (λ (next : Span). nat_lt next.to place) spans
parts_apart place spans h =
    IsPartitionedBy-ltb (λ (next : Span). next.to) spans place
    (λ i j d o l. (ends_at 0 (FILE_BYTES_MAX + 1) spans i j d h o l).0)

-- those that end before a place
ends_before : (low high place i : ℕ) (spans : List Span) → low ≤ place → i ≤ length spans → IsApartBetween low spans
    high
    → AllWithin (λ (next : Span). nat_lt next.to place ≡ true) spans 0 i → IsApartBetween low (take i spans) place
ends_before low high place zero spans l b h ends = l
ends_before low high place (suc i) [] l b h ends = absurd (omega (arith, b))
ends_before low high place (suc i) (next ∷ spans) l b h ends =
    let e : nat_lt next.to place ≡ true = ends zero next (omega arith) (omega arith) in
    let before : next.to < place = grind (arith, common_steps, e) in (
      h.0,
      h.1,
      ends_before (next.to + 1) high place i spans (omega (arith, before)) (omega (arith, b)) h.2
          (λ k d u v. ends (suc k) d (omega arith) (omega (arith, v))),
    )

reaches_on : (place i : ℕ) (spans : List Span) → i ≤ length spans
    → AllWithin (λ (next : Span). nat_lt next.to place ≡ false) spans i (length spans) → Reaches place (drop i spans)
reaches_on place zero [] b ends = omega arith
reaches_on place zero (next ∷ spans) b ends =
    let e : nat_lt next.to place ≡ false = ends zero next (omega arith) (omega arith) in
    grind (arith, common_steps, e)
reaches_on place (suc i) [] b ends = absurd (omega (arith, b))
reaches_on place (suc i) (next ∷ spans) b ends =
    reaches_on place i spans (omega (arith, b)) (λ k d u v. ends (suc k) d (omega (arith, u)) (omega (arith, v)))

both_parts : (i : ℕ) (spans : List Span) → take i spans ++ drop i spans ≡ spans
both_parts zero spans = refl
both_parts (suc i) [] = refl
both_parts (suc i) (next ∷ spans) = ap (λ l. next ∷ l) (both_parts i spans)

-- at the start
pub starts : (spans : List Span) (span : Span) (i : ℕ) → IsApart spans → span.from < span.to → i ≤ length spans
    → AllWithin (λ (next : Span). nat_lt next.to span.from ≡ true) spans 0 i
    → AllWithin (λ (next : Span). nat_lt next.to span.from ≡ false) spans i (length spans)
    → IsJoining (λ at. in_spans spans at || has_byte span at) (take i spans) span (drop i spans)
starts spans span i apart filled within ends begin =
    record {
      filled = filled;
      front = ends_before 0 (FILE_BYTES_MAX + 1) span.from i spans (omega arith) within apart ends;
      back = subst IsApart (sym (both_parts i spans)) apart;
      reaches = reaches_on span.from i spans within begin;
      positions = λ at.
          or_last (in_spans (take i spans) at) (has_byte span at) (in_spans (drop i spans) at)
          ∙ ap (λ b. b || has_byte span at) (sym (list_any-append (λ one. has_byte one at) (take i spans)
          (drop i spans))
          ∙ ap (λ l. in_spans l at) (both_parts i spans));
    }

-- what begins behind a place reaches it
reaches_behind : (low high place : ℕ) (rest : List Span) → place ≤ low → IsApartBetween low rest high → Reaches place
    rest
reaches_behind low high place [] l h = omega arith
reaches_behind low high place (next ∷ rest) l h = omega (arith, l, h.0, h.1)

-- the next one overlaps or touches the one that grows
pub grows : (want : ℕ → Bool) (done : List Span) (merged next all : Span) (rest : List Span) → next.from ≤ merged.to
    → all.from ≡ min merged.from next.from → all.to ≡ max merged.to next.to → IsJoining want done merged
    (next ∷ rest) → IsJoining want done all rest
grows want done merged next all rest up from to h =
    let p = split 0 (FILE_BYTES_MAX + 1) done next rest h.back in
    let down : merged.from ≤ next.to = h.reaches in
    record {
      filled = omega (arith, from, to, h.filled, p.filled);
      front = rw from (before_both 0 merged.from next.from done h.front p.front);
      back = append 0 next.from (FILE_BYTES_MAX + 1) done rest p.front
          (widen (next.to + 1) next.from (FILE_BYTES_MAX + 1) (FILE_BYTES_MAX + 1) rest (omega (arith, p.filled))
          (omega arith) p.back);
      reaches = reaches_behind (next.to + 1) (FILE_BYTES_MAX + 1) all.from rest (omega (arith, from, down)) p.back;
      positions = λ at.
          or_merges (in_spans done at) (has_byte merged at) (has_byte next at) (in_spans rest at) (has_byte all at)
          (rw (from, to) (around_both merged.from merged.to next.from next.to at up down)) ∙ h.positions at;
    }

pub with_next : (want : ℕ → Bool) (done : List Span) (merged next : Span) (rest after : List Span) → rest ≡ next
    ∷ after → IsJoining want done merged rest → IsJoining want done merged (next ∷ after)
with_next want done merged next rest after e h = subst (λ xs. IsJoining want done merged xs) e h

-- the loop ends at the end of the spans, or at one that begins behind the place
pub begins_behind : (place i : ℕ) (spans : List Span) (next : Span) → i < length spans → next ≡ get_or spans i next
    → place < (get_or spans i next).from → Begins place (drop i spans)
begins_behind place i spans next within e behind =
    subst (λ l. Begins place l) (sym (next_of spans next i within e))
    (subst (λ (one : Span). place < one.from) (sym e) behind)

pub begins_none : (place : ℕ) (rest : List Span) → rest ≡ [] → Begins place rest
begins_none place rest e = subst (λ l. Begins place l) (sym e) (omega arith)

-- what is left begins behind the one that grew
behind : (done : List Span) (merged : Span) (rest : List Span) → merged.to ≤ FILE_BYTES_MAX → Begins merged.to rest
    → IsApart (done ++ rest) → IsApartBetween (merged.to + 1) rest (FILE_BYTES_MAX + 1)
behind done merged [] within begins h = omega (arith, within)
behind done merged (next ∷ rest) within begins h =
    let p = split 0 (FILE_BYTES_MAX + 1) done next rest h in
    (omega (arith, begins), p.filled, p.back)

-- at the end
pub joined_apart : (want : ℕ → Bool) (done : List Span) (merged : Span) (rest : List Span) → merged.to ≤
    FILE_BYTES_MAX → Begins merged.to rest → IsJoining want done merged rest → IsApart (done ++ merged ∷ rest)
joined_apart want done merged rest within begins h =
    join 0 (FILE_BYTES_MAX + 1) done merged rest h.front h.filled (behind done merged rest within begins h.back)

pub joined_positions : (want : ℕ → Bool) (done : List Span) (merged : Span) (rest : List Span) → IsJoining want done
    merged rest → (at : ℕ) → in_spans (done ++ merged ∷ rest) at ≡ want at
joined_positions want done merged rest h at = list_any-append (λ span. has_byte span at) done (merged ∷ rest)
    ∙ h.positions at

all_taken : (n : ℕ) (spans : List Span) → length spans ≤ n → take n spans ≡ spans
all_taken zero [] l = refl
all_taken zero (span ∷ spans) l = absurd (omega (arith, l))
all_taken (suc n) [] l = refl
all_taken (suc n) (span ∷ spans) l = ap (λ rest. span ∷ rest) (all_taken n spans (omega (arith, l)))

-- the three parts, one after the other
pub put_together : (front spans : List Span) (merged : Span) (end : ℕ) →
    (([] ++ front) ++ merged ∷ []) ++ take (length spans - end) (drop end spans) ≡ front ++ merged ∷ drop end spans
put_together front spans merged end =
    append_assoc front (merged ∷ []) (take (length spans - end) (drop end spans))
    ∙ ap (λ rest. front ++ merged ∷ rest)
    (all_taken (length spans - end) (drop end spans) (omega (arith, length-drop end spans)))
