-- A set from which a span is cut, on the way: the spans that are done, and those that are left.
use Rattle.std.proofs.Common.{◌≡◌, ◌≤◌, ◌<◌, ◌+◌, ℕ, Bool, true, false, ◌||◌, ◌&&◌, not, nat_le, nat_lt, min, max}
use Rattle.std.proofs.Common.{List, ◌∷◌, ◌++◌, ◌∙◌, refl, arith}
use Rattle.std.proofs.lemmas.Bool.Decides.{nat_tests}
use Rattle.base_types.specs.declared.span.Span.{Span}
use Rattle.base_types.specs.Spans.{has_byte, in_spans}
use Rattle.base_types.specs.declared.limits.TheConstants.{FILE_BYTES_MAX}
use Rattle.token_ranges.specs.Positions.{IsApart, StaysApart, AddsBetween}
use Rattle.token_ranges.proofs.Apart.{widen, split, append}

pub record IsCutting (want : ℕ → Bool) (span : Span) (done rest : List Span) : Type 0 where
  pub apart : IsApart (done ++ rest)
  pub positions : (at : ℕ) → (in_spans done at || (in_spans rest at && not (has_byte span at))) ≡ want at

-- what is outside a span lies before it or behind it
outside : (a b c d at : ℕ) → c ≤ d → ((nat_le a at && nat_lt at (min b c)) || (nat_le (max a d) at && nat_lt at b))
    ≡ ((nat_le a at && nat_lt at b) && not (nat_le c at && nat_lt at d))
outside a b c d at h = grind (arith, nat_tests)

both_cut : (n k s : Bool) → ((n && not s) || (k && not s)) ≡ ((n || k) && not s)
both_cut true true true = refl
both_cut true true false = refl
both_cut true false true = refl
both_cut true false false = refl
both_cut false k s = refl

cut_next : (o l r n k s : Bool) → (l || r) ≡ (n && not s) → (((o || l) || r) || (k && not s))
    ≡ (o || ((n || k) && not s))
cut_next true l r n k s e = refl
cut_next false l r n k s e = rw e (both_cut n k s)

-- both parts of the next span that lie outside are done
pub cuts_next : (want : ℕ → Bool) (span : Span) (done first both : List Span) (next : Span) (rest : List Span)
    → span.from < span.to → StaysApart done next.from (min next.to span.from) first → AddsBetween done next.from
    (min next.to span.from) first → StaysApart first (max next.from span.to) next.to both → AddsBetween first
    (max next.from span.to) next.to both → IsCutting want span done (next ∷ rest) → IsCutting want span both rest
cuts_next want span done first both next rest filled stays adds stays' adds' h =
    let p = split 0 (FILE_BYTES_MAX + 1) done next rest h.apart in
    let to_end = stays 0 (next.to + 1) (omega arith) p.front (widen 0 0 next.from (next.to + 1) done (omega arith)
    (omega (arith, p.filled)) p.front) in
    let to_rest = stays 0 (max next.from span.to) (omega arith) p.front
    (widen 0 0 next.from (max next.from span.to) done (omega arith) (omega arith) p.front) in
    record {
      apart = append 0 (next.to + 1) (FILE_BYTES_MAX + 1) both rest
          (stays' 0 (next.to + 1) (omega arith) to_rest to_end) p.back;
      positions = λ at.
          rw (adds' at, adds at)
          (cut_next (in_spans done at) (nat_le next.from at && nat_lt at (min next.to span.from))
          (nat_le (max next.from span.to) at && nat_lt at next.to) (has_byte next at) (in_spans rest at)
          (has_byte span at)
          (outside next.from next.to span.from span.to at (omega arith)) ∙ h.positions at);
    }
