-- A span is determined by its ends.
use Rattle.std.proofs.Common.{◌≡◌, ℕ, ◌≤◌, min, arith, ap, sym, ◌∙◌, subst}
use Rattle.std.specs.Coded.{le_prop}
use Rattle.base_types.specs.declared.span.Span.{Span}
use Rattle.message_parts.specs.Tokens.{span_between}

abbrev made : (a b : ℕ) → a ≤ b → b ≤ 65536 → Span
made a b h k = record { from = a; to = b; ordered = h; within = k }

same_ends : (a b : ℕ) (h h' : a ≤ b) (k k' : b ≤ 65536) → made a b h k ≡ made a b h' k'
same_ends a b h h' k k' = ap (λ (v : a ≤ b). made a b v k) (le_prop h h') ∙ ap (λ (v : b ≤ 65536). made a b h' v) (le_prop k k')

pub span_is : (s : Span) → span_between s.from s.to ≡ s
span_is s =
    let o = s.ordered in
    let w = s.within in
    let e : min s.to 65536 ≡ s.to = omega arith in
    let f : min s.from (min s.to 65536) ≡ s.from = omega arith in
    let P : ℕ → ℕ → Type 0 = λ a b. (h : a ≤ b) (k : b ≤ 65536) → made a b h k ≡ s in
    let base : P s.from s.to = λ h k. same_ends s.from s.to h s.ordered k s.within in
    let one : P s.from (min s.to 65536) = subst (λ b. P s.from b) (sym e) base in
    let two : P (min s.from (min s.to 65536)) (min s.to 65536) = subst (λ a. P a (min s.to 65536)) (sym f) one in
    two (span_between s.from s.to).ordered (span_between s.from s.to).within
