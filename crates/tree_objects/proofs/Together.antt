-- Spans in which bytes stand together.
use Rattle.std.proofs.Common.{◌≡◌, ◌≢◌, ℕ, suc, ◌+◌, ◌≤◌, ◌==◌, nat_le, nat_lt, min, Bool, true, false, ◌&&◌, ◌||◌, cond, List, [], ◌∷◌, Option, Some, None, is_some, refl, sym, ap, ◌∙◌, subst, arith, inl, inr}
use Rattle.std.specs.List.{list_all}
use Rattle.std.proofs.lemmas.Grind.{common_steps}
use Rattle.std.proofs.lemmas.Bool.Decides.{leb_tells, eqb_tells}
use Rattle.base_types.specs.declared.limits.TheConstants.{FILE_BYTES_MAX}
use Rattle.base_types.specs.Spans.{in_spans}
use Rattle.base_types.specs.declared.ids.HostId.{HostId}
use Rattle.tree_objects.specs.declared.content.Unsaved.{Unsaved}
use Rattle.tree_objects.specs.declared.content.Content.TheVariants.{Dir, File}
use Rattle.tree_objects.specs.Files.{unsaved_at}
use Rattle.tree_objects.specs.Spans.{span_between}
use Rattle.tree_objects.specs.Losses.{spans_on, spans_of, own_bytes}
use Rattle.tree_objects.specs.Positions.{positions_rise}
use Rattle.tree_objects.specs.Laws.{is_own, SpansAreExact, SpansAreMaximal, are_apart}
use Rattle.tree_objects.proofs.Observed.{and_left, and_right, passing, find_rising}
use Rattle.tree_objects.proofs.Rising.{and_both, all_filter, rise_filter}
use Rattle.tree_objects.proofs.StaysSound.{sound_rise, sound_places}

-- between two positions
abbrev inside : ℕ → ℕ → ℕ → Bool
inside from to at = nat_le from at && nat_lt at to

-- a span within the limit of a file
span_inside : (from to at : ℕ) → from ≤ to → to ≤ FILE_BYTES_MAX → (nat_le (span_between from to).from at && nat_lt at (span_between from to).to) ≡ inside from to at
span_inside from to at h k =
    let t : min to FILE_BYTES_MAX ≡ to = omega (arith, k) in let f : min from to ≡ from = omega (arith, h) in
    rw (t, f) refl

-- one position more
inside_more : (from to at : ℕ) → at ≢ to → inside from (to + 1) at ≡ inside from to at
inside_more from to at h =
    elim (leb_tells (suc at) to) as (λ _. inside from (to + 1) at ≡ inside from to at) [
      | inl (e, k) ↦ let l : nat_lt at to ≡ true = grind (arith, common_steps, k) in let m : nat_lt at (to + 1) ≡ true = grind (arith, common_steps, k) in rw (l, m) refl
      | inr (e, k) ↦ let l : nat_lt at to ≡ false = grind (arith, common_steps, k) in let n : to + 1 ≤ at = omega (arith, k, h) in let m : nat_lt at (to + 1) ≡ false = grind (arith, common_steps, n) in rw (l, m) refl
    ]

-- one position
inside_one : (b at : ℕ) → inside b (b + 1) at ≡ (b == at)
inside_one b at =
    elim (eqb_tells b at) as (λ _. inside b (b + 1) at ≡ (b == at)) [
      | inl (e, k) ↦ let l : nat_le b at ≡ true = grind (arith, common_steps, k) in let m : nat_lt at (b + 1) ≡ true = grind (arith, common_steps, k) in rw (e, l, m) refl
      | inr (e, k) ↦ elim (leb_tells b at) as (λ _. inside b (b + 1) at ≡ (b == at)) [
        | inl (f, n) ↦ let o : b + 1 ≤ at = omega (arith, k, n) in let m : nat_lt at (b + 1) ≡ false = grind (arith, common_steps, o) in rw (e, f, m) refl
        | inr (f, n) ↦ rw (e, f) refl
      ]
    ]

or_assoc : (a b c : Bool) → ((a || b) || c) ≡ (a || (b || c))
or_assoc true b c = refl
or_assoc false b c = refl

or_false : (a : Bool) → (a || false) ≡ a
or_false true = refl
or_false false = refl

-- found, or found behind
found_some : (b : Bool) (x : Unsaved) (o : Option Unsaved) → is_some (cond b (Some x) o) ≡ (b || is_some o)
found_some true x o = refl
found_some false x o = refl

-- one more byte at the end of a span
joined : (from to at : ℕ) (rest : Bool) → from ≤ to → (inside from (to + 1) at || rest) ≡ (inside from to at || ((to == at) || rest))
joined from to at rest h =
    elim (eqb_tells to at) as (λ _. (inside from (to + 1) at || rest) ≡ (inside from to at || ((to == at) || rest))) [
      | inl (e, k) ↦
          let l : nat_le from at ≡ true = grind (arith, common_steps, h, k) in let m : nat_lt at (to + 1) ≡ true = grind (arith, common_steps, k) in
          let n : nat_lt at to ≡ false = grind (arith, common_steps, k) in rw (e, l, m, n) refl
      | inr (e, k) ↦ let other : at ≢ to = λ s. k (sym s) in rw e (ap (λ b. b || rest) (inside_more from to at other))
    ]

spans_exact : (from to at : ℕ) (bytes : List Unsaved) → from ≤ to → to ≤ FILE_BYTES_MAX → positions_rise bytes ≡ true → list_all (λ b. nat_le to b.at) bytes ≡ true → list_all (λ b. nat_lt b.at FILE_BYTES_MAX) bytes ≡ true →
    in_spans (spans_on from to bytes) at ≡ (inside from to at || is_some (unsaved_at bytes at))
spans_exact from to at [] h k r l m = ap (λ b. b || false) (span_inside from to at h k)
spans_exact from to at (x ∷ xs) h k r l m =
    let next : x.at + 1 ≤ FILE_BYTES_MAX = let w : nat_lt x.at FILE_BYTES_MAX ≡ true = and_left _ _ m in grind (arith, common_steps, w) in
    let above : list_all (λ b. nat_le (x.at + 1) b.at) xs ≡ true = let e : x.at + 1 ≡ suc x.at = omega arith in rw e (and_left _ _ r) in
    elim (eqb_tells x.at to) as (λ _. in_spans (spans_on from to (x ∷ xs)) at ≡ (inside from to at || is_some (unsaved_at (x ∷ xs) at))) [
      | inl (e, same) ↦
          let rest = spans_exact from (to + 1) at xs (omega (arith, h)) (omega (arith, next, same)) (and_right _ _ r) (subst (λ p. list_all (λ b. nat_le (p + 1) b.at) xs ≡ true) same above) (and_right _ _ m) in
          rw (e, found_some) (rest ∙ joined from to at (is_some (unsaved_at xs at)) h ∙ ap (λ p. inside from to at || ((p == at) || is_some (unsaved_at xs at))) (sym same))
      | inr (e, other) ↦
          let rest = spans_exact x.at (x.at + 1) at xs (omega arith) next (and_right _ _ r) above (and_right _ _ m) in
          rw (e, found_some) (ap (λ b. b || in_spans (spans_on x.at (x.at + 1) xs) at) (span_inside from to at h k)
          ∙ ap (λ b. inside from to at || b) (rest ∙ ap (λ b. b || is_some (unsaved_at xs at)) (inside_one x.at at)))
    ]

-- what is found by position among a host's bytes
own_found : (host : HostId) (o : Option Unsaved) → is_some (passing (λ byte. byte.writer.0 == host.0) o) ≡ is_own host o
own_found host None = refl
own_found host (Some byte) = elim (byte.writer.0 == host.0) as (λ t. is_some (cond t (Some byte) None) ≡ t) [ true ↦ refl | false ↦ refl ]

exact_of : (bytes : List Unsaved) (at : ℕ) → positions_rise bytes ≡ true → list_all (λ b. nat_lt b.at FILE_BYTES_MAX) bytes ≡ true → in_spans (spans_of bytes) at ≡ is_some (unsaved_at bytes at)
exact_of [] at r m = refl
exact_of (x ∷ xs) at r m =
    let next : x.at + 1 ≤ FILE_BYTES_MAX = let w : nat_lt x.at FILE_BYTES_MAX ≡ true = and_left _ _ m in grind (arith, common_steps, w) in
    let above : list_all (λ b. nat_le (x.at + 1) b.at) xs ≡ true = let e : x.at + 1 ≡ suc x.at = omega arith in rw e (and_left _ _ r) in
    rw found_some (spans_exact x.at (x.at + 1) at xs (omega arith) next (and_right _ _ r) above (and_right _ _ m) ∙ ap (λ b. b || is_some (unsaved_at xs at)) (inside_one x.at at))

pub spans_are_exact : SpansAreExact
spans_are_exact host (Dir entries lists) at s = refl
spans_are_exact host (File list kept unsaved len) at s =
    let r = sound_rise list kept unsaved len s in
    exact_of (own_bytes host unsaved) at (rise_filter _ unsaved r) (all_filter (λ byte. nat_lt byte.at FILE_BYTES_MAX) _ unsaved (sound_places list kept unsaved len s))
    ∙ ap is_some (find_rising (λ byte. byte.writer.0 == host.0) at unsaved r) ∙ own_found host (unsaved_at unsaved at)

-- where spans begin
begin_from : (m from to : ℕ) (bytes : List Unsaved) → m ≤ from → from ≤ to → to ≤ FILE_BYTES_MAX → positions_rise bytes ≡ true → list_all (λ b. nat_le to b.at) bytes ≡ true → list_all (λ b. nat_lt b.at FILE_BYTES_MAX) bytes ≡ true →
    list_all (λ span. nat_le m span.from) (spans_on from to bytes) ≡ true
begin_from m from to [] g h k r l n =
    let t : min to FILE_BYTES_MAX ≡ to = omega (arith, k) in let f : min from to ≡ from = omega (arith, h) in
    let w : nat_le m from ≡ true = grind (arith, common_steps, g) in rw (t, f, w) refl
begin_from m from to (x ∷ xs) g h k r l n =
    let next : x.at + 1 ≤ FILE_BYTES_MAX = let w : nat_lt x.at FILE_BYTES_MAX ≡ true = and_left _ _ n in grind (arith, common_steps, w) in
    let behind : to ≤ x.at = let w : nat_le to x.at ≡ true = and_left _ _ l in grind (arith, common_steps, w) in
    let above : list_all (λ b. nat_le (x.at + 1) b.at) xs ≡ true = let e : x.at + 1 ≡ suc x.at = omega arith in rw e (and_left _ _ r) in
    elim (eqb_tells x.at to) as (λ _. list_all (λ span. nat_le m span.from) (spans_on from to (x ∷ xs)) ≡ true) [
      | inl (e, same) ↦ rw e (begin_from m from (to + 1) xs g (omega (arith, h)) (omega (arith, next, same)) (and_right _ _ r) (subst (λ p. list_all (λ b. nat_le (p + 1) b.at) xs ≡ true) same above) (and_right _ _ n))
      | inr (e, other) ↦
          let t : min to FILE_BYTES_MAX ≡ to = omega (arith, k) in let f : min from to ≡ from = omega (arith, h) in
          let w : nat_le m from ≡ true = grind (arith, common_steps, g) in
          let first : nat_le m (span_between from to).from ≡ true = rw (t, f) w in
          let more : x.at ≤ x.at + 1 = omega arith in
          let later : m ≤ x.at = omega (arith, g, h, behind) in
          rw e (and_both _ _ first (begin_from m x.at (x.at + 1) xs later more next (and_right _ _ r) above (and_right _ _ n)))
    ]

apart_on : (from to : ℕ) (bytes : List Unsaved) → from ≤ to → to ≤ FILE_BYTES_MAX → positions_rise bytes ≡ true → list_all (λ b. nat_le to b.at) bytes ≡ true → list_all (λ b. nat_lt b.at FILE_BYTES_MAX) bytes ≡ true →
    are_apart (spans_on from to bytes) ≡ true
apart_on from to [] h k r l n = refl
apart_on from to (x ∷ xs) h k r l n =
    let next : x.at + 1 ≤ FILE_BYTES_MAX = let w : nat_lt x.at FILE_BYTES_MAX ≡ true = and_left _ _ n in grind (arith, common_steps, w) in
    let behind : to ≤ x.at = let w : nat_le to x.at ≡ true = and_left _ _ l in grind (arith, common_steps, w) in
    let above : list_all (λ b. nat_le (x.at + 1) b.at) xs ≡ true = let e : x.at + 1 ≡ suc x.at = omega arith in rw e (and_left _ _ r) in
    elim (eqb_tells x.at to) as (λ _. are_apart (spans_on from to (x ∷ xs)) ≡ true) [
      | inl (e, same) ↦ rw e (apart_on from (to + 1) xs (omega (arith, h)) (omega (arith, next, same)) (and_right _ _ r) (subst (λ p. list_all (λ b. nat_le (p + 1) b.at) xs ≡ true) same above) (and_right _ _ n))
      | inr (e, other) ↦
          let t : min to FILE_BYTES_MAX ≡ to = omega (arith, k) in
          let more : x.at ≤ x.at + 1 = omega arith in
          let beyond : suc to ≤ x.at = omega (arith, behind, other) in
          let later = begin_from (suc to) x.at (x.at + 1) xs beyond more next (and_right _ _ r) above (and_right _ _ n) in
          let behind_all : list_all (λ other. nat_lt (span_between from to).to other.from) (spans_on x.at (x.at + 1) xs) ≡ true = rw t later in
          let tail : are_apart (spans_on x.at (x.at + 1) xs) ≡ true = apart_on x.at (x.at + 1) xs more next (and_right _ _ r) above (and_right _ _ n) in
          rw e (and_both _ _ behind_all tail)
    ]

apart_of : (bytes : List Unsaved) → positions_rise bytes ≡ true → list_all (λ b. nat_lt b.at FILE_BYTES_MAX) bytes ≡ true → are_apart (spans_of bytes) ≡ true
apart_of [] r m = refl
apart_of (x ∷ xs) r m =
    let next : x.at + 1 ≤ FILE_BYTES_MAX = let w : nat_lt x.at FILE_BYTES_MAX ≡ true = and_left _ _ m in grind (arith, common_steps, w) in
    let above : list_all (λ b. nat_le (x.at + 1) b.at) xs ≡ true = let e : x.at + 1 ≡ suc x.at = omega arith in rw e (and_left _ _ r) in
    apart_on x.at (x.at + 1) xs (omega arith) next (and_right _ _ r) above (and_right _ _ m)

pub spans_are_maximal : SpansAreMaximal
spans_are_maximal host (Dir entries lists) s = refl
spans_are_maximal host (File list kept unsaved len) s =
    apart_of (own_bytes host unsaved) (rise_filter _ unsaved (sound_rise list kept unsaved len s)) (all_filter (λ byte. nat_lt byte.at FILE_BYTES_MAX) _ unsaved (sound_places list kept unsaved len s))
