-- The pages of an act are few enough for its transaction.
use Rattle.std.proofs.Common.{◌≡◌, ◌≤◌, ℕ, ◌+◌, ◌-◌, ◌*◌, refl, sym, ◌∙◌, arith}
use Rattle.std.specs.Prelude.{Bool, true, false, ◌&&◌, ◌||◌, not, nat_le, nat_lt}
use Rattle.std.proofs.lemmas.Bool.Decides.{nat_tests}
use Rattle.disk_anode.specs.Room.{how_many}
use Rattle.disk_anode.proofs.Counting.{many_le, or_many, above_many, many_upto, many_rest}
use Rattle.disk_objects.specs.Holds.{is_anode}
use Rattle.disk_acts.specs.Acts.{act_pages}

-- pages in a span
abbrev in_span : ℕ → ℕ → Bool
in_span from p = nat_le from p && nat_lt p (from + 64)

span_many : (from pages : ℕ) → how_many (in_span from) pages ≤ 64
span_many from pages =
    let upto = many_upto (in_span from) pages (from + 64 + pages) (omega arith) in
    let rest = many_rest (in_span from) (from + 64) (from + 64 + pages) (omega arith) (λ j le lt. behind j le (nat_le from j)) in
    let most = many_le (in_span from) (λ j. nat_le from j) (from + 64) (λ j lt is. first (nat_le from j) (nat_lt j (from + 64)) is) in
    let above = above_many from (from + 64) in
    omega (arith, upto, rest, most, above)
  where
    first : (a b : Bool) → (a && b) ≡ true → a ≡ true
    first true b is = refl
    first false b is = is

    behind : (j : ℕ) → from + 64 ≤ j → (a : Bool) → (a && nat_lt j (from + 64)) ≡ false
    behind j le true = grind (arith, nat_tests, le)
    behind j le false = refl

-- pages of the server, of headers and of numbers
abbrev beside : ℕ → Bool
beside p = not (is_anode p) && nat_lt p 1058

few : how_many beside 1058 ≡ 34
unfolding how_many
few = refl

beside_many : (pages : ℕ) → 1058 ≤ pages → how_many beside pages ≡ 34
beside_many pages le = many_rest beside 1058 pages le (λ j from lt. behind j from (not (is_anode j))) ∙ few
  where
    behind : (j : ℕ) → 1058 ≤ j → (a : Bool) → (a && nat_lt j 1058) ≡ false
    behind j from true = grind (arith, nat_tests, from)
    behind j from false = refl

pub act_many : (slot pages : ℕ) → 1058 ≤ pages → how_many (act_pages slot) pages ≤ 98 + (pages - 1058)
act_many slot pages le =
    let from = 4 + 66 * slot in
    let most = many_le (act_pages slot) (λ p. beside p || (in_span from p || nat_le 1058 p)) pages (λ p lt is. by p (is_anode p) (nat_le from p && nat_lt p (68 + 66 * slot)) refl is) in
    let two = or_many beside (λ p. in_span from p || nat_le 1058 p) pages in
    let three = or_many (in_span from) (λ p. nat_le 1058 p) pages in
    let a = beside_many pages le in
    let b = span_many from pages in
    let c = above_many 1058 pages in
    omega (arith, most, two, three, a, b, c)
  where
    in_place : (p : ℕ) → (nat_le (4 + 66 * slot) p && nat_lt p (68 + 66 * slot)) ≡ in_span (4 + 66 * slot) p
    in_place p = (let e : 68 + 66 * slot ≡ 4 + 66 * slot + 64 = omega arith in λ i. nat_le (4 + 66 * slot) p && nat_lt p (e i))

    last : (p : ℕ) (a : Bool) → ((true && nat_lt p 1058) || (a || nat_le 1058 p)) ≡ true
    last p a = at (nat_lt p 1058) refl a
      where
        at : (low : Bool) → nat_lt p 1058 ≡ low → (a : Bool) → (low || (a || nat_le 1058 p)) ≡ true
        at true e a = refl
        at false e true = refl
        at false e false = grind (arith, nat_tests, e)

    by : (p : ℕ) (anode span : Bool) → (nat_le (4 + 66 * slot) p && nat_lt p (68 + 66 * slot)) ≡ span → (not anode || (span || nat_le 1058 p)) ≡ true
        → ((not anode && nat_lt p 1058) || (in_span (4 + 66 * slot) p || nat_le 1058 p)) ≡ true
    by p true span e is = (λ i. (sym (in_place p) i || nat_le 1058 p)) ∙ (λ i. e i || nat_le 1058 p) ∙ is
    by p false span e is = last p (in_span (4 + 66 * slot) p)
