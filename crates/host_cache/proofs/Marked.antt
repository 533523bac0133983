-- Needs that are marked again change nothing.
use Rattle.std.proofs.Common.{◌≡◌, ◌+◌, ◌<◌, ℕ, Bool, true, false, not, cond, List, [], ◌∷◌, ◌++◌, take, length, get_or}
use Rattle.std.proofs.Common.{refl, sym, ap, ◌∙◌, append-nil, arith}
use Rattle.std.specs.List.{filter}
use Rattle.std.proofs.Math.Seq.{take-length}
use Rattle.std.proofs.lemmas.List.{take_more}
use Rattle.std.proofs.lemmas.List.Elements.{filter-append}
use Rattle.token_types.specs.declared.token.Need.{Need}
use Rattle.host_cache.specs.declared.held.Held.{Held}
use Rattle.host_cache.specs.Holding.{first_by, helps_cover, used, used_each}
use Rattle.host_cache.proofs.Lists.{kept_first}

module _ {X : Type 0} where
  -- tests by which elements are brought to the front, the one that comes last outermost
  abbrev each_first : List (X → Bool) → List X → List X
  each_first [] xs = xs
  each_first (p ∷ ps) xs = first_by p (each_first ps xs)

  abbrev none : (X → Bool) → X → Bool
  none p x = not (p x)

  kept_each : (q : X → Bool) (ps : List (X → Bool)) (xs : List X) →
      filter q (each_first ps xs) ≡ each_first ps (filter q xs)
  kept_each q [] xs = refl
  kept_each q (p ∷ ps) xs = kept_first q p (each_first ps xs) ∙ ap (first_by p) (kept_each q ps xs)

  twice : (p : X → Bool) (xs : List X) → filter p (filter p xs) ≡ filter p xs
  twice p [] = refl
  twice p (x ∷ xs) = elim (p x) as (λ b. p x ≡ b →
      filter p (cond b (x ∷ filter p xs) (filter p xs)) ≡ cond b (x ∷ filter p xs) (filter p xs)) [
        | true ↦ λ e. ap (λ b. cond b (x ∷ filter p (filter p xs)) (filter p (filter p xs))) e
            ∙ ap (λ l. x ∷ l) (twice p xs)
        | false ↦ λ e. twice p xs
      ] refl

  neither : (p q : X → Bool) → ((x : X) → p x ≡ true → q x ≡ false) → (xs : List X) → filter p (filter q xs) ≡ []
  neither p q apart [] = refl
  neither p q apart (x ∷ xs) = elim (q x) as (λ b. q x ≡ b → filter p (cond b (x ∷ filter q xs) (filter q xs)) ≡ []) [
    | true ↦ λ e. elim (p x) as (λ b. p x ≡ b → cond b (x ∷ filter p (filter q xs)) (filter p (filter q xs)) ≡ []) [
      | true ↦ λ f. let bad : true ≡ false = sym e ∙ apart x f in absurd (grind (arith, bad))
      | false ↦ λ f. neither p q apart xs
    ] refl
    | false ↦ λ e. neither p q apart xs
  ] refl

  -- brought to the front again, nothing changes
  again : (ps : List (X → Bool)) (xs : List X) → each_first ps (each_first ps xs) ≡ each_first ps xs
  again [] xs = refl
  again (p ∷ ps) xs =
      let a : filter p (each_first (p ∷ ps) xs) ≡ filter p (each_first ps xs) =
      filter-append p (filter p (each_first ps xs)) (filter (none p) (each_first ps xs))
      ∙ (λ i. twice p (each_first ps xs) i ++ neither p (none p) (λ x e. ap not e) (each_first ps xs) i)
      ∙ append-nil (filter p (each_first ps xs)) in
      let b : filter (none p) (each_first (p ∷ ps) xs) ≡ filter (none p) (each_first ps xs) =
      filter-append (none p) (filter p (each_first ps xs)) (filter (none p) (each_first ps xs))
      ∙ (λ i. neither (none p) p (λ x e. turned (p x) e) (each_first ps xs) i
      ++ twice (none p) (each_first ps xs) i) in
      (λ i. kept_each p ps (each_first (p ∷ ps) xs) i ++ kept_each (none p) ps (each_first (p ∷ ps) xs) i)
      ∙ (λ i. each_first ps (a i) ++ each_first ps (b i))
      ∙ (λ i. each_first ps (kept_each p ps xs i) ++ each_first ps (kept_each (none p) ps xs i))
      ∙ (λ i. again ps (filter p xs) i ++ again ps (filter (none p) xs) i)
      ∙ sym (λ i. kept_each p ps xs i ++ kept_each (none p) ps xs i)
    where
      turned : (b : Bool) → not b ≡ true → b ≡ false
      turned true e = sym e
      turned false e = refl

-- the tests of needs, the last one first, before others
abbrev tests : List Need → List (Held → Bool) → List (Held → Bool)
tests [] after = after
tests (need ∷ needs) after = tests needs ((λ h. helps_cover need h.token) ∷ after)

used_tests : (needs : List Need) (after : List (Held → Bool)) (held : List Held) →
    used_each needs (each_first after held) ≡ each_first (tests needs after) held
used_tests [] after held = refl
used_tests (need ∷ needs) after held = used_tests needs ((λ h. helps_cover need h.token) ∷ after) held

pub used_again : (needs : List Need) (held : List Held) →
    used_each needs (used_each needs held) ≡ used_each needs held
used_again needs held =
    ap (used_each needs) (used_tests needs [] held) ∙ used_tests needs [] (each_first (tests needs []) held)
    ∙ again (tests needs []) held ∙ sym (used_tests needs [] held)

-- one need more
used_append : (needs more : List Need) (held : List Held) →
    used_each (needs ++ more) held ≡ used_each more (used_each needs held)
used_append [] more held = refl
used_append (need ∷ needs) more held = used_append needs more (used need held)

pub used_next : (needs : List Need) (i : ℕ) (need : Need) (first held : List Held) → i < length needs →
    need ≡ get_or needs i need → held ≡ used_each (take i needs) first →
    used need held ≡ used_each (take (i + 1) needs) first
used_next needs i need first held low is e =
    ap (used need) e
    ∙ sym (ap (λ ns. used_each ns first) (take_more needs i need low ∙ ap (λ n. take i needs ++ n ∷ []) (sym is))
    ∙ used_append (take i needs) (need ∷ []) first)

pub used_all_of : (needs : List Need) (first : List Held) →
    used_each (take (length needs) needs) first ≡ used_each needs first
used_all_of needs first = ap (λ ns. used_each ns first) (take-length needs)
