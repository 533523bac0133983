-- Needs that are marked again change nothing, and what is marked changes nothing that is shown.
use Rattle.std.proofs.Common.{◌≡◌, ◌∙◌, ◌∷◌, ◌++◌, Bool, List, [], ap, append-nil, arith, cond, false, not, refl, sym, true}
use Rattle.std.specs.List.{filter}
use Rattle.std.proofs.lemmas.List.Elements.{filter-append}
use Rattle.base_types.specs.declared.ids.Fid.{Fid}
use Rattle.host_cache.proofs.Lists.{kept_first}
use Rattle.host_cache.specs.Holding.{first_by, helps_cover}
use Rattle.host_cache.specs.Seen.{Kept, Seen, after_used, seen}
use Rattle.host_cache.specs.declared.held.Held.{Held}
use Rattle.host_tables.specs.Tables.{content}
use Rattle.host_walk.specs.Marks.{used_all}
use Rattle.host_walk.specs.Views.{shown_view}
use Rattle.token_types.specs.declared.token.Need.{Need}
use Rattle.tree_laws.specs.Parts.{Part}
use Rattle.tree_laws.specs.Parts.Part.{ByteAt, Entries, Size, Traits}

module _ {X : Type 0} where
  -- tests by which elements are brought to the front, the one that comes last outermost
  abbrev each_first : List (X → Bool) → List X → List X
  each_first [] xs = xs
  each_first (p ∷ ps) xs = first_by p (each_first ps xs)

  abbrev none : (X → Bool) → X → Bool
  none p x = not (p x)

  kept_each : (q : X → Bool) (ps : List (X → Bool)) (xs : List X) →
      filter q (each_first ps xs) ≡ each_first ps (filter q xs)
  kept_each q [] xs = refl
  kept_each q (p ∷ ps) xs = kept_first q p (each_first ps xs) ∙ ap (first_by p) (kept_each q ps xs)

  twice : (p : X → Bool) (xs : List X) → filter p (filter p xs) ≡ filter p xs
  twice p [] = refl
  twice p (x ∷ xs) = elim (p x) as (λ b. p x ≡ b →
      filter p (cond b (x ∷ filter p xs) (filter p xs)) ≡ cond b (x ∷ filter p xs) (filter p xs)) [
        | true ↦ λ e. ap (λ b. cond b (x ∷ filter p (filter p xs)) (filter p (filter p xs))) e
            ∙ ap (λ l. x ∷ l) (twice p xs)
        | false ↦ λ e. twice p xs
      ] refl

  neither : (p q : X → Bool) → ((x : X) → p x ≡ true → q x ≡ false) → (xs : List X) → filter p (filter q xs) ≡ []
  neither p q apart [] = refl
  neither p q apart (x ∷ xs) = elim (q x) as (λ b. q x ≡ b → filter p (cond b (x ∷ filter q xs) (filter q xs)) ≡ []) [
    | true ↦ λ e. elim (p x) as (λ b. p x ≡ b → cond b (x ∷ filter p (filter q xs)) (filter p (filter q xs)) ≡ []) [
      | true ↦ λ f. let bad : true ≡ false = sym e ∙ apart x f in absurd (grind (arith, bad))
      | false ↦ λ f. neither p q apart xs
    ] refl
    | false ↦ λ e. neither p q apart xs
  ] refl

  -- brought to the front again, nothing changes
  again : (ps : List (X → Bool)) (xs : List X) → each_first ps (each_first ps xs) ≡ each_first ps xs
  again [] xs = refl
  again (p ∷ ps) xs =
      let a : filter p (each_first (p ∷ ps) xs) ≡ filter p (each_first ps xs) =
      filter-append p (filter p (each_first ps xs)) (filter (none p) (each_first ps xs))
      ∙ (λ i. twice p (each_first ps xs) i ++ neither p (none p) (λ x e. ap not e) (each_first ps xs) i)
      ∙ append-nil (filter p (each_first ps xs)) in
      let b : filter (none p) (each_first (p ∷ ps) xs) ≡ filter (none p) (each_first ps xs) =
      filter-append (none p) (filter p (each_first ps xs)) (filter (none p) (each_first ps xs))
      ∙ (λ i. neither (none p) p (λ x e. turned (p x) e) (each_first ps xs) i
      ++ twice (none p) (each_first ps xs) i) in
      (λ i. kept_each p ps (each_first (p ∷ ps) xs) i ++ kept_each (none p) ps (each_first (p ∷ ps) xs) i)
      ∙ (λ i. each_first ps (a i) ++ each_first ps (b i))
      ∙ (λ i. each_first ps (kept_each p ps xs i) ++ each_first ps (kept_each (none p) ps xs i))
      ∙ (λ i. again ps (filter p xs) i ++ again ps (filter (none p) xs) i)
      ∙ sym (λ i. kept_each p ps xs i ++ kept_each (none p) ps xs i)
    where
      turned : (b : Bool) → not b ≡ true → b ≡ false
      turned true e = sym e
      turned false e = refl

-- the tests of needs, the last one first, before others
abbrev tests : List Need → List (Held → Bool) → List (Held → Bool)
tests [] after = after
tests (need ∷ needs) after = tests needs ((λ h. helps_cover need h.token) ∷ after)

used_tests : (needs : List Need) (after : List (Held → Bool)) (shown : Seen) →
    used_all needs (record shown { held = each_first after shown.held })
    ≡ record shown { held = each_first (tests needs after) shown.held }
used_tests [] after shown = refl
used_tests (need ∷ needs) after shown = used_tests needs ((λ h. helps_cover need h.token) ∷ after) shown

pub used_again : (needs : List Need) (shown : Seen) → used_all needs (used_all needs shown) ≡ used_all needs shown
used_again needs shown =
    ap (used_all needs) (used_tests needs [] shown)
    ∙ used_tests needs [] (record shown { held = each_first (tests needs []) shown.held })
    ∙ ap (λ held. record shown { held = held }) (again (tests needs []) shown.held) ∙ sym (used_tests needs [] shown)

-- what is shown of each part stays
view_used : (needs : List Need) (shown : Seen) (fid : Fid) (part : Part) →
    shown_view (used_all needs shown) fid part ≡ shown_view shown fid part
view_used [] shown fid part = refl
view_used (need ∷ needs) shown fid part = view_used needs (after_used shown need) fid part ∙ one part
  where
    one : (part : Part) → shown_view (after_used shown need) fid part ≡ shown_view shown fid part
    one (ByteAt at) = refl
    one Size = refl
    one Traits = refl
    one Entries = refl

pub content_stays : (kept new : Kept) (needs : List Need) → seen new ≡ used_all needs (seen kept) →
    content new ≡ content kept
content_stays kept new needs e = λ i fid part. each fid part i
  where
    each : (fid : Fid) (part : Part) → content new fid part ≡ content kept fid part
    each fid (ByteAt at) = ap (λ s. shown_view s fid (ByteAt at)) e ∙ view_used needs (seen kept) fid (ByteAt at)
    each fid Size = ap (λ s. shown_view s fid Size) e ∙ view_used needs (seen kept) fid Size
    each fid Traits = ap (λ s. shown_view s fid Traits) e ∙ view_used needs (seen kept) fid Traits
    each fid Entries = ap (λ s. shown_view s fid Entries) e ∙ view_used needs (seen kept) fid Entries
