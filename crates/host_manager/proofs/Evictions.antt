-- The token that was last used longest ago is evicted, whatever is dirty under it.
use Rattle.base_types.specs.declared.ids.Node.TheVariants.{Host}
use Rattle.host_cache.specs.Holding.{IsOnce, is_id, is_idle, last_of}
use Rattle.host_cache.specs.declared.held.Held.{Held}
use Rattle.host_gives.specs.Giving.{IsSound as IsSoundGives}
use Rattle.host_manager.proofs.Evicted.{dirty_evicted}
use Rattle.host_manager.proofs.Evicting.{clean_evicted, last_in}
use Rattle.host_manager.specs.Closing.{EvictsIt, oldest_of}
use Rattle.host_manager.specs.Spoken.{HasRoom}
use Rattle.host_tables.proofs.Lists.{by_test, id_same, in_filter, map_in}
use Rattle.host_tables.proofs.Outstanding.{found_in, found_some}
use Rattle.host_tables.specs.Drafts.{no_draft, step_of}
use Rattle.host_manager.specs.Running.{OwnRight}
use Rattle.host_tables.specs.Tables.{held_of}
use Rattle.host_tables.specs.declared.draft.Draft.{Draft}
use Rattle.host_tables.specs.declared.tables.Tables.{Tables}
use Rattle.run_rules.specs.Past.{In}
use Rattle.run_rules.specs.declared.step.Cause.TheVariants.{Evict}
use Rattle.std.proofs.Common.{le-leb, ℕ}
use Rattle.std.proofs.Common.{Bool, List, None, Option, Some, [], arith}
use Rattle.std.proofs.Common.{cond, false, filter, if◌then◌else◌, inl, inr, leb}
use Rattle.std.proofs.Common.{length, refl, subst, suc, sym, true, ◌<◌, ◌↔◌, ◌∙◌, ◌∷◌, ◌≡◌, ◌≤◌}
use Rattle.std.proofs.lemmas.Bool.{leb-false, leb-true}
use Rattle.std.specs.List.{find}
use Rattle.std.specs.Option.{option_map}
use Rattle.std.specs.Prelude.{IsTrue, option_and_then}
use Rattle.token_types.specs.declared.token.Token.{Token}

pub evicts_it : (m new : Tables) (after : Draft) (t : Token) → m.call ≡ None
    → m.limit < length (filter is_idle m.cache.held) → IsOnce m.cache.held → IsSoundGives m.gives
    → oldest_of m ≡ Some t → EvictsIt m no_draft t new after
    → OwnRight Evict m new (step_of (Host m.host) Evict after)
evicts_it m new after t free many once sound oldest its =
    by_dirty (its.leaves.which.test t) its.leaves.which.some
  where
    by_dirty : (b : Bool) → its.leaves.giving ≡ cond b (t ∷ []) []
        → OwnRight Evict m new (step_of (Host m.host) Evict after)
    by_dirty true all = dirty_evicted m new after t free many once sound oldest its all
    by_dirty false none = clean_evicted m new after t free many once oldest its none

-- it is held
pub oldest_in : (m : Tables) (t : Token) → oldest_of m ≡ Some t → In t (held_of m)
oldest_in m t e = by_last (last_of (filter is_idle m.cache.held)) e
  where
    by_found : (h : Held) (o : Option Held) → find (is_id h.token.id) m.cache.held ≡ o
        → option_map (λ held. held.token) o ≡ Some t → In t (held_of m)
    by_found h None p g = absurd (cc)
    by_found h (Some k) p g =
        let same : k.token ≡ t = cc in
        subst (λ (x : Token). In x (held_of m)) same (map_in (λ (x : Held). x.token) m.cache.held k
        (found_in (is_id h.token.id) m.cache.held k p).0)

    by_last : (o : Option Held) → option_and_then
        (λ id. option_map (λ held. held.token) (find (is_id id) m.cache.held))
        (option_map (λ held. held.token.id) o) ≡ Some t → In t (held_of m)
    by_last None f = absurd (cc)
    by_last (Some h) f = by_found h (find (is_id h.token.id) m.cache.held) refl f

-- there is one, where one isn't in use
pub some_oldest : (m : Tables) → m.limit < length (filter is_idle m.cache.held) → oldest_of m ≡ None → ⊥
some_oldest m many e = by_last (last_of (filter is_idle m.cache.held)) refl e
  where
    none_last : (xs : List Held) → last_of xs ≡ None → length xs ≡ 0
    none_last [] p = refl
    none_last (x ∷ []) p = absurd (cc)
    none_last (x ∷ y ∷ xs) p =
        let q = none_last (y ∷ xs) p in absurd (omega (arith, q))

    by_last : (o : Option Held) → last_of (filter is_idle m.cache.held) ≡ o → option_and_then
        (λ id. option_map (λ held. held.token) (find (is_id id) m.cache.held))
        (option_map (λ held. held.token.id) o) ≡ None → ⊥
    by_last None p f = let q = none_last (filter is_idle m.cache.held) p in omega (arith, q, many)
    by_last (Some h) p f =
        let i = (in_filter is_idle m.cache.held h (last_in (filter is_idle m.cache.held) h p)).0 in
        let r = found_some (is_id h.token.id) m.cache.held h i (id_same h.token.id h.token.id refl) in
        let q : option_map (λ (held : Held). held.token) (Some r.0) ≡ None =
        subst (λ (o : Option Held). option_map (λ (held : Held). held.token) o ≡ None) r.1 f in absurd (cc)

-- # How many tokens are cached
pub no_room : (m : Tables) (b : Bool) → (IsTrue b ↔ HasRoom m) → b ≡ false
    → m.limit < length (filter is_idle m.cache.held)
no_room m b iff e = elim (by_test (leb (length (filter is_idle m.cache.held)) m.limit)) [
  | inl t ↦ absurd (
      let h = leb-true (length (filter is_idle m.cache.held)) m.limit t in
      let p : b ≡ true = iff.1 h in let q : true ≡ false = sym p ∙ e in cc)
  | inr f ↦ leb-false (length (filter is_idle m.cache.held)) m.limit f
]

pub idle_less : (xs : List Held) → length (filter is_idle xs) ≤ length xs
idle_less [] = omega arith
idle_less (x ∷ xs) = by_idle (is_idle x) (idle_less xs)
  where
    by_idle : (b : Bool) → length (filter is_idle xs) ≤ length xs
        → length (if b then x ∷ filter is_idle xs else filter is_idle xs) ≤ suc (length xs)
    by_idle true l = omega (arith, l)
    by_idle false l = omega (arith, l)

-- few tokens, so few of them idle
pub room_by : (m : Tables) (n : ℕ) → n ≡ length m.cache.held → n ≤ m.limit → IsTrue (leb n m.limit) ↔ HasRoom m
room_by m n e few = (
  (λ t. let l = idle_less m.cache.held in omega (arith, e, few, l)),
  λ r. le-leb n m.limit few,
)
