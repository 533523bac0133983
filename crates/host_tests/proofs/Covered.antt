-- A held token that was found.
use Rattle.std.proofs.Common.{Bool, List, Some, [], ap, cond, false, inl, inr, subst, sym, true, ◌∷◌, ◌≡◌}
use Rattle.std.specs.List.{find}
use Rattle.host_cache.specs.Holding.{is_id}
use Rattle.host_cache.specs.declared.held.Held.{Held}
use Rattle.host_leaves.specs.Giving.{AreCovered}
use Rattle.host_tables.proofs.Lists.{map_in}
use Rattle.host_tables.specs.Tables.{held_of}
use Rattle.host_tables.specs.declared.tables.Tables.{Tables}
use Rattle.run_rules.specs.Past.{In}
use Rattle.token_types.specs.declared.token.Token.{Token}
use Rattle.token_types.specs.declared.token.TokenId.{TokenId}

found_in : {A : Type 0} (p : A → Bool) (xs : List A) (x : A) → find p xs ≡ Some x → In x xs
found_in p [] x e = absurd (cc)
found_in p (y ∷ ys) x e = by_test (found_in p ys x) (p y) e
  where
    by_test : (find p ys ≡ Some x → In x ys) → (b : Bool) → cond b (Some y) (find p ys) ≡ Some x → In x (y ∷ ys)
    by_test rest true h = let same : y ≡ x = cc in inl (sym same)
    by_test rest false h = inr (rest h)

pub found_covered : (m : Tables) (id : TokenId) (held : Held) → find (is_id id) m.cache.held ≡ Some held →
    AreCovered m held.token.fid (held.token ∷ [])
found_covered m id held e token (inl s) = (
  subst (λ t. In t (held_of m)) (sym s)
      (map_in (λ (h : Held). h.token) m.cache.held held (found_in (is_id id) m.cache.held held e)),
  ap (λ (t : Token). t.fid) s,
)
found_covered m id held e token (inr s) = absurd s
