-- What is seen of a file's length where tokens are dropped: what was, or none.
use Rattle.base_types.specs.declared.ids.Fid.{Fid}
use Rattle.base_types.specs.declared.limits.TheConstants.{FILE_BYTES_MAX}
use Rattle.host_cache.specs.Holding.{without_id}
use Rattle.host_cache.specs.Seen.{Kept, Seen, after_drop, seen, tells}
use Rattle.host_leaves.specs.Giving.{shown_without}
use Rattle.host_leaves.specs.Owning.{dirty_length}
use Rattle.host_tables.specs.Tables.{content, held_of, is_length_dirty}
use Rattle.host_tables.specs.Tidy.{IsTidy}
use Rattle.host_tables.specs.declared.tables.Tables.{Tables}
use Rattle.std.proofs.Common.{Bool, List, None, Some, [], ap, arith, false, if◌then◌else◌, inl, inr, refl, true, ℕ, ◌∙◌}
use Rattle.std.proofs.Common.{◌∷◌, ◌≡◌, ◌≤◌, ◌⊎◌}
use Rattle.std.specs.Option.{option_map_or}
use Rattle.std.specs.Prelude.{IfSome}
use Rattle.token_types.specs.declared.token.Token.{Token}
use Rattle.token_types.specs.declared.token.TokenId.{TokenId}
use Rattle.tree_calls.specs.declared.part.Status.{Status as StatusOf}
use Rattle.tree_calls.specs.declared.roster.Roster.{Roster}
use Rattle.tree_laws.specs.Parts.Part.{Size}

abbrev pub size_in : Seen → Fid → ℕ
size_in s fid = option_map_or (λ (status : StatusOf). status.length) (s.status fid) 0

drop_size : (s : Seen) (id : TokenId) (fid : Fid)
    → (size_in (after_drop s id) fid ≡ size_in s fid) ⊎ (size_in (after_drop s id) fid ≡ 0)
drop_size s id fid = by_tells (tells (without_id id s.held) fid)
  where
    by_tells : (b : Bool)
        → (option_map_or (λ (status : StatusOf). status.length) (if b then s.status fid else None) 0 ≡ size_in s fid)
        ⊎ (option_map_or (λ (status : StatusOf). status.length) (if b then s.status fid else None) 0 ≡ 0)
    by_tells true = inl refl
    by_tells false = inr refl

drops_size : (s : Seen) (ts : List Token) (fid : Fid)
    → (size_in (shown_without s ts) fid ≡ size_in s fid) ⊎ (size_in (shown_without s ts) fid ≡ 0)
drops_size s [] fid = inl refl
drops_size s (t ∷ ts) fid = elim (drops_size (after_drop s t.id) ts fid) [
  | inl e ↦ elim (drop_size s t.id fid) [ inl q ↦ inl (e ∙ q) | inr q ↦ inr (e ∙ q) ]
  | inr e ↦ inr e
]

pub size_left : (old new : Kept) (ts : List Token) → seen new ≡ shown_without (seen old) ts → (fid : Fid)
    → (content new fid Size ≡ content old fid Size) ⊎ (content new fid Size ≤ FILE_BYTES_MAX)
size_left old new ts told fid =
    let e : content new fid Size ≡ size_in (shown_without (seen old) ts) fid =
    ap (λ (s : Seen). size_in s fid) told in
    elim (drops_size (seen old) ts fid) [
      | inl q ↦ inl (e ∙ q)
      | inr q ↦ inr (let z = e ∙ q in omega (arith, z))
    ]

-- a length that is given back fits
pub length_fits : (roster : Roster) (m : Tables) → IsTidy roster m → (fid : Fid)
    → IfSome (dirty_length m fid) (λ n. n ≤ FILE_BYTES_MAX)
length_fits roster m tidy fid = by_dirty (is_length_dirty (held_of m) m.lengths (content m.cache) fid)
  where
    by_dirty : (b : Bool) → IfSome (if b then Some (content m.cache fid Size) else None) (λ n. n ≤ FILE_BYTES_MAX)
    by_dirty true = tidy.sizes fid
    by_dirty false = tt
