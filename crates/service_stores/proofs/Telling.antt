-- What stores tell, one after the other.
use Rattle.service_stores.proofs.Settles.{take_all}
use Rattle.std.proofs.Common.{◌≡◌, ℕ, zero, suc, ◌+◌, ◌-◌, ◌≤◌, List, [], ◌∷◌, ◌++◌, take, length, refl, sym, ap, ◌∙◌, arith}
use Rattle.std.specs.Prelude.{slice_get, nat_lt, Some}
use Rattle.std.proofs.lemmas.Bool.Decides.{nat_tests}
use Rattle.store_memory.specs.Views.{View}
use Rattle.service_starts.specs.declared.told.Told.{Told}
use Rattle.service_moves.specs.Stores.{states_of}
use Rattle.store_state.specs.declared.state.StoreState.{StoreState}
use Rattle.service_stores.proofs.Lists.{take_next}
use Rattle.service_stores.specs.Starting.{told_of, told_by}

one_less : (k disks : ℕ) → nat_lt k (disks - 1) ≡ nat_lt (suc k) disks
one_less k disks = grind (arith, nat_tests)

get_told : {S : Type 0} (view : S → View) (disks : ℕ) (stores : List S) (k : ℕ) (store : S) → slice_get stores k ≡ Some store
    → slice_get (told_by view disks stores) k ≡ Some (told_of (nat_lt k disks) (view store).state)
get_told view disks [] k store is = cc
get_told {S = S} view disks (one ∷ stores) zero store is = let same : one ≡ store = cc in ap (λ (s : S). Some (told_of (nat_lt 0 disks) (view s).state)) same
get_told view disks (one ∷ stores) (suc k) store is = get_told view (disks - 1) stores k store is ∙ ap (λ b. Some (told_of b (view store).state)) (one_less k disks)

-- one more
pub told_next : {S : Type 0} (view : S → View) (disks k : ℕ) (stores : List S) (store : S) (state : StoreState) (all more : List Told) (told : Told) → slice_get stores k ≡ Some store
    → all ≡ take k (told_by view disks stores) → state ≡ (view store).state → told ≡ told_of (nat_lt k disks) state → more ≡ all ++ told ∷ [] → more ≡ take (k + 1) (told_by view disks stores)
told_next view disks k stores store state all more told at are same is e =
    let next = take_next (told_by view disks stores) k (told_of (nat_lt k disks) (view store).state) (get_told view disks stores k store at) in
    let one : told ≡ told_of (nat_lt k disks) (view store).state = is ∙ ap (told_of (nat_lt k disks)) same in
    e ∙ ap (λ (xs : List Told). xs ++ told ∷ []) are ∙ ap (λ (t : Told). take k (told_by view disks stores) ++ t ∷ []) one ∙ sym next

-- as many
pub count_told : {S : Type 0} (view : S → View) (disks : ℕ) (stores : List S) → length (told_by view disks stores) ≡ length stores
count_told view disks [] = refl
count_told view disks (store ∷ stores) = ap suc (count_told view (disks - 1) stores)

pub told_whole : {S : Type 0} (view : S → View) (disks k : ℕ) (stores : List S) → length stores ≤ k → take k (told_by view disks stores) ≡ told_by view disks stores
told_whole view disks k stores le = let size = count_told view disks stores in take_all (told_by view disks stores) k (omega (arith, le, size))

-- stores that keep the same tell the same
pub told_same : {S : Type 0} (view : S → View) (disks : ℕ) (old new : List S) → states_of view new ≡ states_of view old → told_by view disks new ≡ told_by view disks old
told_same view disks [] [] e = refl
told_same view disks [] (b ∷ new) e = cc
told_same view disks (a ∷ old) [] e = cc
told_same view disks (a ∷ old) (b ∷ new) e =
    let one : (view b).state ≡ (view a).state = cc in
    let rest : states_of view new ≡ states_of view old = cc in
    ap (λ (s : StoreState). told_of (nat_lt 0 disks) s ∷ told_by view (disks - 1) new) one ∙ ap (λ (those : List Told). told_of (nat_lt 0 disks) (view a).state ∷ those) (told_same view (disks - 1) old new rest)
