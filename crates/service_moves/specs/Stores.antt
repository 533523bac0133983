-- The stores of servers.
use Rattle.std.specs.Prelude.{◌≡◌, ◌≤◌, ⊤, ℕ, ◌+◌, List, [], ◌∷◌, map}
use Rattle.tree_calls.specs.declared.roster.Roster.{Roster}
use Rattle.store_memory.specs.Views.{View, IsSameStore}
use Rattle.store_state.specs.declared.state.StoreState.{StoreState}

-- what they keep
abbrev pub states_of : {S : Type 0} → (S → View) → List S → List StoreState
states_of view stores = map (λ store. (view store).state) stores

-- The store of a server of a roster may be asked and opened anew, and is no more worn than so.
pub record IsStore (roster : Roster) (worn number : ℕ) (store : View) : Type 0 where
  pub server : store.state.server ≡ record { 0 = number }
  pub roster_is : store.state.roster ≡ roster
  pub ready : store.ready
  pub mendable : store.mendable
  pub wear : store.wear ≤ worn

-- these are the stores of servers, from this number on
abbrev pub AreStores : {S : Type 0} → (S → View) → Roster → ℕ → ℕ → List S → Type 0
AreStores view roster worn number [] = ⊤
AreStores view roster worn number (store ∷ stores) =
    IsStore roster worn number (view store) × AreStores view roster worn (number + 1) stores

-- each is that of the same server as before, may be opened anew, and its disk's count of faults didn't fall
abbrev pub AreSame : {S : Type 0} → (S → View) → List S → List S → Type 0
AreSame view (old ∷ olds) (new ∷ news) =
    IsSameStore (view old) (view new) × (view new).mendable × ((view old).faults ≤ (view new).faults)
    × AreSame view olds news
AreSame view [] [] = ⊤
AreSame view _ _ = ⊥
