-- What a run finds in the stores of servers.
use Rattle.std.specs.Prelude.{◌≡◌, ◌≤◌, ℕ, ◌+◌, ◌-◌, nat_lt, Bool, List, [], ◌∷◌, map, Some, slice_get}
use Rattle.tree_calls.specs.declared.roster.Roster.{Roster}
use Rattle.store_memory.specs.Reading.{kept_of, slots_from}
use Rattle.store_memory.specs.Views.{View}
use Rattle.tree_answers.specs.declared.tree.Tree.{Tree}
use Rattle.service_starts.specs.UnderWay.{freed}
use Rattle.service_starts.specs.Starting.{start_of}
use Rattle.service_starts.specs.declared.told.Told.{Told}
use Rattle.store_state.specs.declared.state.StoreState.{StoreState}

-- what a server's store tells
abbrev pub told_of : Bool → StoreState → Told
told_of on_disk state = record { on_disk = on_disk; kept = kept_of state; slots = slots_from 0 state.slots }

-- what those of all servers tell, of which so many in front are on disks
abbrev pub told_by : {S : Type 0} → (S → View) → ℕ → List S → List Told
told_by view disks [] = []
told_by view disks (store ∷ stores) =
    told_of (nat_lt 0 disks) (view store).state ∷ told_by view (disks - 1) stores

-- each of these stores has begun one run more: its epoch rose by one
abbrev pub HaveBegunAnew : List StoreState → List StoreState → Type 0
HaveBegunAnew olds news = map (λ state. state.epoch) news ≡ map (λ state. state.epoch + 1) olds

-- each store has begun a run
abbrev pub HaveBegun : List StoreState → Type 0
HaveBegun states = (k : ℕ) (state : StoreState) → slice_get states k ≡ Some state → 1 ≤ state.epoch

-- The tree that a run starts from: that of what the servers tell, once the moves that an earlier run left unfinished
-- are settled, and those that go on have ended.
abbrev pub start_from : Roster → List Told → Tree
start_from roster all = freed (start_of roster all)
