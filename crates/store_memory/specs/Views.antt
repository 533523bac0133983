-- What is seen of a store.
use Rattle.std.specs.Prelude.{◌≡◌, ◌≤◌, ◌⊎◌, ◌+◌, ℕ, Bool, IsTrue, List, [], length, take, Option, Some, Result, Err, OnOk}
use Rattle.base_types.specs.Faults.{RoseBy}
use Rattle.base_types.specs.declared.limits.TheConstants.{BATCH_ACTS_MAX}
use Rattle.store_acts.specs.Acts.{state_after}
use Rattle.store_acts.specs.declared.act.Act.{Act}
use Rattle.store_memory.specs.declared.store.StoreFault.{StoreFault}
use Rattle.store_memory.specs.declared.store.StoreFault.TheVariants.{Failed}
use Rattle.store_state.specs.declared.state.StoreState.{StoreState}

pub record View : Type 1 where
  -- what it keeps; of a store that doesn't tell it the server and the roster alone
  pub state : StoreState
  -- that it may be asked. After a fault it may be so only once it was opened anew.
  pub ready : Type 0
  -- that it may be opened anew, as it always may behind the calls of a store
  pub mendable : Type 0
  -- how worn it is: each batch, and each opening, adds one more than a batch can have acts, at most
  pub wear : ℕ
  -- the count of faults of its disk, and whether the disk's last call failed
  pub faults : ℕ
  pub last_failed : Bool
  -- the moment; the bytes that a crash at some moment from one on might have left, of a store in memory none; and the
  -- record that is found on bytes, if there is one
  pub moment : ℕ
  pub left_since : ℕ → List ℕ → Type 0
  pub found_on : List ℕ → Option StoreState

-- A crash at any moment of a run of calls leaves what a crash before might have left, or bytes of which the record, if
-- they have one, has P.
pub record Leaves (P : Option StoreState → Type 0) (old new : View) : Type 0 where
  pub later : old.moment ≤ new.moment
  pub finds : (c : List ℕ) → new.found_on c ≡ old.found_on c
  pub each : (t : ℕ) (c : List ℕ)
      → t ≤ old.moment → new.left_since t c → old.left_since t c ⊎ P (old.found_on c)

-- the record that the first of some acts made of this one
abbrev pub IsFirstOf : StoreState → List Act → Option StoreState → Type 0
IsFirstOf state acts found = (k : ℕ) × (k ≤ length acts) × (found ≡ Some (state_after state (take k acts)))

-- A store does acts in their order: all of them where the answer is Ok, and however it is the first of them, up to one.
-- A crash at any moment leaves what the first of them made, at most a batch more than the store did in the end.
pub record DoesActs {T E : Type 0} (result : Result T E) (acts : List Act) (old new : View) : Type 0 where
  pub done : ℕ
  pub within : done ≤ length acts
  pub all : OnOk result (done ≡ length acts)
  pub state : new.state ≡ state_after old.state (take done acts)
  pub leaves : Leaves (IsFirstOf old.state (take (done + BATCH_ACTS_MAX) acts)) old new

-- the disk's count doesn't fall, and a store fails only where it rose and the disk's last call failed
pub record IsBlamed {T : Type 0} (result : Result T StoreFault) (old new : View) : Type 0 where
  pub counted : old.faults ≤ new.faults
  pub cause : result ≡ Err Failed → RoseBy 1 old.faults new.faults × IsTrue new.last_failed

-- what a store is made for stays
pub record IsSameStore (old new : View) : Type 0 where
  pub server : new.state.server ≡ old.state.server
  pub roster : new.state.roster ≡ old.state.roster

-- A store that was asked is as before, also where a crash comes. Only where its disk failed it has to be opened anew.
pub record IsAsked {T : Type 0} (tells : Type 0) (result : Result T StoreFault) (old new : View) : Type 0 where
  pub same : IsSameStore old new
  pub state : tells → new.state ≡ old.state
  pub leaves : tells → Leaves (IsFirstOf old.state []) old new
  pub wear : new.wear ≡ old.wear
  pub ready : (result ≡ Err Failed → ⊥) → new.ready
  pub mendable : new.mendable
  pub blame : IsBlamed result old new
