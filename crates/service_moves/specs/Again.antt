-- Acts that come again.
use Rattle.std.specs.Prelude.{◌≡◌, ◌≢◌, ◌≤◌, ◌<◌, ℕ, ◌/◌, ◌%◌, max, List, [], ◌∷◌, length, take, Some, IsTrue}
use Rattle.base_types.specs.declared.ids.ServerId.{ServerId}
use Rattle.base_types.specs.declared.limits.TheConstants.{HOSTS_MAX}
use Rattle.tree_calls.specs.declared.roster.Roster.{Roster}
use Rattle.message_types.specs.Soundness.{Each}
use Rattle.store_acts.specs.Acts.{act_done, state_after}
use Rattle.store_acts.specs.Sound.{AllFit, IsAct, KeepsLimits}
use Rattle.store_acts.specs.declared.act.Act.{Act}
use Rattle.store_acts.specs.declared.act.Act.TheVariants.{
  Boot,
  Epoch,
  Host,
  Do,
  Refuse,
  Give,
  Leave,
  Back,
  Left,
  Settle,
  Part,
}
use Rattle.store_state.specs.State.{held_at, new_state}
use Rattle.store_state.specs.declared.state.Holding.{Holding}
use Rattle.store_state.specs.declared.state.StoreState.{StoreState}

-- an act that a host asks for under a number on a fileset, and that moves none
abbrev pub IsNumbered : Act → Type 0
IsNumbered (Do host number call) = Unit {0}
IsNumbered (Refuse host id number refusal) = Unit {0}
IsNumbered (Give host number fid pieces given) = Unit {0}
IsNumbered Boot = ⊥
IsNumbered Epoch = ⊥
IsNumbered (Host host known) = ⊥
IsNumbered (Leave id to) = ⊥
IsNumbered (Back host number id refusal) = ⊥
IsNumbered (Left id) = ⊥
IsNumbered (Settle id) = ⊥
IsNumbered (Part from ship id moves at part) = ⊥

-- each act is done now, in its turn
abbrev pub AreFresh : StoreState → List Act → Type 0
AreFresh state [] = Unit {0}
AreFresh state (act ∷ acts) = IsTrue (act_done state act).done.fresh × AreFresh (act_done state act).state acts

-- a record that can note each host's numbers, and in which no fileset has an id that the server has yet to give
pub record KeepsNumbers (state : StoreState) : Type 0 where
  pub limits : KeepsLimits state
  pub hosts : length state.roster.hosts ≤ HOSTS_MAX
  pub given : (slot : ℕ) (holding : Holding) → held_at state.slots slot ≡ Some holding
      → holding.fileset.id.0 / 65536 ≡ state.server.0 → holding.fileset.id.0 % 65536 < state.next

-- acts that such a store does one after the other, each under its number for the first time
pub record AreNew (state : StoreState) (acts : List Act) : Type 0 where
  pub keeps : KeepsNumbers state
  pub sound : Each (IsAct state.roster state.server) acts
  pub numbered : Each IsNumbered acts
  pub fresh : AreFresh state acts

-- where some of them were done, all of them leave what they leave where none was
abbrev pub AgainChangesNothing : Type 0
AgainChangesNothing = (state : StoreState) (acts : List Act) → AreNew state acts → (k : ℕ)
    → state_after (state_after state (take k acts)) acts ≡ state_after state acts

-- and the first of them leave what the longer of both beginnings leaves
abbrev pub AgainAddsNothing : Type 0
AgainAddsNothing = (state : StoreState) (acts : List Act) → AreNew state acts → (k j : ℕ)
    → state_after (state_after state (take k acts)) (take j acts) ≡ state_after state (take (max k j) acts)

-- a new store has a record that keeps numbers, and such acts leave one
pub record NumbersAreKept : Type 0 where
  pub new : (server : ServerId) (capacity : ℕ) (roster : Roster) → length roster.hosts ≤ HOSTS_MAX
      → KeepsNumbers (new_state server capacity roster)
  pub after : (state : StoreState) (acts : List Act) → AreNew state acts → KeepsNumbers (state_after state acts)

-- acts that may be given once more where the first of them were done: all of them still fit, and leave what they leave
-- where none was done; and the first of them leave what the longer of both beginnings leaves
pub record IsAgain (state : StoreState) (acts : List Act) : Type 0 where
  pub fits : (k : ℕ) → AllFit (state_after state (take k acts)) acts
  pub whole : (k : ℕ) → state_after (state_after state (take k acts)) acts ≡ state_after state acts
  pub part : (k j : ℕ)
      → state_after (state_after state (take k acts)) (take j acts) ≡ state_after state (take (max k j) acts)

-- an act that changes nothing where it has just been done
abbrev pub IsRepeatable : StoreState → Act → Type 0
IsRepeatable state act = (act_done (act_done state act).state act).state ≡ (act_done state act).state

-- an act by which a fileset goes from a server to another one, or by which that is undone
abbrev pub IsOfMove : Act → Type 0
IsOfMove (Leave id to) = Unit {0}
IsOfMove (Left id) = Unit {0}
IsOfMove (Settle id) = Unit {0}
IsOfMove (Part from ship id moves at part) = Unit {0}
IsOfMove Boot = ⊥
IsOfMove Epoch = ⊥
IsOfMove (Host host known) = ⊥
IsOfMove (Do host number call) = ⊥
IsOfMove (Refuse host id number refusal) = ⊥
IsOfMove (Give host number fid pieces given) = ⊥
IsOfMove (Back host number id refusal) = ⊥

-- no two slots hold one fileset
abbrev pub AreApart : StoreState → Type 0
AreApart state = (s t : ℕ) (a b : Holding) → s ≢ t → held_at state.slots s ≡ Some a → held_at state.slots t ≡ Some b
    → a.fileset.id ≢ b.fileset.id

-- in such a store, acts of moves change nothing where they have just been done
abbrev pub MovesAreRepeatable : Type 0
MovesAreRepeatable = (state : StoreState) (act : Act) → AreApart state → IsOfMove act → IsRepeatable state act
