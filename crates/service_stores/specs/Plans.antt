-- The steps of a run, in the order in which the stores of servers do them.
use Rattle.std.specs.Prelude.{
  ◌≡◌,
  ⊤,
  ◌<◌,
  ◌≤◌,
  ◌+◌,
  ℕ,
  Bool,
  true,
  false,
  List,
  ◌∷◌,
  ◌++◌,
  length,
  filter,
  take,
  Option,
  None,
  Result,
  OnOk,
}
use Rattle.base_types.specs.declared.ids.FilesetId.{FilesetId}
use Rattle.base_types.specs.declared.ids.HostId.{HostId}
use Rattle.base_types.specs.declared.ids.ServerId.{ServerId}
use Rattle.tree_calls.specs.declared.entry.Entry.{Entry}
use Rattle.tree_calls.specs.declared.entry.Entry.TheVariants.{Left as LeftEntry}
use Rattle.tree_answers.specs.declared.tree.Tree.{Tree}
use Rattle.store_acts.specs.declared.act.Act.{Act}
use Rattle.store_acts.specs.declared.act.Act.TheVariants.{
  Boot,
  Epoch,
  Host,
  Do,
  Refuse,
  Give,
  Leave,
  Back,
  Left,
  Settle,
  Part,
}
use Rattle.store_laws.specs.Acts.{acts_of}
use Rattle.store_laws.specs.MovedLaws.{move_entry}
use Rattle.store_memory.specs.Views.{View}
use Rattle.store_state.specs.declared.state.StoreState.{StoreState}
use Rattle.service_moves.specs.Doing.{Step, DoSteps, acts_at}
use Rattle.service_moves.specs.Plans.{states_at, AreMoves}

-- an act with which a store begins a run: what an earlier run left of a move is settled, or the server begins the run
abbrev pub IsBeginning : Act → Type 0
IsBeginning Boot = ⊤
IsBeginning (Settle id) = ⊤
IsBeginning Epoch = ⊥
IsBeginning (Host host known) = ⊥
IsBeginning (Do host number call) = ⊥
IsBeginning (Refuse host id number refusal) = ⊥
IsBeginning (Give host number fid pieces given) = ⊥
IsBeginning (Leave id to) = ⊥
IsBeginning (Back host number id refusal) = ⊥
IsBeginning (Left id) = ⊥
IsBeginning (Part from ship id moves at part) = ⊥

-- The steps in which stores that keep this begin a run. Beside these acts, what was leaving one goes over whole.
abbrev pub AreBeginning : (ℕ → Option StoreState) → List Step → Type 0
AreBeginning states steps = AreMoves IsBeginning states steps

-- A history moves a fileset to a server: a host's call does, and directly behind it the server that it left learns that
-- it has arrived.
pub record IsMovedIn (history : List Entry) (id : FilesetId) (to : ServerId) : Type 0 where
  pub before : List Entry
  pub behind : List Entry
  pub host : HostId
  pub k : ℕ
  pub server : ServerId
  pub name : List ℕ
  pub from : ServerId
  pub is : history ≡ before ++ move_entry host k server name to ∷ LeftEntry from id ∷ behind

-- an act of a history: a call that a host asks for, or what it gives back; or a fileset that it moves begins to leave
abbrev pub IsOfHistory : List Entry → Act → Type 0
IsOfHistory history (Do host number call) = ⊤
IsOfHistory history (Refuse host id number refusal) = ⊤
IsOfHistory history (Give host number fid pieces given) = ⊤
IsOfHistory history (Leave id to) = IsMovedIn history id to
IsOfHistory history Boot = ⊥
IsOfHistory history Epoch = ⊥
IsOfHistory history (Host host known) = ⊥
IsOfHistory history (Back host number id refusal) = ⊥
IsOfHistory history (Left id) = ⊥
IsOfHistory history (Settle id) = ⊥
IsOfHistory history (Part from ship id moves at part) = ⊥

-- whether it is asked for, or given
abbrev pub is_asked : Act → Bool
is_asked (Do host number call) = true
is_asked (Refuse host id number refusal) = true
is_asked (Give host number fid pieces given) = true
is_asked Boot = false
is_asked Epoch = false
is_asked (Host host known) = false
is_asked (Leave id to) = false
is_asked (Back host number id refusal) = false
is_asked (Left id) = false
is_asked (Settle id) = false
is_asked (Part from ship id moves at part) = false

-- The steps in which stores that keep this keep a history from a tree on: the store of each server of its roster does
-- its acts of the history in their order. Beside these, what the history moves begins to leave, and goes over whole.
pub record AreOfHistory (start : Tree) (history : List Entry) (states : ℕ → Option StoreState) (steps : List Step) :
    Type 0 where
  pub asked : (k : ℕ) → k < length start.roster.capacity
      → filter is_asked (acts_at k steps) ≡ acts_of (record { 0 = k + 1 }) start None history
  pub moves : AreMoves (IsOfHistory history) states steps

-- Stores keep a history from a tree on, or a first part of it: all, where the answer is Ok.
pub record KeepsHistory {S T E : Type 0} (view : S → View) (result : Result T E) (start : Tree) (history : List Entry)
    (old new : List S) : Type 0 where
  pub count : ℕ
  pub within : count ≤ length history
  pub all : OnOk result (count ≡ length history)
  pub steps : List Step
  pub are : AreOfHistory start (take count history) (states_at view old) steps
  pub does : DoSteps view result steps old new
