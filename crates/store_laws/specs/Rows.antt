-- A call on a fileset in a store and in a tree.
use Rattle.std.specs.Prelude.{◌≡◌, ◌<◌, ℕ, Bool, false, List, slice_get, Some, Ok}
use Rattle.std.specs.Option.{option_map}
use Rattle.base_types.specs.declared.ids.Fid.{Fid}
use Rattle.base_types.specs.declared.ids.FilesetId.{FilesetId}
use Rattle.base_types.specs.declared.ids.HostId.{HostId}
use Rattle.base_types.specs.declared.user.User.{User}
use Rattle.tree_calls.specs.Rosters.{user_of}
use Rattle.tree_calls.specs.declared.call.Call.{Call}
use Rattle.tree_filesets.specs.declared.fileset.Fileset.{Fileset}
use Rattle.tree_filesets.specs.Rows.{fileset_answer}
use Rattle.tree_answers.specs.declared.tree.Tree.{Tree}
use Rattle.tree_answers.specs.Answers.{deciding_place, answer_to as tree_answer}
use Rattle.tree_answers.specs.Uses.{is_used}
use Rattle.store_acts.specs.declared.act.Act.TheVariants.{Do}
use Rattle.store_state.specs.declared.state.Holding.{Holding}
use Rattle.store_state.specs.declared.state.StoreState.{StoreState}
use Rattle.store_acts.specs.Acts.{act_done}
use Rattle.store_state.specs.Outcomes.{decided}
use Rattle.store_state.specs.Rows.{numbered_name, nothing_used, answer_to}
use Rattle.store_acts.specs.Sound.{IsDecided}
use Rattle.store_state.specs.State.{is_gone, is_server, is_here_as, is_of, slot_so, held_at, record_of}

-- nothing of a fileset is in use
abbrev pub IsUnused : (Fid → Bool) → FilesetId → Type 0
IsUnused in_use id = (fid : Fid) → fid.fileset ≡ id → in_use fid ≡ false

-- a fileset of which nothing is in use answers as if nothing were in use at all
abbrev pub UnusedAnswersAlike : Type 0
UnusedAnswersAlike =
    (fileset : Fileset) (in_use : Fid → Bool) (host : HostId) (user : User) (call : Call) → IsUnused in_use fileset.id →
    fileset_answer fileset in_use host user call ≡ fileset_answer fileset nothing_used host user call

-- A tree and a store have the same fileset for a call: both find it, and nothing of it is in use.
pub record HaveSame (tree : Tree) (state : StoreState) (host : HostId) (call : Call) (place : ℕ) (name : List ℕ)
    (holding : Holding) : Type 0 where
  pub user : user_of state.roster host ≡ user_of tree.roster host
  pub decides : deciding_place tree call ≡ Ok place
  pub there : slice_get tree.filesets place ≡ Some holding.fileset
  pub named : numbered_name call ≡ Some name
  pub held : held_at state.slots (slot_so (is_here_as name) state.slots) ≡ Some holding
  pub once : slot_so (is_of holding.fileset.id) state.slots ≡ slot_so (is_here_as name) state.slots
  pub unused : IsUnused (is_used tree.locks tree.opens) holding.fileset.id

-- the number of a change is new to a fileset
abbrev pub IsNew : Holding → HostId → ℕ → Type 0
IsNew holding host number =
    (is_gone holding.stay ≡ false) × (is_server holding.fileset.id ≡ false)
    × ((record_of holding.records host).change < number)

-- What the store answers then: the tree's reply, and the tree's fileset.
pub record AnswersAsTree (tree : Tree) (state : StoreState) (host : HostId) (call : Call) (place : ℕ) (name : List ℕ) :
    Type 0 where
  pub reply : (answer_to state host call).reply ≡ (tree_answer tree host call).reply
  pub fileset : option_map (λ holding. holding.fileset)
      (held_at (answer_to state host call).state.slots (slot_so (is_here_as name) state.slots))
      ≡ slice_get (tree_answer tree host call).tree.filesets place

-- each call on a fileset is answered so; and it is done so, under a number that is new
pub record StoresAnswerAsTrees : Type 0 where
  pub answers : (tree : Tree) (state : StoreState) (host : HostId) (call : Call) (place : ℕ) (name : List ℕ)
      (holding : Holding) →
      HaveSame tree state host call place name holding → IsDecided call → AnswersAsTree tree state host call place name
  pub done : (tree : Tree) (state : StoreState) (host : HostId) (number : ℕ) (call : Call) (place : ℕ)
      (name : List ℕ) (holding : Holding) →
      HaveSame tree state host call place name holding → IsNew holding host number →
      act_done state (Do host number call) ≡ decided holding.fileset.id host number (answer_to state host call)
