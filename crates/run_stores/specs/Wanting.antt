-- What is wanted for a Change, read from what a store tells.
use Rattle.std.specs.Prelude.{Bool, List, [], length, take, true, false, ◌+◌, ◌++◌, ◌-◌, ◌∷◌, ◌≡◌}
use Rattle.std.specs.Prelude.{◌⊎◌, ℕ, filter, not, flat_map, Some, if◌then◌else◌}
use Rattle.base_types.specs.declared.ids.Fid.{Fid}
use Rattle.base_types.specs.declared.ids.FilesetId.{FilesetId}
use Rattle.base_types.specs.declared.ids.ServerId.{ServerId}
use Rattle.base_types.specs.declared.user.User.{User}
use Rattle.tree_calls.specs.declared.call.Call.{Call}
use Rattle.tree_calls.specs.declared.call.Call.TheVariants.{
  CloneFileset,
  Create,
  Lock,
  MakeDir,
  OpenFile,
  Remove,
  Rename,
  SetAcl,
  Truncate,
}
use Rattle.tree_calls.specs.declared.place.Place.{Place}
use Rattle.tree_answers.specs.declared.tree.Tree.{Tree}
use Rattle.tree_objects.specs.Spans.{span_between}
use Rattle.token_types.specs.declared.token.Kind.TheVariants.{Lock as LockKind, Opening, Status}
use Rattle.token_types.specs.declared.token.Need.{Need}
use Rattle.need_laws.specs.Known.{IsAt}
use Rattle.need_server.specs.Wants.{all_of, every_use_of, want}
use Rattle.store_memory.specs.Reading.{looked_up, files_of as objects_told}
use Rattle.store_memory.specs.declared.told.Looked.{Looked}
use Rattle.store_memory.specs.declared.told.Looked.TheVariants.{Found, Refused}
use Rattle.store_state.specs.declared.state.StoreState.{StoreState}
use Rattle.base_types.specs.declared.ids.HostId.{HostId}
use Rattle.tree_calls.specs.Rosters.{user_of}
use Rattle.store_state.specs.Rows.{answer_to as store_answer}
use Rattle.run_rules.specs.Kept.{is_refusal}
use Rattle.run_stores.specs.Keeping.{StandsFor}
use Rattle.run_stores.specs.Telling.{is_dir_told}

-- the place of the directory in which a place has its last name
abbrev pub directory_of : Place → Place
directory_of place = record place { path = take (length place.path - 1) place.path }

-- what is wanted of an object that was looked up
abbrev pub wanted_of : Looked → (Fid → List Need) → List Need
wanted_of (Found fid) needs = needs fid
wanted_of (Refused refusal) needs = []

abbrev pub all_and_uses_of : Fid → List Need
all_and_uses_of fid = all_of true fid ++ every_use_of fid

-- the one need of an object
abbrev pub status_of : Fid → List Need
status_of fid = record { fid = fid; kind = Status true } ∷ []

-- what is wanted where places are looked up in this way
abbrev pub want_by : (Place → Looked) → Call → List Need
want_by look (Create place) = wanted_of (look (directory_of place)) (all_of true)
want_by look (MakeDir place) = wanted_of (look (directory_of place)) (all_of true)
want_by look (Remove place) =
    wanted_of (look (directory_of place)) (all_of true) ++ wanted_of (look place) all_and_uses_of
want_by look (Rename from to) =
    wanted_of (look (directory_of from)) (all_of true) ++ wanted_of (look (directory_of to)) (all_of true)
want_by look (Truncate place len) = wanted_of (look place) (all_of true)
want_by look (SetAcl place which list) = wanted_of (look place) status_of
want_by look (Lock label place writing from len) =
    wanted_of (look place) (λ fid. record { fid = fid; kind = LockKind writing (span_between from (from + len)) } ∷ [])
want_by look (OpenFile label place kind) =
    wanted_of (look place) (λ fid. record { fid = fid; kind = Opening kind } ∷ [])
want_by look call = []

-- whether a call is a clone, whose want is of all files of its source
abbrev pub is_clone : Call → Bool
is_clone (CloneFileset server source new) = true
is_clone call = false

-- the files of a fileset, as its objects are told
abbrev pub files_told : StoreState → FilesetId → List Fid
files_told state id = filter (λ fid. not (is_dir_told state fid)) (objects_told state id)

-- the root of a fileset
abbrev pub root_of : ServerId → List ℕ → Place
root_of server name = record { server = server; fileset = name; path = [] }

-- What is wanted for a call on the server's filesets, of a user who is known, is what the places of the call lead to in
-- the store, and nothing where the store would refuse the call. Where anything is wanted for a clone, it is all files
-- of the fileset to whose root its source leads, for reading.
pub record WantsAreTold : Type 0 where
  pub calls : (tree : Tree) (state : StoreState) (host : HostId) (user : User) (call : Call)
      → StandsFor tree state → IsAt state.server call → is_clone call ≡ false
      → user_of tree.roster host ≡ Some user
      → want tree user call
      ≡ (if is_refusal (store_answer state host call).reply then [] else want_by (looked_up state user) call)
  pub clones : (tree : Tree) (state : StoreState) (user : User) (server : ServerId) (source new : List ℕ)
      → StandsFor tree state → server ≡ state.server
      → (want tree user (CloneFileset server source new) ≡ [])
      ⊎ (want tree user (CloneFileset server source new)
      ≡ wanted_of (looked_up state user (root_of server source)) (λ fid.
      flat_map (all_of false) (files_told state fid.fileset)))
