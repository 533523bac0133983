-- The fileset of a name, in what a server keeps and in its store.
use Rattle.std.proofs.Common.{Err, List, None, Ok, Option, Some, [], ap, false, nat_le, refl, sym, ℕ}
use Rattle.std.proofs.Common.{◌==◌, ◌∙◌, ◌≡◌}
use Rattle.std.specs.List.{find}
use Rattle.std.specs.Option.{option_map}
use Rattle.std.specs.Prelude.{slice_get}
use Rattle.base_types.specs.declared.ids.HostId.{HostId}
use Rattle.base_types.specs.declared.ids.ServerId.{ServerId}
use Rattle.base_types.specs.declared.limits.TheConstants.{LABELS_MAX}
use Rattle.base_types.specs.declared.user.User.{User}
use Rattle.tree_calls.specs.Rosters.{user_of}
use Rattle.tree_calls.specs.declared.call.Call.{Call}
use Rattle.tree_calls.specs.declared.call.Call.TheVariants.{Lock, OpenFile, Stat}
use Rattle.tree_calls.specs.declared.place.Place.{Place}
use Rattle.tree_calls.specs.declared.reply.Refusal.TheVariants.{NoFileset}
use Rattle.tree_calls.specs.declared.reply.Reply.TheVariants.{Refused}
use Rattle.tree_filesets.specs.WellFormed.{IsWellFormed as IsWellFormedFileset}
use Rattle.tree_filesets.specs.declared.fileset.Fileset.{Fileset}
use Rattle.tree_answers.specs.Answers.{answer_for, answer_to}
use Rattle.tree_answers.specs.Finding.{fileset_named, fileset_place, found_or, has_id, leads_to}
use Rattle.tree_answers.specs.Locks.{has_lock, lock_count}
use Rattle.tree_answers.specs.Opens.{has_open, open_count}
use Rattle.tree_answers.specs.declared.tree.Tree.{Tree}
use Rattle.tree_answers.proofs.Places.{found_by_id}
use Rattle.need_host.specs.Questions.{fileset_of}
use Rattle.need_laws.proofs.Rows.{IsPlaced, placed}
use Rattle.need_laws.proofs.Rows.IsPlaced.{Nowhere as NotThere, There as IsThere}
use Rattle.store_state.specs.Rows.{found_named}
use Rattle.store_state.specs.declared.state.Holding.{Holding}
use Rattle.store_state.specs.declared.state.StoreState.{StoreState}
use Rattle.run_history.proofs.Refusing.{for_its, nowhere, somewhere}
use Rattle.run_history.specs.Meant.{LabelIsFree}
use Rattle.run_stores.proofs.Elsewhere.{others_are_refused}
use Rattle.run_stores.proofs.Replies.{Sought, sought}
use Rattle.run_stores.proofs.Replies.Sought.{Here, Nowhere}
use Rattle.run_stores.proofs.Tells.{formed_found}
use Rattle.run_stores.specs.Keeping.{IsOf, StandsFor}

-- A name is of a fileset of the server, in both, or of none.
pub data Named (tree : Tree) (state : StoreState) (name : List ℕ) : Type 0 where
  There : (i : ℕ) (fileset : Fileset) → fileset_place tree state.server name ≡ Ok i
      → slice_get tree.filesets i ≡ Some fileset → fileset_named tree state.server name ≡ Ok fileset
      → found_named state name ≡ Some fileset.id → find (has_id fileset.id) tree.filesets ≡ Some fileset
      → fileset.server ≡ state.server → IsWellFormedFileset fileset → Named tree state name
  Gone : fileset_place tree state.server name ≡ Err NoFileset → fileset_named tree state.server name ≡ Err NoFileset
      → found_named state name ≡ None → Named tree state name

pub named : (tree : Tree) (state : StoreState) (name : List ℕ) → StandsFor tree state → Named tree state name
unfolding fileset_place fileset_named
named tree state name s = by (sought tree state name s)
  where
    by : Sought tree state name → Named tree state name
    by (Here place fileset holding at there led own held same) =
        let known = found_by_id (leads_to tree state.server name) tree.filesets fileset led s.formed.ordered in
        There place fileset (ap (λ o. found_or o NoFileset) at) there (ap (λ o. found_or o NoFileset) led)
        (ap (option_map (λ (h : Holding). h.fileset.id)) held ∙ ap (λ (f : Fileset). Some f.id) same) known own
        (formed_found tree state fileset.id fileset s known)
    by (Nowhere at led held gone) =
        Gone (ap (λ o. found_or o NoFileset) at) (ap (λ o. found_or o NoFileset) led)
        (ap (option_map (λ (h : Holding). h.fileset.id)) held)

named_of : (tree : Tree) (server : ServerId) (name : List ℕ) (o : Option Fileset)
    → find (leads_to tree server name) tree.filesets ≡ o → fileset_named tree server name ≡ found_or o NoFileset
unfolding fileset_named
named_of tree server name o e = ap (λ (x : Option Fileset). found_or x NoFileset) e

-- another server has none
pub elsewhere : (server other : ServerId) (tree : Tree) (host : HostId) (user : User) (name : List ℕ) → IsOf server tree
    → (other.0 == server.0) ≡ false → user_of tree.roster host ≡ Some user
    → (fileset_place tree other name ≡ Err NoFileset) × (fileset_named tree other name ≡ Err NoFileset)
elsewhere server other tree host user name o apart known = by (placed tree other name)
  where
    there : Place
    there = record { server = other; fileset = name; path = [] }

    refused : (answer_for tree host (Stat there) user).reply ≡ Refused NoFileset
    refused = sym (for_its tree host (Stat there) user known)
        ∙ others_are_refused server other tree host user (Stat there) o refl apart known

    by : IsPlaced tree other name
        → (fileset_place tree other name ≡ Err NoFileset) × (fileset_named tree other name ≡ Err NoFileset)
    by (NotThere e n) = (e, named_of tree other name None n)
    by (IsThere i fileset e at g n) =
        absurd (somewhere tree host user other name i fileset e g (named_of tree other name (Some fileset) n)
        (Stat there) refl refused)

-- with nothing in use each label is free
pub labels_free : (tree : Tree) (host : HostId) (call : Call) → tree.locks ≡ [] → tree.opens ≡ []
    → LabelIsFree tree host call
labels_free tree host (Lock label place writing from len) locks opens =
    (ap (λ l. has_lock l host label) locks, ap (λ l. nat_le LABELS_MAX (lock_count l host)) locks)
labels_free tree host (OpenFile label place kind) locks opens =
    (ap (λ l. has_open l host label) opens, ap (λ l. nat_le LABELS_MAX (open_count l host)) opens)
labels_free tree host _ locks opens = tt

-- A call is refused with NoFileset just where the fileset that it names isn't there.
pub none_named : (tree : Tree) (host : HostId) (user : User) (call : Call) (server : ServerId) (name : List ℕ)
    → tree.locks ≡ [] → tree.opens ≡ [] → user_of tree.roster host ≡ Some user
    → fileset_of call ≡ Some (server, name) → fileset_place tree server name ≡ Err NoFileset
    → fileset_named tree server name ≡ Err NoFileset → (answer_to tree host call).reply ≡ Refused NoFileset
none_named tree host user call server name locks opens known of place_none name_none =
    for_its tree host call user known
    ∙ nowhere tree host user server name place_none name_none call of (labels_free tree host call locks opens)

pub some_named : (tree : Tree) (host : HostId) (user : User) (call : Call) (server : ServerId) (name : List ℕ) (i : ℕ)
    (fileset : Fileset) → user_of tree.roster host ≡ Some user → fileset_of call ≡ Some (server, name)
    → fileset_place tree server name ≡ Ok i → slice_get tree.filesets i ≡ Some fileset
    → fileset_named tree server name ≡ Ok fileset → (answer_to tree host call).reply ≡ Refused NoFileset → ⊥
some_named tree host user call server name i fileset known of place_is there name_is said =
    somewhere tree host user server name i fileset place_is there name_is call of
    (sym (for_its tree host call user known) ∙ said)
