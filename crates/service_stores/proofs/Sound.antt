-- The acts that a history gives to a store.
use Rattle.store_laws.proofs.Rooms.{same_server}
use Rattle.std.proofs.Common.{◌≡◌, ◌≤◌, ℕ, ◌==◌, Bool, true, false, List, [], ◌∷◌, ◌++◌, length, Option, Some, None, refl, sym, ap, subst, arith}
use Rattle.std.specs.Prelude.{is_some}
use Rattle.std.proofs.lemmas.List.{length-append}
use Rattle.base_types.specs.declared.ids.HostId.{HostId}
use Rattle.base_types.specs.declared.ids.ServerId.{ServerId}
use Rattle.tree_calls.specs.declared.call.Call.{Call}
use Rattle.tree_calls.specs.declared.call.Call.TheVariants.{
  NewFileset,
  Create,
  MakeDir,
  Remove,
  Rename,
  Truncate,
  SetAcl,
  CloneFileset,
  Read,
  Write,
  List as ListNames,
  Stat,
  GetAcl,
  Sync,
  Lock,
  Unlock,
  OpenFile,
  CloseFile,
  MoveFileset,
}
use Rattle.tree_calls.specs.declared.entry.Entry.{Entry}
use Rattle.tree_calls.specs.declared.entry.Entry.TheVariants.{Call as Called, Stored, Down, Left}
use Rattle.tree_calls.specs.declared.reply.Reply.{Reply}
use Rattle.tree_calls.specs.declared.reply.Reply.TheVariants.{Ok as Accepted, Bytes, Names, Facts, Access, Refused}
use Rattle.tree_calls.specs.declared.roster.Roster.{Roster}
use Rattle.tree_answers.specs.declared.tree.Tree.{Tree}
use Rattle.tree_answers.specs.Histories.{after_entry}
use Rattle.tree_answers.specs.Stores.{content_at}
use Rattle.store_laws.specs.Acts.{act_if, acts_of, call_acts, entry_acts, is_decided_at, number_written}
use Rattle.store_laws.specs.HistoryLaws.{IsGiven}
use Rattle.store_laws.proofs.Writes.{pieces_fit}
use Rattle.message_types.specs.Soundness.{Each, IsCall, IsHost}
use Rattle.store_acts.specs.Sound.{IsAct, IsDecided, IsFor}
use Rattle.store_acts.specs.declared.act.Act.{Act}
use Rattle.store_acts.specs.declared.act.Act.TheVariants.{Do, Give}
use Rattle.service_moves.specs.Again.{IsNumbered}
use Rattle.store_laws.specs.KeptGives.{pieces_in}
use Rattle.store_laws.specs.TreeKeeping.{fileset_at}
use Rattle.store_laws.proofs.Keys.{equal_keys}

-- the act for a call, if there is one
pub record HasAct (server : ServerId) (tree : Tree) (host : HostId) (k : ℕ) (call : Call) : Type 0 where
  pub here : Bool
  pub acts : call_acts server tree host k call ≡ act_if here (Do host k call)
  pub decided : here ≡ true → IsDecided call
  pub own : here ≡ true → IsFor server call

none_of : (server : ServerId) (tree : Tree) (host : HostId) (k : ℕ) (call : Call) →
    call_acts server tree host k call ≡ [] → HasAct server tree host k call
none_of server tree host k call e =
    record { here = false; acts = e; decided = λ h. absurd (cc); own = λ h. absurd (cc) }

has_act : (server : ServerId) (tree : Tree) (host : HostId) (k : ℕ) (call : Call) → HasAct server tree host k call
has_act server tree host k (NewFileset at name objects owner) =
    record { here = at.0 == server.0; acts = refl; decided = λ h. tt; own = λ h. same_server at server h }
has_act server tree host k (CloneFileset at source new) =
    record { here = at.0 == server.0; acts = refl; decided = λ h. tt; own = λ h. tt }
has_act server tree host k (Create place) =
    record { here = is_decided_at server tree (Create place); acts = refl; decided = λ h. tt; own = λ h. tt }
has_act server tree host k (MakeDir place) =
    record { here = is_decided_at server tree (MakeDir place); acts = refl; decided = λ h. tt; own = λ h. tt }
has_act server tree host k (Remove place) =
    record { here = is_decided_at server tree (Remove place); acts = refl; decided = λ h. tt; own = λ h. tt }
has_act server tree host k (Rename from to) =
    record { here = is_decided_at server tree (Rename from to); acts = refl; decided = λ h. tt; own = λ h. tt }
has_act server tree host k (Truncate place len) =
    record { here = is_decided_at server tree (Truncate place len); acts = refl; decided = λ h. tt; own = λ h. tt }
has_act server tree host k (SetAcl place which list) =
    record { here = is_decided_at server tree (SetAcl place which list); acts = refl; decided = λ h. tt; own = λ h. tt }
has_act server tree host k (Read place from len) = none_of server tree host k (Read place from len) refl
has_act server tree host k (Write place from bytes) = none_of server tree host k (Write place from bytes) refl
has_act server tree host k (ListNames place) = none_of server tree host k (ListNames place) refl
has_act server tree host k (Stat place) = none_of server tree host k (Stat place) refl
has_act server tree host k (GetAcl place which) = none_of server tree host k (GetAcl place which) refl
has_act server tree host k (Sync place) = none_of server tree host k (Sync place) refl
has_act server tree host k (Lock label place writing from len) =
    none_of server tree host k (Lock label place writing from len) refl
has_act server tree host k (Unlock label) = none_of server tree host k (Unlock label) refl
has_act server tree host k (OpenFile label place kind) =
    none_of server tree host k (OpenFile label place kind) refl
has_act server tree host k (CloseFile label) = none_of server tree host k (CloseFile label) refl
has_act server tree host k (MoveFileset at name to) = none_of server tree host k (MoveFileset at name to) refl

-- what holds of each act
if_each : (P : Act → Type 0) (b : Bool) (act : Act) → (b ≡ true → P act) → Each P (act_if b act)
if_each P true act h = (h refl, tt)
if_each P false act h = tt

each_append : (P : Act → Type 0) (xs ys : List Act) → Each P xs → Each P ys → Each P (xs ++ ys)
each_append P [] ys h k = k
each_append P (x ∷ xs) ys h k = (h.0, each_append P xs ys h.1 k)

-- a store may be given each
call_given : (roster : Roster) (server : ServerId) (tree : Tree) (host : HostId) (k : ℕ) (call : Call) →
    IsHost roster host → IsCall roster call → Each (IsAct roster server) (call_acts server tree host k call)
call_given roster server tree host k call h c =
    let a = has_act server tree host k call in
    subst (Each (IsAct roster server)) (sym a.acts)
    (if_each (IsAct roster server) a.here (Do host k call) (λ e. (h, a.decided e, a.own e, c)))

entry_given : (roster : Roster) (server : ServerId) (tree : Tree) (number : Option ℕ) (entry : Entry) →
    IsGiven roster entry → Each (IsAct roster server) (entry_acts server tree number entry)
entry_given roster server tree number (Called host k call Accepted) g =
    call_given roster server tree host k call g.0 g.1
entry_given roster server tree number (Called host k call (Bytes bytes)) g = tt
entry_given roster server tree number (Called host k call (Names names)) g = tt
entry_given roster server tree number (Called host k call (Facts facts)) g = tt
entry_given roster server tree number (Called host k call (Access list)) g = tt
entry_given roster server tree number (Called host k call (Refused refusal)) g = tt
entry_given roster server tree None (Stored host fid spans len) g = tt
entry_given roster server tree (Some k) (Stored host fid spans len) g =
    if_each (IsAct roster server) (is_some (fileset_at tree server fid.fileset))
    (Give host k fid (pieces_in (content_at tree fid) spans) len)
    (λ e. (g.0, pieces_fit (content_at tree fid) spans g.1, g.2))
entry_given roster server tree None (Down host at) g = tt
entry_given roster server tree (Some k) (Down host at) g = tt
entry_given roster server tree None (Left at id) g = tt
entry_given roster server tree (Some k) (Left at id) g = tt

pub acts_given : (roster : Roster) (server : ServerId) (history : List Entry) (tree : Tree) (number : Option ℕ) →
    Each (IsGiven roster) history → Each (IsAct roster server) (acts_of server tree number history)
acts_given roster server [] tree number g = tt
acts_given roster server (entry ∷ entries) tree number g =
    each_append (IsAct roster server) (entry_acts server tree number entry)
    (acts_of server (after_entry tree entry) (number_written entry) entries)
    (entry_given roster server tree number entry g.0)
    (acts_given roster server entries (after_entry tree entry) (number_written entry) g.1)

-- each has a number of a host on a fileset
entry_numbered : (server : ServerId) (tree : Tree) (number : Option ℕ) (entry : Entry) →
    Each IsNumbered (entry_acts server tree number entry)
entry_numbered server tree number (Called host k call Accepted) =
    let a = has_act server tree host k call in
    subst (Each IsNumbered) (sym a.acts) (if_each IsNumbered a.here (Do host k call) (λ e. tt))
entry_numbered server tree number (Called host k call (Bytes bytes)) = tt
entry_numbered server tree number (Called host k call (Names names)) = tt
entry_numbered server tree number (Called host k call (Facts facts)) = tt
entry_numbered server tree number (Called host k call (Access list)) = tt
entry_numbered server tree number (Called host k call (Refused refusal)) = tt
entry_numbered server tree None (Stored host fid spans len) = tt
entry_numbered server tree (Some k) (Stored host fid spans len) =
    if_each IsNumbered (is_some (fileset_at tree server fid.fileset))
    (Give host k fid (pieces_in (content_at tree fid) spans) len) (λ e. tt)
entry_numbered server tree None (Down host at) = tt
entry_numbered server tree (Some k) (Down host at) = tt
entry_numbered server tree None (Left at id) = tt
entry_numbered server tree (Some k) (Left at id) = tt

pub acts_numbered : (server : ServerId) (history : List Entry) (tree : Tree) (number : Option ℕ) →
    Each IsNumbered (acts_of server tree number history)
acts_numbered server [] tree number = tt
acts_numbered server (entry ∷ entries) tree number =
    each_append IsNumbered (entry_acts server tree number entry)
    (acts_of server (after_entry tree entry) (number_written entry) entries)
    (entry_numbered server tree number entry)
    (acts_numbered server entries (after_entry tree entry) (number_written entry))

-- there are no more of them than entries
if_few : (b : Bool) (act : Act) → length (act_if b act) ≤ 1
if_few true act = omega arith
if_few false act = omega arith

entry_few : (server : ServerId) (tree : Tree) (number : Option ℕ) (entry : Entry) →
    length (entry_acts server tree number entry) ≤ 1
entry_few server tree number (Called host k call Accepted) =
    let a = has_act server tree host k call in
    subst (λ (acts : List Act). length acts ≤ 1) (sym a.acts) (if_few a.here (Do host k call))
entry_few server tree number (Called host k call (Bytes bytes)) = omega arith
entry_few server tree number (Called host k call (Names names)) = omega arith
entry_few server tree number (Called host k call (Facts facts)) = omega arith
entry_few server tree number (Called host k call (Access list)) = omega arith
entry_few server tree number (Called host k call (Refused refusal)) = omega arith
entry_few server tree None (Stored host fid spans len) = omega arith
entry_few server tree (Some k) (Stored host fid spans len) =
    if_few (is_some (fileset_at tree server fid.fileset))
    (Give host k fid (pieces_in (content_at tree fid) spans) len)
entry_few server tree None (Down host at) = omega arith
entry_few server tree (Some k) (Down host at) = omega arith
entry_few server tree None (Left at id) = omega arith
entry_few server tree (Some k) (Left at id) = omega arith

pub acts_few : (server : ServerId) (history : List Entry) (tree : Tree) (number : Option ℕ) →
    length (acts_of server tree number history) ≤ length history
acts_few server [] tree number = omega arith
acts_few server (entry ∷ entries) tree number =
    let one = entry_few server tree number entry in
    let more = acts_few server entries (after_entry tree entry) (number_written entry) in
    let sum = length-append (entry_acts server tree number entry)
    (acts_of server (after_entry tree entry) (number_written entry) entries) in
    omega (arith, one, more, sum)

-- no other reply than that it was accepted gives one
pub none_acted : (server : ServerId) (tree : Tree) (number : Option ℕ) (host : HostId) (k : ℕ) (call : Call)
    (reply : Reply) → (reply ≡ Accepted → ⊥) → entry_acts server tree number (Called host k call reply) ≡ []
none_acted server tree number host k call Accepted n = absurd (n refl)
none_acted server tree number host k call (Bytes bytes) n = refl
none_acted server tree number host k call (Names names) n = refl
none_acted server tree number host k call (Facts facts) n = refl
none_acted server tree number host k call (Access list) n = refl
none_acted server tree number host k call (Refused refusal) n = refl
