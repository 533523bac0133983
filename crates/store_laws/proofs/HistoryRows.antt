-- Calls that one fileset decides, or that make a fileset, where they are not refused.
use Rattle.std.proofs.Common.{◌≡◌, ℕ, ◌==◌, Bool, true, false, Option, Some, None, Result, Ok, Err, refl, ap, ◌∙◌}
use Rattle.std.specs.Prelude.{slice_get}
use Rattle.base_types.specs.Outcomes.{either}
use Rattle.base_types.specs.declared.ids.Fid.{Fid}
use Rattle.base_types.specs.declared.ids.HostId.{HostId}
use Rattle.base_types.specs.declared.ids.ServerId.{ServerId}
use Rattle.base_types.specs.declared.user.User.{User}
use Rattle.tree_calls.specs.Rosters.{user_of}
use Rattle.tree_calls.specs.declared.call.Call.{Call}
use Rattle.tree_calls.specs.declared.call.Call.TheVariants.{
  NewFileset,
  Create,
  MakeDir,
  Remove,
  Rename,
  Truncate,
  SetAcl,
  CloneFileset,
  Read,
  Write,
  List as ListNames,
  Stat,
  GetAcl,
  Sync,
  Lock,
  Unlock,
  OpenFile,
  CloseFile,
  MoveFileset,
}
use Rattle.tree_calls.specs.declared.reply.Refusal.{Refusal}
use Rattle.tree_calls.specs.declared.reply.Reply.TheVariants.{Ok as Accepted}
use Rattle.tree_filesets.specs.Answers.{Answered, answered}
use Rattle.tree_filesets.specs.Changing.{write_answer, truncate_answer, set_access_answer}
use Rattle.tree_filesets.specs.Creation.{create_answer}
use Rattle.tree_filesets.specs.Removal.{remove_answer}
use Rattle.tree_filesets.specs.Renaming.{rename_answer}
use Rattle.tree_filesets.specs.Rows.{fileset_answer}
use Rattle.tree_filesets.specs.declared.fileset.Fileset.{Fileset}
use Rattle.tree_answers.specs.declared.tree.Tree.{Tree}
use Rattle.tree_answers.specs.Answers.{answer_at, answer_for, answer_to, deciding_place, fileset_row, for_user}
use Rattle.tree_answers.specs.Finding.{Answer, refuse}
use Rattle.tree_answers.specs.Founding.{clone_answer, clone_target, new_fileset_answer, new_fileset_target}
use Rattle.tree_answers.specs.Uses.{is_used}
use Rattle.store_acts.specs.Sound.{IsDecided, IsFor}
use Rattle.store_acts.specs.declared.act.Act.TheVariants.{Do}
use Rattle.store_laws.specs.Calls.{IsDecidedBy, made_at}
use Rattle.store_laws.specs.Idle.{is_refused}
use Rattle.store_laws.specs.Acts.{act_if, call_acts, is_decided_at}

-- whether a call changes one fileset
abbrev pub is_row : Call → Bool
is_row (Create place) = true
is_row (MakeDir place) = true
is_row (Remove place) = true
is_row (Rename from to) = true
is_row (Truncate place len) = true
is_row (SetAcl place which list) = true
is_row (Write place from bytes) = true
is_row (NewFileset server name objects owner) = false
is_row (CloneFileset server source new) = false
is_row (MoveFileset server name to) = false
is_row (Lock label place writing from len) = false
is_row (Unlock label) = false
is_row (OpenFile label place kind) = false
is_row (CloseFile label) = false
is_row (Read place from len) = false
is_row (ListNames place) = false
is_row (Stat place) = false
is_row (GetAcl place which) = false
is_row (Sync place) = false

-- of what is answered
plain : {A : Type 0} (fileset : Fileset) (checked : Result A Refusal) (effect : A → Fileset) →
    is_refused (answered fileset checked effect).reply ≡ false → (answered fileset checked effect).reply ≡ Accepted
plain fileset (Ok a) effect h = refl
plain fileset (Err e) effect h = absurd (cc)

row_plain : (fileset : Fileset) (in_use : Fid → Bool) (host : HostId) (user : User) (call : Call) → is_row call ≡ true →
    is_refused (fileset_answer fileset in_use host user call).reply ≡ false →
    (fileset_answer fileset in_use host user call).reply ≡ Accepted
unfolding fileset_answer create_answer remove_answer rename_answer truncate_answer set_access_answer write_answer
row_plain fileset in_use host user (Create place) r h = plain fileset _ _ h
row_plain fileset in_use host user (MakeDir place) r h = plain fileset _ _ h
row_plain fileset in_use host user (Remove place) r h = plain fileset _ _ h
row_plain fileset in_use host user (Rename from to) r h = plain fileset _ _ h
row_plain fileset in_use host user (Truncate place len) r h = plain fileset _ _ h
row_plain fileset in_use host user (SetAcl place which list) r h = plain fileset _ _ h
row_plain fileset in_use host user (Write place from bytes) r h = plain fileset _ _ h
row_plain fileset in_use host user (NewFileset server name objects owner) r h = absurd (cc)
row_plain fileset in_use host user (CloneFileset server source new) r h = absurd (cc)
row_plain fileset in_use host user (MoveFileset server name to) r h = absurd (cc)
row_plain fileset in_use host user (Lock label place writing from len) r h = absurd (cc)
row_plain fileset in_use host user (Unlock label) r h = absurd (cc)
row_plain fileset in_use host user (OpenFile label place kind) r h = absurd (cc)
row_plain fileset in_use host user (CloseFile label) r h = absurd (cc)
row_plain fileset in_use host user (Read place from len) r h = absurd (cc)
row_plain fileset in_use host user (ListNames place) r h = absurd (cc)
row_plain fileset in_use host user (Stat place) r h = absurd (cc)
row_plain fileset in_use host user (GetAcl place which) r h = absurd (cc)
row_plain fileset in_use host user (Sync place) r h = absurd (cc)

-- a call that one fileset decides, and that is accepted
pub record IsRow (tree : Tree) (call : Call) (answer : Answer) : Type 0 where
  pub fileset : Fileset
  pub by : IsDecidedBy tree call fileset
  pub accepted : answer.reply ≡ Accepted

row_in : (tree : Tree) (host : HostId) (user : User) (call : Call) → is_row call ≡ true →
    is_refused (fileset_row tree host user call).reply ≡ false → IsRow tree call (fileset_row tree host user call)
unfolding fileset_row
row_in tree host user call r h = by (deciding_place tree call) refl h
  where
    ask : Fileset → Answered
    ask fileset = fileset_answer fileset (is_used tree.locks tree.opens) host user call

    at : (place : ℕ) → deciding_place tree call ≡ Ok place → (found : Option Fileset) →
        slice_get tree.filesets place ≡ found → is_refused (answer_at tree place found ask).reply ≡ false →
        IsRow tree call (answer_at tree place found ask)
    at place e None f h = absurd (cc)
    at place e (Some fileset) f h = record {
      fileset = fileset;
      by = record { place = place; decides = e; there = f };
      accepted = row_plain fileset (is_used tree.locks tree.opens) host user call r h;
    }

    by : (found : Result ℕ Refusal) → deciding_place tree call ≡ found →
        is_refused (either found (λ place. answer_at tree place (slice_get tree.filesets place) ask) (refuse tree)).reply
        ≡ false →
        IsRow tree call (either found (λ place. answer_at tree place (slice_get tree.filesets place) ask) (refuse tree))
    by (Ok place) e h = at place e (slice_get tree.filesets place) refl h
    by (Err refusal) e h = absurd (cc)

row_for : (tree : Tree) (host : HostId) (user : User) (call : Call) → is_row call ≡ true →
    is_refused (answer_for tree host call user).reply ≡ false → IsRow tree call (answer_for tree host call user)
unfolding answer_for
row_for tree host user (Create place) r h = row_in tree host user (Create place) r h
row_for tree host user (MakeDir place) r h = row_in tree host user (MakeDir place) r h
row_for tree host user (Remove place) r h = row_in tree host user (Remove place) r h
row_for tree host user (Rename from to) r h = row_in tree host user (Rename from to) r h
row_for tree host user (Truncate place len) r h = row_in tree host user (Truncate place len) r h
row_for tree host user (SetAcl place which list) r h = row_in tree host user (SetAcl place which list) r h
row_for tree host user (Write place from bytes) r h = row_in tree host user (Write place from bytes) r h
row_for tree host user (NewFileset server name objects owner) r h = absurd (cc)
row_for tree host user (CloneFileset server source new) r h = absurd (cc)
row_for tree host user (MoveFileset server name to) r h = absurd (cc)
row_for tree host user (Lock label place writing from len) r h = absurd (cc)
row_for tree host user (Unlock label) r h = absurd (cc)
row_for tree host user (OpenFile label place kind) r h = absurd (cc)
row_for tree host user (CloseFile label) r h = absurd (cc)
row_for tree host user (Read place from len) r h = absurd (cc)
row_for tree host user (ListNames place) r h = absurd (cc)
row_for tree host user (Stat place) r h = absurd (cc)
row_for tree host user (GetAcl place which) r h = absurd (cc)
row_for tree host user (Sync place) r h = absurd (cc)

pub row_to : (tree : Tree) (host : HostId) (call : Call) → is_row call ≡ true →
    is_refused (answer_to tree host call).reply ≡ false → IsRow tree call (answer_to tree host call)
unfolding answer_to
row_to tree host call r = by (user_of tree.roster host)
  where
    by : (found : Option User) → is_refused (for_user tree found (answer_for tree host call)).reply ≡ false →
        IsRow tree call (for_user tree found (answer_for tree host call))
    by None h = absurd (cc)
    by (Some user) h = row_for tree host user call r h

-- and one that makes a fileset
found_plain : {A : Type 0} (tree : Tree) (checked : Result A Refusal) (next : A → Tree) →
    is_refused (either checked (λ a. let answer : Answer = record { reply = Accepted; tree = next a } in answer)
    (refuse tree)).reply ≡ false →
    (either checked (λ a. let answer : Answer = record { reply = Accepted; tree = next a } in answer)
    (refuse tree)).reply ≡ Accepted
found_plain tree (Ok a) next h = refl
found_plain tree (Err e) next h = absurd (cc)

found_for : (tree : Tree) (host : HostId) (user : User) (call : Call) (server : ServerId) → made_at call ≡ Some server →
    is_refused (answer_for tree host call user).reply ≡ false → (answer_for tree host call user).reply ≡ Accepted
unfolding answer_for new_fileset_answer clone_answer
found_for tree host user (NewFileset at name objects owner) server m h =
    found_plain tree (new_fileset_target tree at name objects) _ h
found_for tree host user (CloneFileset at source new) server m h =
    found_plain tree (clone_target tree user at source new) _ h
found_for tree host user (Create place) at m h = absurd (cc)
found_for tree host user (MakeDir place) at m h = absurd (cc)
found_for tree host user (Remove place) at m h = absurd (cc)
found_for tree host user (Rename from to) at m h = absurd (cc)
found_for tree host user (Truncate place len) at m h = absurd (cc)
found_for tree host user (SetAcl place which list) at m h = absurd (cc)
found_for tree host user (Write place from bytes) at m h = absurd (cc)
found_for tree host user (MoveFileset server name to) at m h = absurd (cc)
found_for tree host user (Lock label place writing from len) at m h = absurd (cc)
found_for tree host user (Unlock label) at m h = absurd (cc)
found_for tree host user (OpenFile label place kind) at m h = absurd (cc)
found_for tree host user (CloseFile label) at m h = absurd (cc)
found_for tree host user (Read place from len) at m h = absurd (cc)
found_for tree host user (ListNames place) at m h = absurd (cc)
found_for tree host user (Stat place) at m h = absurd (cc)
found_for tree host user (GetAcl place which) at m h = absurd (cc)
found_for tree host user (Sync place) at m h = absurd (cc)

pub found_to : (tree : Tree) (host : HostId) (call : Call) (server : ServerId) → made_at call ≡ Some server →
    is_refused (answer_to tree host call).reply ≡ false → (answer_to tree host call).reply ≡ Accepted
unfolding answer_to
found_to tree host call server m = by (user_of tree.roster host)
  where
    by : (found : Option User) → is_refused (for_user tree found (answer_for tree host call)).reply ≡ false →
        (for_user tree found (answer_for tree host call)).reply ≡ Accepted
    by None h = absurd (cc)
    by (Some user) h = found_for tree host user call server m h

-- whether it changes what the fileset keeps
abbrev pub is_change : Call → Bool
is_change (Create place) = true
is_change (MakeDir place) = true
is_change (Remove place) = true
is_change (Rename from to) = true
is_change (Truncate place len) = true
is_change (SetAcl place which list) = true
is_change (Write place from bytes) = false
is_change (NewFileset server name objects owner) = false
is_change (CloneFileset server source new) = false
is_change (MoveFileset server name to) = false
is_change (Lock label place writing from len) = false
is_change (Unlock label) = false
is_change (OpenFile label place kind) = false
is_change (CloseFile label) = false
is_change (Read place from len) = false
is_change (ListNames place) = false
is_change (Stat place) = false
is_change (GetAcl place which) = false
is_change (Sync place) = false

-- what is asked of an act that does such a call
pub record IsDoable (server : ServerId) (tree : Tree) (host : HostId) (k : ℕ) (call : Call) : Type 0 where
  pub row : is_row call ≡ true
  pub decided : IsDecided call
  pub own : IsFor server call
  pub acts : call_acts server tree host k call ≡ act_if (is_decided_at server tree call) (Do host k call)

pub doable : (server : ServerId) (tree : Tree) (host : HostId) (k : ℕ) (call : Call) → is_change call ≡ true →
    IsDoable server tree host k call
doable server tree host k (Create place) r = record { row = refl; decided = tt; own = tt; acts = refl }
doable server tree host k (MakeDir place) r = record { row = refl; decided = tt; own = tt; acts = refl }
doable server tree host k (Remove place) r = record { row = refl; decided = tt; own = tt; acts = refl }
doable server tree host k (Rename from to) r = record { row = refl; decided = tt; own = tt; acts = refl }
doable server tree host k (Truncate place len) r = record { row = refl; decided = tt; own = tt; acts = refl }
doable server tree host k (SetAcl place which list) r = record { row = refl; decided = tt; own = tt; acts = refl }
doable server tree host k (Write place from bytes) r = absurd (cc)
doable server tree host k (NewFileset at name objects owner) r = absurd (cc)
doable server tree host k (CloneFileset at source new) r = absurd (cc)
doable server tree host k (MoveFileset at name to) r = absurd (cc)
doable server tree host k (Lock label place writing from len) r = absurd (cc)
doable server tree host k (Unlock label) r = absurd (cc)
doable server tree host k (OpenFile label place kind) r = absurd (cc)
doable server tree host k (CloseFile label) r = absurd (cc)
doable server tree host k (Read place from len) r = absurd (cc)
doable server tree host k (ListNames place) r = absurd (cc)
doable server tree host k (Stat place) r = absurd (cc)
doable server tree host k (GetAcl place which) r = absurd (cc)
doable server tree host k (Sync place) r = absurd (cc)

pub decided_at : (server : ServerId) (tree : Tree) (call : Call) (fileset : Fileset) → IsDecidedBy tree call fileset →
    is_decided_at server tree call ≡ (fileset.server.0 == server.0)
decided_at server tree call fileset by = let decides = by.decides in let there = by.there in rw decides (rw there refl)

-- and of one that makes a fileset
pub record IsMade (server : ServerId) (tree : Tree) (host : HostId) (k : ℕ) (call : Call) (at : ServerId) : Type 0 where
  pub decided : IsDecided call
  pub own : at ≡ server → IsFor server call
  pub acts : call_acts server tree host k call ≡ act_if (at.0 == server.0) (Do host k call)

pub made : (server : ServerId) (tree : Tree) (host : HostId) (k : ℕ) (call : Call) (at : ServerId) →
    made_at call ≡ Some at → IsMade server tree host k call at
made server tree host k (NewFileset to name objects owner) at m =
    let same : to ≡ at = cc in
    record {
      decided = tt;
      own = λ e. same ∙ e;
      acts = ap (λ (s : ServerId). act_if (s.0 == server.0) (Do host k (NewFileset to name objects owner))) same;
    }
made server tree host k (CloneFileset to source new) at m =
    let same : to ≡ at = cc in
    record {
      decided = tt;
      own = λ e. tt;
      acts = ap (λ (s : ServerId). act_if (s.0 == server.0) (Do host k (CloneFileset to source new))) same;
    }
made server tree host k (Create place) at m = absurd (cc)
made server tree host k (MakeDir place) at m = absurd (cc)
made server tree host k (Remove place) at m = absurd (cc)
made server tree host k (Rename from to) at m = absurd (cc)
made server tree host k (Truncate place len) at m = absurd (cc)
made server tree host k (SetAcl place which list) at m = absurd (cc)
made server tree host k (Write place from bytes) at m = absurd (cc)
made server tree host k (MoveFileset source name to) at m = absurd (cc)
made server tree host k (Lock label place writing from len) at m = absurd (cc)
made server tree host k (Unlock label) at m = absurd (cc)
made server tree host k (OpenFile label place kind) at m = absurd (cc)
made server tree host k (CloseFile label) at m = absurd (cc)
made server tree host k (Read place from len) at m = absurd (cc)
made server tree host k (ListNames place) at m = absurd (cc)
made server tree host k (Stat place) at m = absurd (cc)
made server tree host k (GetAcl place which) at m = absurd (cc)
made server tree host k (Sync place) at m = absurd (cc)
