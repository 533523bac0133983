-- What a store tells of a Change is what the rules say on what the server keeps.
use Rattle.std.proofs.Common.{Bool, Err, IsTrue, List, None, Ok, Option, Result, Some, [], ap, false, inl, inr, not}
use Rattle.std.proofs.Common.{refl, subst, sym, true, ℕ, ◌&&◌, ◌==◌, ◌∙◌, ◌≡◌, ◌⊎◌}
use Rattle.std.proofs.lemmas.Bool.{false≢true}
use Rattle.std.specs.List.{filter, flat_map}
use Rattle.std.specs.Option.{option_map_or}
use Rattle.std.specs.Prelude.{if◌then◌else◌, is_none, is_some}
use Rattle.base_types.specs.Access.{allows}
use Rattle.base_types.specs.Outcomes.{and_then}
use Rattle.base_types.specs.declared.ids.FilesetId.{FilesetId}
use Rattle.base_types.specs.declared.ids.HostId.{HostId}
use Rattle.base_types.specs.declared.ids.ServerId.{ServerId}
use Rattle.base_types.specs.declared.user.User.{User}
use Rattle.tree_calls.specs.Rosters.{user_of}
use Rattle.tree_calls.specs.declared.call.Call.{Call}
use Rattle.tree_calls.specs.declared.call.Call.TheVariants.{CloneFileset, CloseFile, Create, GetAcl, List as ListNames}
use Rattle.tree_calls.specs.declared.call.Call.TheVariants.{Lock, MakeDir, MoveFileset, NewFileset, OpenFile, Read}
use Rattle.tree_calls.specs.declared.call.Call.TheVariants.{Remove, Rename, SetAcl, Stat, Sync, Truncate, Unlock, Write}
use Rattle.tree_calls.specs.declared.reply.Refusal.{Refusal}
use Rattle.tree_calls.specs.declared.reply.Refusal.TheVariants.{Denied, Exists, NoFileset, ReadOnly}
use Rattle.tree_calls.specs.declared.reply.Reply.{Reply}
use Rattle.tree_calls.specs.declared.reply.Reply.TheVariants.{Access, Bytes, Facts, Names, Ok as Done, Refused}
use Rattle.tree_objects.specs.Objects.{own_rights}
use Rattle.tree_filesets.specs.Promises.{clone_promise}
use Rattle.tree_filesets.specs.Rights.{control_right}
use Rattle.tree_filesets.specs.declared.fileset.Fileset.{Fileset}
use Rattle.tree_answers.specs.Finding.{fileset_named, fileset_place}
use Rattle.tree_answers.specs.Founding.{clone_source, clone_target, room_for}
use Rattle.tree_answers.specs.Moving.{move_room, move_source}
use Rattle.tree_answers.specs.declared.tree.ServerRoom.{ServerRoom}
use Rattle.tree_answers.specs.declared.tree.Tree.{Tree}
use Rattle.tree_answers.proofs.AfterMove.{same_server}
use Rattle.token_types.specs.declared.token.Need.{Need}
use Rattle.message_types.specs.Soundness.{IsDecided}
use Rattle.message_types.specs.declared.asking.Change.{Change as ChangeOf}
use Rattle.need_host.specs.Questions.{fileset_of}
use Rattle.need_laws.proofs.Replies.{reply_for}
use Rattle.need_laws.specs.Known.{IsAt}
use Rattle.need_server.specs.Wants.{all_objects_of, all_of, files_of, want, want_for, want_in}
use Rattle.store_laws.proofs.Keys.{same_key}
use Rattle.store_memory.specs.Reading.{looked_up, files_of as objects_told}
use Rattle.store_state.specs.Rows.{found_named, answer_to as store_answer}
use Rattle.store_state.specs.declared.state.StoreState.{StoreState}
use Rattle.run_history.proofs.Refusing.{for_its}
use Rattle.run_rules.specs.Kept.{is_refusal}
use Rattle.run_rules.specs.ServerDecides.{NotRefused, RefusedOn, kept_reply, tells_alone}
use Rattle.run_rules.specs.Wants.{moves_fileset, row_needs}
use Rattle.run_stores.proofs.Elsewhere.{others_are_refused}
use Rattle.run_stores.proofs.Replies.{replies_are_kept}
use Rattle.run_stores.proofs.Wanting.{wants_are_told}
use Rattle.run_stores.specs.Keeping.{StandsFor}
use Rattle.run_stores.specs.Wanting.{want_by}
use Rattle.server_keeps.specs.Asking.{Asks, ChangesAreTold, IsEnteredAs, change_needs, change_refused, denies_source}
use Rattle.server_keeps.specs.Asking.{entered_told, is_file_told, is_own, move_told, named_told, needs_some, needs_told}
use Rattle.server_keeps.specs.Asking.{own_refusal, refusal_in, refusal_told, server_of, takes_source, whole_of}
use Rattle.server_keeps.proofs.Objects.{control_found, files_are, objects_are, root_is}
use Rattle.server_keeps.proofs.Places.{Named, elsewhere, named, none_named, some_named}
use Rattle.server_keeps.proofs.Places.Named.{Gone, There}
use Rattle.server_keeps.proofs.Sources.{Only, behind, clone_reply, clone_want, is_silent, leaves, leaves_only}
use Rattle.server_keeps.proofs.Sources.{move_found}
use Rattle.server_keeps.proofs.Sources.{move_gone, move_reply, move_there, move_told_gone, move_told_there, move_want}
use Rattle.server_keeps.proofs.Sources.{moved_is, only_ok, only_then, only_unless, room_only, source_gone}
use Rattle.server_keeps.proofs.Sources.{source_there, stays_home, target_is}

-- What is told of a call says what the rules say.
pub record ToldBy (tree : Tree) (state : StoreState) (host : HostId) (user : User) (call : Call)
    (told : Option Refusal) : Type 0 where
  pub refused : (refusal : Refusal) → told ≡ Some refusal
      → (kept_reply tree host call ≡ Refused refusal) × (moves_fileset call ≡ true → tells_alone refusal ≡ true)
  pub accepted : told ≡ None → (refusal : Refusal) → kept_reply tree host call ≡ Refused refusal
      → (moves_fileset call ≡ true → tells_alone refusal ≡ true) → ⊥
  pub needs : (if needs_some call told then needs_told state user call else []) ≡ want tree user call

abbrev if_some : Bool → List Need → List Need
if_some b xs = if b then xs else []

none_if : (b : Bool) → if_some b [] ≡ []
none_if true = refl
none_if false = refl

never_if : (b : Bool) (xs : List Need) → if_some (b && false) xs ≡ []
never_if true xs = refl
never_if false xs = refl

one_refusal : (a b : Refusal) → Some a ≡ Some b → a ≡ b
one_refusal a b e = cc

refused_twice : (a b : Refusal) → Refused a ≡ Refused b → a ≡ b
refused_twice a b e = cc

-- about a fileset that isn't there
gone_told : (tree : Tree) (state : StoreState) (host : HostId) (user : User) (call : Call)
    → kept_reply tree host call ≡ Refused NoFileset → want tree user call ≡ []
    → ToldBy tree state host user call (Some NoFileset)
gone_told tree state host user call said none = record {
  refused = λ refusal e.
      (let same = one_refusal NoFileset refusal e in
      (said ∙ ap Refused same, λ moves. ap tells_alone (sym same)));
  accepted = λ e. absurd (cc);
  needs = never_if (takes_source call) (needs_told state user call) ∙ sym none;
}

-- a call that a reply tells of
said_so : (reply : Reply) (refusal : Refusal) → refusal_in reply ≡ Some refusal → reply ≡ Refused refusal
said_so Done refusal e = absurd (cc)
said_so (Bytes bytes) refusal e = absurd (cc)
said_so (Names names) refusal e = absurd (cc)
said_so (Facts facts) refusal e = absurd (cc)
said_so (Access list) refusal e = absurd (cc)
said_so (Refused other) refusal e = ap Refused (one_refusal other refusal e)

reply_told : (tree : Tree) (state : StoreState) (host : HostId) (user : User) (call : Call) (reply : Reply)
    → kept_reply tree host call ≡ reply → moves_fileset call ≡ false
    → (if needs_some call (refusal_in reply) then needs_told state user call else []) ≡ want tree user call
    → ToldBy tree state host user call (refusal_in reply)
reply_told tree state host user call reply said stays needs = record {
  refused = λ refusal e.
      (said ∙ said_so reply refusal e, λ moves. absurd (false≢true (sym stays ∙ moves)));
  accepted = λ e refusal k alone.
      (let told : refusal_in reply ≡ Some refusal = ap refusal_in (sym said ∙ k) in
      let clash : None ≡ Some refusal = sym e ∙ told in absurd (cc));
  needs = needs;
}

plain_needs : (call : Call) (reply : Reply) (xs : List Need) → takes_source call ≡ false
    → if_some (needs_some call (refusal_in reply)) xs ≡ (if is_refusal reply then [] else xs)
plain_needs call Done xs takes = refl
plain_needs call (Bytes bytes) xs takes = refl
plain_needs call (Names names) xs takes = refl
plain_needs call (Facts facts) xs takes = refl
plain_needs call (Access list) xs takes = refl
plain_needs call (Refused refusal) xs takes = ap (λ b. if_some (b && not (denies_source refusal)) xs) takes

-- one of the first calls, and a lock or an open, on the server's own filesets
plain_told : (tree : Tree) (state : StoreState) (host : HostId) (user : User) (call : Call) → StandsFor tree state
    → user_of tree.roster host ≡ Some user → IsAt state.server call → takes_source call ≡ false
    → moves_fileset call ≡ false
    → (want tree user call
    ≡ (if is_refusal (store_answer state host call).reply then [] else want_by (looked_up state user) call))
    → needs_told state user call ≡ want_by (looked_up state user) call
    → ToldBy tree state host user call (refusal_in (store_answer state host call).reply)
plain_told tree state host user call s known at takes stays wanted needs =
    reply_told tree state host user call (store_answer state host call).reply
    (sym (replies_are_kept tree state host call s at)) stays
    (ap (if_some (needs_some call (refusal_in (store_answer state host call).reply))) needs
    ∙ plain_needs call (store_answer state host call).reply (want_by (looked_up state user) call) takes ∙ sym wanted)

-- # A clone

abbrev grants_source : Refusal → Bool
grants_source refusal = not (denies_source refusal)

clone_some : (at : ServerId) (source new : List ℕ) (r : Result (Fileset × ServerRoom) Refusal) → Only grants_source r
    → needs_some (CloneFileset at source new) (refusal_in (reply_for r)) ≡ true
clone_some at source new (Ok found) o = refl
clone_some at source new (Err refusal) o = o refusal refl

module _ (tree : Tree) (state : StoreState) (host : HostId) (user : User) (at : ServerId) (source new : List ℕ)
    (s : StandsFor tree state) (known : user_of tree.roster host ≡ Some user) (its : at ≡ state.server) where
  abbrev clone : Call
  clone = CloneFileset at source new

  clone_kept : kept_reply tree host clone ≡ reply_for (clone_target tree user at source new)
  clone_kept = for_its tree host clone user known ∙ clone_reply tree host user at source new

  abbrev clone_wanted : Result Fileset Refusal → List Need
  clone_wanted r = want_for r (λ fileset. flat_map (all_of false) (files_of fileset))

  abbrev CloneTold : Result Fileset Refusal → Type 0
  CloneTold r = (if needs_some clone (refusal_in (reply_for (and_then r (behind tree at new))))
      then needs_told state user clone else []) ≡ clone_wanted r

  with_source : (r : Result Fileset Refusal) → clone_source tree user at source ≡ r → CloneTold r
      → ToldBy tree state host user clone (refusal_in (reply_for (clone_target tree user at source new)))
  with_source r e told =
      reply_told tree state host user clone (reply_for (clone_target tree user at source new)) clone_kept refl
      (ap (λ t. if_some (needs_some clone (refusal_in (reply_for t))) (needs_told state user clone))
      (target_is tree user at source new r e) ∙ told ∙ sym (clone_want tree user at source new r e))

  behind_only : (f : Fileset) → Only grants_source (behind tree at new f)
  behind_only f =
      only_unless grants_source _ Exists _ refl
      (only_then grants_source (room_for tree at (clone_promise f)) _
      (room_only grants_source tree at (clone_promise f) refl refl) (λ room. only_ok grants_source (f, room)))

  clone_by : Named tree state source
      → ToldBy tree state host user clone (refusal_in (reply_for (clone_target tree user at source new)))
  clone_by (Gone place_none name_none none) =
      with_source (Err NoFileset)
      (source_gone tree user at source (ap (λ v. fileset_named tree v source) its ∙ name_none)) refl
  clone_by (There i f place_is there name_is found known_at own formed) =
      let (root, here) = root_is tree state f s known_at in
      with_source (and_then (control_found f.read_only (allows (own_rights root user) control_right)) (λ _. Ok f))
      (source_there tree user at source f root (ap (λ v. fileset_named tree v source) its ∙ name_is) (own
      ∙ sym its) here)
      (told f.read_only (allows (own_rights root user) control_right))
    where
      files : needs_told state user clone ≡ flat_map (all_of false) (files_of f)
      files =
          ap (λ o. option_map_or (λ id. flat_map (all_of false) (filter (is_file_told state) (objects_told state id)))
          o []) found
          ∙ ap (flat_map (all_of false)) (files_are tree state f s known_at)

      told : (read_only allowed : Bool) → CloneTold (and_then (control_found read_only allowed) (λ _. Ok f))
      told true allowed = refl
      told false false = refl
      told false true =
          ap (λ b. if_some b (needs_told state user clone))
          (clone_some at source new (behind tree at new f) (behind_only f))
          ∙ files

  clone_told : ToldBy tree state host user clone (refusal_in (store_answer state host clone).reply)
  clone_told =
      subst (λ reply. ToldBy tree state host user clone (refusal_in reply))
      (sym (replies_are_kept tree state host clone s its ∙ clone_kept)) (clone_by (named tree state source s))

-- # A move

module _ (tree : Tree) (state : StoreState) (host : HostId) (user : User) (at : ServerId) (name : List ℕ)
    (to : ServerId) (s : StandsFor tree state) (known : user_of tree.roster host ≡ Some user) (its : at ≡ state.server)
  where
    abbrev move : Call
    move = MoveFileset at name to

    move_kept : (r : Result (ℕ × Fileset) Refusal) → move_source tree user at name ≡ r
        → kept_reply tree host move ≡ reply_for (and_then r (leaves tree to))
    move_kept r e =
        for_its tree host move user known ∙ move_reply tree host user at name to
        ∙ ap reply_for (moved_is tree user at name to r e)

    -- it is refused so
    move_refused : (refusal : Refusal) → kept_reply tree host move ≡ Refused refusal → tells_alone refusal ≡ true
        → (if needs_some move (Some refusal) then needs_told state user move else []) ≡ want tree user move
        → ToldBy tree state host user move (Some refusal)
    move_refused refusal said alone needs = record {
      refused = λ other e.
          (let same = one_refusal refusal other e in
          (said ∙ ap Refused same, λ moves. ap tells_alone (sym same) ∙ alone));
      accepted = λ e. absurd (cc);
      needs = needs;
    }

    silent : (refusal : Refusal) (r : Result (ℕ × Fileset) Refusal) → Only is_silent r
        → reply_for r ≡ Refused refusal → tells_alone refusal ≡ true → ⊥
    silent refusal (Ok found) o said alone = absurd (cc)
    silent refusal (Err other) o said alone =
        let same = refused_twice other refusal said in
        false≢true (ap (λ b. not b) (sym alone) ∙ ap is_silent (sym same) ∙ o other refl)

    module _ (i : ℕ) (f : Fileset) (own : f.server ≡ state.server) where
      abbrev Source : Bool → Bool → Type 0
      Source read_only allowed =
          move_source tree user at name ≡ and_then (control_found read_only allowed) (λ _. Ok (i, f))

      at_home : needs_told state user move ≡ flat_map whole_of (all_objects_of f)
          → (b : Bool) → (to.0 == state.server.0) ≡ b → Source false true
          → ToldBy tree state host user move (if b then Some Exists else None)
      at_home objects true e source =
          let same : (f.server.0 == to.0) ≡ true =
          ap (λ (v : ServerId). f.server.0 == v.0) (same_server to state.server e)
          ∙ ap (λ (v : ServerId). v.0 == state.server.0) own ∙ same_key state.server.0 in
          move_refused Exists
          (move_kept (Ok (i, f)) source
          ∙ ap (λ r. reply_for {A = ℕ × Fileset} (and_then r (λ _. and_then (move_room tree to f) (λ _. Ok (i, f)))))
          (stays_home tree to f same))
          refl (objects ∙ sym (move_want tree user at name to (Ok (i, f)) source))
      at_home objects false e source = record {
        refused = λ refusal k. absurd (cc);
        accepted = λ k refusal said alone.
            silent refusal (leaves tree to (i, f)) (leaves_only state.server to tree i f s.is_of own e)
            (sym (move_kept (Ok (i, f)) source) ∙ said) (alone refl);
        needs = objects ∙ sym (move_want tree user at name to (Ok (i, f)) source);
      }

      move_there_told : needs_told state user move ≡ flat_map whole_of (all_objects_of f)
          → (read_only allowed : Bool) → Source read_only allowed
          → ToldBy tree state host user move (move_found state.server to read_only allowed)
      move_there_told objects true allowed source =
          move_refused ReadOnly (move_kept (Err ReadOnly) source) refl
          (sym (move_want tree user at name to (Err ReadOnly) source))
      move_there_told objects false false source =
          move_refused (Denied control_right) (move_kept (Err (Denied control_right)) source) refl
          (sym (move_want tree user at name to (Err (Denied control_right)) source))
      move_there_told objects false true source = at_home objects (to.0 == state.server.0) refl source

    move_by : Named tree state name → ToldBy tree state host user move (move_told state user name to)
    move_by (Gone place_none name_none none) =
        let gone = move_gone tree user at name (ap (λ v. fileset_place tree v name) its ∙ place_none) in
        subst (ToldBy tree state host user move) (sym (move_told_gone state user name to none))
        (gone_told tree state host user move (move_kept (Err NoFileset) gone)
        (move_want tree user at name to (Err NoFileset) gone))
    move_by (There i f place_is there name_is found known_at own formed) =
        let (root, here) = root_is tree state f s known_at in
        let objects : needs_told state user move ≡ flat_map whole_of (all_objects_of f) =
        ap (λ o. option_map_or (λ id. flat_map whole_of (objects_told state id)) o []) found
        ∙ ap (flat_map whole_of) (objects_are tree state f s known_at) in
        subst (ToldBy tree state host user move)
        (sym (move_told_there tree state user name to f root s known_at found here))
        (move_there_told i f own objects f.read_only (allows (own_rights root user) control_right)
        (move_there tree user at name i f root (ap (λ v. fileset_place tree v name) its ∙ place_is) there here))

    move_case : ToldBy tree state host user move (move_told state user name to)
    move_case = move_by (named tree state name s)

-- # Any call that a server decides

abbrev gone_for : Tree → HostId → User → Call → Type 0
gone_for tree host user call = (kept_reply tree host call ≡ Refused NoFileset) × (want tree user call ≡ [])

named_gone : (tree : Tree) (user : User) (call : Call) (server : ServerId) (name : List ℕ)
    → fileset_named tree server name ≡ Err NoFileset
    → want_for (fileset_named tree server name) (λ (fileset : Fileset). want_in fileset user call) ≡ []
named_gone tree user call server name e = ap (λ r. want_for r (λ (fileset : Fileset). want_in fileset user call)) e

module _ (tree : Tree) (state : StoreState) (host : HostId) (user : User) (s : StandsFor tree state)
    (known : user_of tree.roster host ≡ Some user) where
  abbrev apart_from : ServerId → Type 0
  apart_from server = (server.0 == state.server.0) ≡ false

  no_fileset : (server : ServerId) (name : List ℕ) → apart_from server → fileset_named tree server name ≡ Err NoFileset
  no_fileset server name apart = (elsewhere state.server server tree host user name s.is_of apart known).1

  other_gone : (call : Call) → IsDecided state.server call → is_own state.server (server_of call) ≡ false
      → gone_for tree host user call
  unfolding want
  other_gone (NewFileset at name objects owner) decided e =
      absurd (false≢true (sym e ∙ ap (λ (v : ServerId). v.0 == state.server.0) decided ∙ same_key state.server.0))
  other_gone (Create place) decided e = (
    others_are_refused state.server place.server tree host user (Create place) s.is_of refl e known,
    named_gone tree user (Create place) place.server place.fileset (no_fileset place.server place.fileset e),
  )
  other_gone (MakeDir place) decided e = (
    others_are_refused state.server place.server tree host user (MakeDir place) s.is_of refl e known,
    named_gone tree user (MakeDir place) place.server place.fileset (no_fileset place.server place.fileset e),
  )
  other_gone (Remove place) decided e = (
    others_are_refused state.server place.server tree host user (Remove place) s.is_of refl e known,
    named_gone tree user (Remove place) place.server place.fileset (no_fileset place.server place.fileset e),
  )
  other_gone (Rename from to) decided e = (
    others_are_refused state.server from.server tree host user (Rename from to) s.is_of refl e known,
    named_gone tree user (Rename from to) from.server from.fileset (no_fileset from.server from.fileset e),
  )
  other_gone (Truncate place len) decided e = (
    others_are_refused state.server place.server tree host user (Truncate place len) s.is_of refl e known,
    named_gone tree user (Truncate place len) place.server place.fileset (no_fileset place.server place.fileset e),
  )
  other_gone (SetAcl place which list) decided e = (
    others_are_refused state.server place.server tree host user (SetAcl place which list) s.is_of refl e known,
    named_gone tree user (SetAcl place which list) place.server place.fileset (no_fileset place.server place.fileset e),
  )
  other_gone (CloneFileset at source new) decided e = (
    others_are_refused state.server at tree host user (CloneFileset at source new) s.is_of refl e known,
    clone_want tree user at source new (Err NoFileset) (source_gone tree user at source (no_fileset at source e)),
  )
  other_gone (Lock label place writing from len) decided e = (
    others_are_refused state.server place.server tree host user
        (Lock label place writing from len) s.is_of refl e known,
    named_gone tree user (Lock label place writing from len) place.server place.fileset
        (no_fileset place.server place.fileset e),
  )
  other_gone (OpenFile label place kind) decided e = (
    others_are_refused state.server place.server tree host user (OpenFile label place kind) s.is_of refl e known,
    named_gone tree user (OpenFile label place kind) place.server place.fileset
        (no_fileset place.server place.fileset e),
  )
  other_gone (MoveFileset at name to) decided e =
      let none = elsewhere state.server at tree host user name s.is_of e known in (
        none_named tree host user (MoveFileset at name to) at name s.is_of.locks s.is_of.opens known refl none.0 none.1,
        move_want tree user at name to (Err NoFileset) (move_gone tree user at name none.0),
      )
  other_gone (Read place from len) decided e = absurd decided
  other_gone (Write place from bytes) decided e = absurd decided
  other_gone (ListNames place) decided e = absurd decided
  other_gone (Stat place) decided e = absurd decided
  other_gone (GetAcl place which) decided e = absurd decided
  other_gone (Sync place) decided e = absurd decided
  other_gone (Unlock label) decided e = absurd decided
  other_gone (CloseFile label) decided e = absurd decided

  own_told : (call : Call) → IsDecided state.server call → is_own state.server (server_of call) ≡ true
      → ToldBy tree state host user call (own_refusal state host user call)
  own_told (NewFileset at name objects owner) decided e =
      plain_told tree state host user (NewFileset at name objects owner) s known decided refl refl
      (wants_are_told.calls tree state host user (NewFileset at name objects owner) s decided refl known) refl
  own_told (CloneFileset at source new) decided e =
      clone_told tree state host user at source new s known (same_server at state.server e)
  own_told (MoveFileset at name to) decided e =
      move_case tree state host user at name to s known (same_server at state.server e)
  own_told (Create place) decided e =
      let at = same_server place.server state.server e in
      plain_told tree state host user (Create place) s known at refl refl
      (wants_are_told.calls tree state host user (Create place) s at refl known) refl
  own_told (MakeDir place) decided e =
      let at = same_server place.server state.server e in
      plain_told tree state host user (MakeDir place) s known at refl refl
      (wants_are_told.calls tree state host user (MakeDir place) s at refl known) refl
  own_told (Remove place) decided e =
      let at = same_server place.server state.server e in
      plain_told tree state host user (Remove place) s known at refl refl
      (wants_are_told.calls tree state host user (Remove place) s at refl known) refl
  own_told (Rename from to) decided e =
      let at = same_server from.server state.server e in
      plain_told tree state host user (Rename from to) s known at refl refl
      (wants_are_told.calls tree state host user (Rename from to) s at refl known) refl
  own_told (Truncate place len) decided e =
      let at = same_server place.server state.server e in
      plain_told tree state host user (Truncate place len) s known at refl refl
      (wants_are_told.calls tree state host user (Truncate place len) s at refl known) refl
  own_told (SetAcl place which list) decided e =
      let at = same_server place.server state.server e in
      plain_told tree state host user (SetAcl place which list) s known at refl refl
      (wants_are_told.calls tree state host user (SetAcl place which list) s at refl known) refl
  own_told (Lock label place writing from len) decided e =
      let at = same_server place.server state.server e in
      plain_told tree state host user (Lock label place writing from len) s known at refl refl
      (wants_are_told.calls tree state host user (Lock label place writing from len) s at refl known) refl
  own_told (OpenFile label place kind) decided e =
      let at = same_server place.server state.server e in
      plain_told tree state host user (OpenFile label place kind) s known at refl refl
      (wants_are_told.calls tree state host user (OpenFile label place kind) s at refl known) refl
  own_told (Read place from len) decided e = absurd decided
  own_told (Write place from bytes) decided e = absurd decided
  own_told (ListNames place) decided e = absurd decided
  own_told (Stat place) decided e = absurd decided
  own_told (GetAcl place which) decided e = absurd decided
  own_told (Sync place) decided e = absurd decided
  own_told (Unlock label) decided e = absurd decided
  own_told (CloseFile label) decided e = absurd decided

  pub call_told : (call : Call) → IsDecided state.server call
      → ToldBy tree state host user call (refusal_told state host user call)
  call_told call decided = by (is_own state.server (server_of call)) refl
    where
      by : (b : Bool) → is_own state.server (server_of call) ≡ b
          → ToldBy tree state host user call (if b then own_refusal state host user call else Some NoFileset)
      by true e = own_told call decided e
      by false e =
          let gone = other_gone call decided e in gone_told tree state host user call gone.0 gone.1

-- # A Change that enters a fileset

-- the fileset that it names is there, or isn't
pub data Enters (tree : Tree) (state : StoreState) (host : HostId) (call : Call) : Type 0 where
  In : (id : FilesetId) → entered_told state call ≡ Some id
      → (kept_reply tree host call ≡ Refused NoFileset → ⊥) → Enters tree state host call
  Nowhere : entered_told state call ≡ None → kept_reply tree host call ≡ Refused NoFileset
      → Enters tree state host call

named_own : (state : StoreState) (place : ServerId × List ℕ) (b : Bool) → (place.0.0 == state.server.0) ≡ b
    → named_told state (Some place) ≡ (if b then found_named state place.1 else None)
named_own state place b e = ap (λ c. if c then found_named state place.1 else None) e

pub enters : (tree : Tree) (state : StoreState) (host : HostId) (user : User) (call : Call) (place : ServerId × List ℕ)
    → StandsFor tree state → user_of tree.roster host ≡ Some user → fileset_of call ≡ Some place
    → Enters tree state host call
enters tree state host user call place s known of = by (place.0.0 == state.server.0) refl
  where
    by : (b : Bool) → (place.0.0 == state.server.0) ≡ b → Enters tree state host call
    by false e =
        let none = elsewhere state.server place.0 tree host user place.1 s.is_of e known in
        Nowhere (ap (named_told state) of ∙ named_own state place false e)
        (none_named tree host user call place.0 place.1 s.is_of.locks s.is_of.opens known of none.0 none.1)
    by true e = there (named tree state place.1 s)
      where
        its : place.0 ≡ state.server
        its = same_server place.0 state.server e

        told : (o : Option FilesetId) → found_named state place.1 ≡ o → entered_told state call ≡ o
        told o found = ap (named_told state) of ∙ named_own state place true e ∙ found

        there : Named tree state place.1 → Enters tree state host call
        there (Gone place_none name_none none) =
            Nowhere (told None none)
            (none_named tree host user call place.0 place.1 s.is_of.locks s.is_of.opens known of
            (ap (λ v. fileset_place tree v place.1) its ∙ place_none)
            (ap (λ v. fileset_named tree v place.1) its ∙ name_none))
        there (There i f place_is at name_is found known_at own formed) =
            In f.id (told (Some f.id) found)
            (some_named tree host user call place.0 place.1 i f known of
            (ap (λ v. fileset_place tree v place.1) its ∙ place_is) at
            (ap (λ v. fileset_named tree v place.1) its ∙ name_is))

pub entered_as : (tree : Tree) (state : StoreState) (call : Call) (id : FilesetId) → StandsFor tree state
    → entered_told state call ≡ Some id → IsEnteredAs tree call id
entered_as tree state call id s told = by (fileset_of call) refl told
  where
    by : (o : Option (ServerId × List ℕ)) → fileset_of call ≡ o → named_told state o ≡ Some id
        → IsEnteredAs tree call id
    by None of e = absurd (cc)
    by (Some place) of e = at (place.0.0 == state.server.0) refl e
      where
        at : (b : Bool) → (place.0.0 == state.server.0) ≡ b
            → (if b then found_named state place.1 else None) ≡ Some id → IsEnteredAs tree call id
        at false same e = absurd (cc)
        at true same e = there (named tree state place.1 s)
          where
            there : Named tree state place.1 → IsEnteredAs tree call id
            there (Gone place_none name_none none) = absurd (let clash : None ≡ Some id = sym none ∙ e in cc)
            there (There i f place_is got name_is found known_at own formed) = record {
              fileset = f;
              place = place;
              named = of;
              found = ap (λ v. fileset_named tree v place.1) (same_server place.0 state.server same) ∙ name_is;
              its = (let both : Some f.id ≡ Some id = sym found ∙ e in cc);
            }

-- # Any Change

some_of : {X : Type 0} (o : Option X) → is_some o ≡ true → (x : X) × (o ≡ Some x)
some_of None e = absurd (cc)
some_of (Some x) e = (x, refl)

decided_of : (b : Bool) (server : ServerId) (call : Call) → b ≡ false → IsTrue b ⊎ IsDecided server call
    → IsDecided server call
decided_of false server call e (inl h) = absurd (false≢true h)
decided_of false server call e (inr h) = h
decided_of true server call e h = absurd (false≢true (sym e))

module _ (tree : Tree) (state : StoreState) (host : HostId) (user : User) (change : ChangeOf)
    (a : Asks tree state host user change) where
  entering : change.enter ≡ true → Enters tree state host change.call
  entering e =
      let (place, of) = some_of (fileset_of change.call) (a.asked.meant.0 e) in
      enters tree state host user change.call place a.stands a.known of

  calling : change.enter ≡ false → ToldBy tree state host user change.call (refusal_told state host user change.call)
  calling e =
      call_told tree state host user a.stands a.known change.call
      (decided_of change.enter state.server change.call e a.asked.decided)

  abbrev told_if : Bool → Option Refusal
  told_if b = if b then (if is_none (entered_told state change.call) then Some NoFileset else None)
      else refusal_told state host user change.call

  told_is : (b : Bool) → change.enter ≡ b → change_refused state host user change ≡ told_if b
  told_is b e = ap told_if e

  refused_is : (refusal : Refusal) → change_refused state host user change ≡ Some refusal
      → RefusedOn tree host change refusal
  refused_is refusal told = by change.enter refl
    where
      by : (b : Bool) → change.enter ≡ b → RefusedOn tree host change refusal
      by false e =
          let on = (calling e).refused refusal (sym (told_is false e) ∙ told) in
          (on.0, λ enter. absurd (false≢true (sym e ∙ enter)), on.1)
      by true e = at (entering e)
        where
          at : Enters tree state host change.call → RefusedOn tree host change refusal
          at (In id is some) =
              absurd (let clash : None ≡ Some refusal =
              sym (ap (λ o. if is_none o then Some NoFileset else None) is) ∙ sym (told_is true e) ∙ told in cc)
          at (Nowhere is said) =
              let both : Some NoFileset ≡ Some refusal =
              sym (ap (λ o. if is_none o then Some NoFileset else None) is) ∙ sym (told_is true e) ∙ told in
              let same = one_refusal NoFileset refusal both in
              (said ∙ ap Refused same, λ enter. sym same, λ moves. ap tells_alone (sym same))

  accepted_is : change_refused state host user change ≡ None → NotRefused tree host change
  accepted_is told refusal on = by change.enter refl
    where
      by : (b : Bool) → change.enter ≡ b → ⊥
      by false e = (calling e).accepted (sym (told_is false e) ∙ told) refusal on.0 on.2
      by true e = at (entering e)
        where
          at : Enters tree state host change.call → ⊥
          at (In id is some) = some (on.0 ∙ ap Refused (on.1 e))
          at (Nowhere is said) =
              let clash : Some NoFileset ≡ None =
              sym (ap (λ o. if is_none o then Some NoFileset else None) is) ∙ sym (told_is true e) ∙ told in absurd (cc)

  abbrev told_needs : Bool → List Need
  told_needs b = if b then []
      else (if needs_some change.call (refusal_told state host user change.call)
      then needs_told state user change.call else [])

  abbrev kept_needs : Bool → List Need
  kept_needs b = if b then [] else option_map_or (λ who. want tree who change.call) (user_of tree.roster host) []

  needs_are : change_needs state host user change ≡ row_needs tree host change
  needs_are = by change.enter refl
    where
      by : (b : Bool) → change.enter ≡ b → told_needs change.enter ≡ kept_needs change.enter
      by true e = ap told_needs e ∙ sym (ap kept_needs e)
      by false e =
          ap told_needs e ∙ (calling e).needs
          ∙ sym (ap kept_needs e ∙ ap (λ o. option_map_or (λ who. want tree who change.call) o []) a.known)

pub changes_are_told : ChangesAreTold
changes_are_told = record {
  refused = λ tree state host user change refusal a told. refused_is tree state host user change a refusal told;
  accepted = λ tree state host user change a told. accepted_is tree state host user change a told;
  needs = λ tree state host user change a. needs_are tree state host user change a;
  entered = λ tree state call id s told. entered_as tree state call id s told;
}
