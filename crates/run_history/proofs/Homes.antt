-- Calls that move no fileset leave each where it was made.
use Rattle.std.proofs.Common.{Bool, Err, List, None, Ok, Option, Result, Some, [], ap, arith, false, not, subst, suc}
use Rattle.std.proofs.Common.{zero, ◌∷◌, refl, sym, true, ℕ, ◌*◌, ◌+◌, ◌/◌, ◌==◌, ◌∙◌, ◌≡◌, ◌≤◌}
use Rattle.std.proofs.lemmas.Bool.{and_parts, eqb-true, false≢true}
use Rattle.std.specs.List.{list_all}
use Rattle.std.specs.Prelude.{if◌then◌else◌, slice_get}
use Rattle.base_types.specs.Outcomes.{and_then, either}
use Rattle.base_types.specs.declared.ids.FilesetId.{FilesetId}
use Rattle.base_types.specs.declared.ids.HostId.{HostId}
use Rattle.base_types.specs.declared.ids.ServerId.{ServerId}
use Rattle.base_types.specs.declared.limits.TheConstants.{FILESET_NUMBER_MAX}
use Rattle.base_types.specs.declared.user.User.{User}
use Rattle.tree_calls.specs.Rosters.{user_of}
use Rattle.tree_calls.specs.declared.call.Call.{Call}
use Rattle.tree_calls.specs.declared.call.Call.TheVariants.{CloneFileset, CloseFile, Create, GetAcl, List as ListNames}
use Rattle.tree_calls.specs.declared.call.Call.TheVariants.{Lock as LockCall, MakeDir, MoveFileset, NewFileset}
use Rattle.tree_calls.specs.declared.call.Call.TheVariants.{OpenFile, Read, Remove, Rename, SetAcl, Stat, Sync}
use Rattle.tree_calls.specs.declared.call.Call.TheVariants.{Truncate, Unlock, Write}
use Rattle.tree_calls.specs.declared.reply.Refusal.{Refusal}
use Rattle.tree_calls.specs.declared.reply.Refusal.TheVariants.{Exists, NotHome, NotLocked, NotOpened}
use Rattle.tree_calls.specs.declared.reply.Reply.TheVariants.{Ok as Done}
use Rattle.tree_filesets.proofs.Stays.{stays_itself}
use Rattle.tree_filesets.proofs.Targets.{then_ok, unless_ok}
use Rattle.tree_filesets.specs.Answers.{Answered}
use Rattle.tree_filesets.specs.Checks.{unless}
use Rattle.tree_filesets.specs.Founding.{cloned, control_check, new_fileset}
use Rattle.tree_filesets.specs.Laws.{IsSameFileset}
use Rattle.tree_filesets.specs.Promises.{clone_promise, new_promise}
use Rattle.tree_filesets.specs.declared.fileset.Fileset.{Fileset}
use Rattle.tree_answers.proofs.Inserted.{all_insert}
use Rattle.tree_answers.proofs.Kept.{room_ok}
use Rattle.tree_answers.proofs.Places.{all_set}
use Rattle.tree_answers.specs.Answers.{answer_at, answer_for, answer_to, fileset_row, for_user}
use Rattle.tree_answers.specs.Finding.{Answer, fileset_named, id_place, is_taken, refuse}
use Rattle.tree_answers.specs.Founding.{clone_answer, clone_source, clone_target, new_fileset_answer, new_fileset_target}
use Rattle.tree_answers.specs.Founding.{next_id, room_for, with_fileset}
use Rattle.tree_answers.specs.Locks.{has_lock, lock_answer, lock_check, unlock_answer}
use Rattle.tree_answers.specs.Opens.{close_answer, has_open, open_answer, open_check}
use Rattle.tree_answers.specs.declared.tree.ServerRoom.{ServerRoom}
use Rattle.tree_answers.specs.declared.tree.Tree.{Tree}
use Rattle.tree_laws.proofs.Steps.{same_number}
use Rattle.run_history.specs.Changes.{is_home}
use Rattle.run_rules.specs.Messages.{home}
use Rattle.run_rules.specs.Wants.{moves_fileset}

all_at : {X : Type 0} (p : X → Bool) (xs : List X) (i : ℕ) (x : X) → list_all p xs ≡ true → slice_get xs i ≡ Some x
    → p x ≡ true
all_at p [] i x all e = absurd (let q : None ≡ Some x = e in cc)
all_at p (y ∷ ys) zero x all e =
    let one : y ≡ x = (let q : Some y ≡ Some x = e in cc) in
    ap p (sym one) ∙ (and_parts (p y) (list_all p ys) all).0
all_at p (y ∷ ys) (suc i) x all e = all_at p ys i x (and_parts (p y) (list_all p ys) all).1 e

-- the number of a new fileset begins with its server's
new_home : (server : ServerId) (room : ServerRoom) → room.next ≤ FILESET_NUMBER_MAX
    → (server.0 == (home (next_id server room)).0) ≡ true
unfolding home
new_home server room few =
    let next : room.next ≤ 65535 = few in
    let q : server.0 ≡ (server.0 * 65536 + room.next) / 65536 = omega (arith, next) in
    ap (λ n. server.0 == n) (sym q) ∙ same_number server.0

room_few : (tree : Tree) (server : ServerId) (blocks : ℕ) (room : ServerRoom) → room_for tree server blocks ≡ Ok room
    → room.next ≤ FILESET_NUMBER_MAX
room_few tree server blocks room e = (room_ok tree server blocks room e).number

new_few : (tree : Tree) (server : ServerId) (name : List ℕ) (objects : ℕ) (room : ServerRoom)
    → new_fileset_target tree server name objects ≡ Ok room → room.next ≤ FILESET_NUMBER_MAX
unfolding new_fileset_target
new_few tree server name objects room e =
    let a = unless_ok (is_taken tree server name) Exists (room_for tree server (new_promise objects)) room e in
    room_few tree server (new_promise objects) room a.1

new_is_home : (server : ServerId) (room : ServerRoom) (name : List ℕ) (objects : ℕ) (owner : User)
    → room.next ≤ FILESET_NUMBER_MAX
    → is_home (new_fileset server (next_id server room) name objects owner) ≡ true
unfolding new_fileset
new_is_home server room name objects owner few = new_home server room few

-- a clone is made at the server of its source
clone_so : (tree : Tree) (user : User) (server : ServerId) (source new : List ℕ) (found : Fileset × ServerRoom)
    → clone_target tree user server source new ≡ Ok found
    → (found.1.next ≤ FILESET_NUMBER_MAX) × (found.0.server.0 ≡ server.0)
unfolding clone_target clone_source
clone_so tree user server source new found e =
    let a = then_ok (clone_source tree user server source) (λ fileset.
    unless (is_taken tree server new) Exists (
    and_then (room_for tree server (clone_promise fileset)) (λ room. Ok (fileset, room)))) found e in
    let b = unless_ok (is_taken tree server new) Exists
    (and_then (room_for tree server (clone_promise a.0)) (λ room. Ok (a.0, room))) found a.2 in
    let c = then_ok (room_for tree server (clone_promise a.0)) (λ room. Ok (a.0, room)) found b.1 in
    let one : (a.0, c.0) ≡ found = same_found (a.0, c.0) found c.2 in
    let d = then_ok (fileset_named tree server source) (λ fileset.
    unless (not (fileset.server.0 == server.0)) NotHome (
    and_then (control_check fileset user) (λ _. Ok fileset))) a.0 a.1 in
    let f = unless_ok (not (d.0.server.0 == server.0)) NotHome
    (and_then (control_check d.0 user) (λ _. Ok d.0)) a.0 d.2 in
    let g = then_ok (control_check d.0 user) (λ _. Ok d.0) a.0 f.1 in
    let its : d.0 ≡ a.0 = same_fileset_ok d.0 a.0 g.2 in (
      subst (λ (y : Fileset × ServerRoom). y.1.next ≤ FILESET_NUMBER_MAX) one
          (room_few tree server (clone_promise a.0) c.0 c.1),
      ap (λ (y : Fileset × ServerRoom). y.0.server.0) (sym one)
          ∙ (ap (λ (y : Fileset). y.server.0) (sym its) ∙ at_it (d.0.server.0) server.0 f.0),
    )
  where
    same_found : (x y : Fileset × ServerRoom) → (let l : Result (Fileset × ServerRoom) Refusal = Ok x in
        let r : Result (Fileset × ServerRoom) Refusal = Ok y in l ≡ r) → x ≡ y
    same_found x y e = cc

    same_fileset_ok : (x y : Fileset) → (let l : Result Fileset Refusal = Ok x in let r : Result Fileset Refusal = Ok y in
        l ≡ r) → x ≡ y
    same_fileset_ok x y e = cc

    at_it : (a b : ℕ) → not (a == b) ≡ false → a ≡ b
    at_it a b e = go (a == b) refl e
      where
        go : (q : Bool) → (a == b) ≡ q → not q ≡ false → a ≡ b
        go true k e = eqb-true a b k
        go false k e = absurd (false≢true (sym e))

clone_is_home : (source : Fileset) (server : ServerId) (room : ServerRoom) (new : List ℕ)
    → room.next ≤ FILESET_NUMBER_MAX → source.server.0 ≡ server.0
    → is_home (cloned source (next_id server room) new) ≡ true
unfolding cloned
clone_is_home source server room new few same =
    ap (λ n. n == (home (next_id server room)).0) same ∙ new_home server room few

module _ (tree : Tree) (homes : list_all is_home tree.filesets ≡ true) where
  with_home : (server : ServerId) (room : ServerRoom) (fileset : Fileset) → is_home fileset ≡ true
      → list_all is_home (with_fileset tree server room fileset).filesets ≡ true
  with_home server room fileset e = all_insert is_home fileset (id_place tree.filesets fileset.id) tree.filesets e homes

  row_home : (ask : Fileset → Answered) → ((fileset : Fileset) → IsSameFileset fileset (ask fileset).fileset)
      → (found : Result ℕ Refusal)
      → list_all is_home (either found (λ place. answer_at tree place (slice_get tree.filesets place) ask) (refuse tree)).tree.filesets
      ≡ true
  row_home ask same (Err refusal) = homes
  row_home ask same (Ok place) = by (slice_get tree.filesets place) refl
    where
      by : (o : Option Fileset) → slice_get tree.filesets place ≡ o
          → list_all is_home (answer_at tree place o ask).tree.filesets ≡ true
      by None e = homes
      by (Some fileset) e =
          all_set is_home tree.filesets place (ask fileset).fileset
          (ap (λ (y : ServerId × FilesetId). y.0.0 == (home y.1).0) (λ i. ((same fileset).server i, (same fileset).id i))
          ∙ all_at is_home tree.filesets place fileset homes e) homes

  if_home : (b : Bool) (refusal : Refusal) (answer : Answer) → list_all is_home answer.tree.filesets ≡ true
      → list_all is_home (if b then refuse tree refusal else answer).tree.filesets ≡ true
  if_home true refusal answer e = homes
  if_home false refusal answer e = e

  either_home : {A : Type 0} (found : Result A Refusal) (next : A → Answer)
      → ((x : A) → found ≡ Ok x → list_all is_home (next x).tree.filesets ≡ true)
      → list_all is_home (either found next (refuse tree)).tree.filesets ≡ true
  either_home (Ok x) next all = all x refl
  either_home (Err refusal) next all = homes

  module _ (host : HostId) (user : User) where
    for_home : (call : Call) → moves_fileset call ≡ false
        → list_all is_home (answer_for tree host call user).tree.filesets ≡ true
    unfolding answer_for fileset_row new_fileset_answer clone_answer lock_answer open_answer unlock_answer close_answer
    for_home (NewFileset server name objects owner) e =
        either_home (new_fileset_target tree server name objects) (λ room. let answer : Answer = record {
          reply = Done;
          tree = with_fileset tree server room (new_fileset server (next_id server room) name objects owner);
        } in answer) (λ room q.
        with_home server room (new_fileset server (next_id server room) name objects owner)
        (new_is_home server room name objects owner (new_few tree server name objects room q)))
    for_home (CloneFileset server source new) e =
        either_home (clone_target tree user server source new) (λ (fileset, room). let answer : Answer = record {
          reply = Done;
          tree = with_fileset tree server room (cloned fileset (next_id server room) new);
        } in answer) (λ found q.
        let so = clone_so tree user server source new found q in
        with_home server found.1 (cloned found.0 (next_id server found.1) new)
        (clone_is_home found.0 server found.1 new so.0 so.1))
    for_home (MoveFileset server name to) e = absurd (false≢true (sym e))
    for_home (LockCall label place writing from len) e =
        either_home (lock_check tree host user label place writing from len) _ (λ found q. homes)
    for_home (OpenFile label place kind) e =
        either_home (open_check tree host user label place kind) _ (λ found q. homes)
    for_home (Unlock label) e = if_home (not (has_lock tree.locks host label)) NotLocked _ homes
    for_home (CloseFile label) e = if_home (not (has_open tree.opens host label)) NotOpened _ homes
    for_home (Create place) e = row_home _ (λ fileset. stays_itself fileset _ host user (Create place)) _
    for_home (MakeDir place) e = row_home _ (λ fileset. stays_itself fileset _ host user (MakeDir place)) _
    for_home (Remove place) e = row_home _ (λ fileset. stays_itself fileset _ host user (Remove place)) _
    for_home (Rename from to) e = row_home _ (λ fileset. stays_itself fileset _ host user (Rename from to)) _
    for_home (Truncate place len) e = row_home _ (λ fileset. stays_itself fileset _ host user (Truncate place len)) _
    for_home (SetAcl place which list) e =
        row_home _ (λ fileset. stays_itself fileset _ host user (SetAcl place which list)) _
    for_home (Read place from len) e = row_home _ (λ fileset. stays_itself fileset _ host user (Read place from len)) _
    for_home (Write place from bytes) e =
        row_home _ (λ fileset. stays_itself fileset _ host user (Write place from bytes)) _
    for_home (ListNames place) e = row_home _ (λ fileset. stays_itself fileset _ host user (ListNames place)) _
    for_home (Stat place) e = row_home _ (λ fileset. stays_itself fileset _ host user (Stat place)) _
    for_home (GetAcl place which) e = row_home _ (λ fileset. stays_itself fileset _ host user (GetAcl place which)) _
    for_home (Sync place) e = row_home _ (λ fileset. stays_itself fileset _ host user (Sync place)) _

  pub homes_after : (host : HostId) (call : Call) → moves_fileset call ≡ false
      → list_all is_home (answer_to tree host call).tree.filesets ≡ true
  unfolding answer_to
  homes_after host call e = by (user_of tree.roster host)
    where
      by : (o : Option User) → list_all is_home (for_user tree o (answer_for tree host call)).tree.filesets ≡ true
      by None = homes
      by (Some user) = for_home host user call e
