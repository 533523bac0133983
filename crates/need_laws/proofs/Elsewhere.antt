-- A call at a server changes nothing that the server doesn't know.
use Rattle.std.proofs.Common.{◌≡◌, ◌≢◌, ℕ, ◌+◌, ◌==◌, Bool, true, false, ◌||◌, not, List, [], Option, Some, None, Result, Ok, Err, refl, sym, ap, ◌∙◌, subst}
use Rattle.std.specs.Prelude.{filter, if◌then◌else◌}
use Rattle.base_types.specs.Outcomes.{and_then, either}
use Rattle.base_types.specs.declared.ids.HostId.{HostId}
use Rattle.base_types.specs.declared.ids.ServerId.{ServerId}
use Rattle.base_types.specs.declared.user.User.{User}
use Rattle.tree_calls.specs.Rosters.{user_of}
use Rattle.tree_calls.specs.declared.call.Call.{Call}
use Rattle.tree_calls.specs.declared.call.Call.TheVariants.{NewFileset, Create, MakeDir, Remove, Rename, Truncate, SetAcl, CloneFileset, Read, Write, List as ListNames, Stat, GetAcl, Sync, Lock, Unlock, OpenFile, CloseFile, MoveFileset}
use Rattle.tree_calls.specs.declared.reply.Refusal.{Refusal}
use Rattle.tree_calls.specs.declared.reply.Refusal.TheVariants.{CrossFileset, NoFileset, NotLocked, NotOpened}
use Rattle.tree_calls.specs.declared.reply.Reply.TheVariants.{Ok as Done}
use Rattle.tree_filesets.specs.declared.fileset.Fileset.{Fileset}
use Rattle.tree_filesets.specs.Checks.{unless}
use Rattle.tree_filesets.specs.Founding.{cloned, new_fileset}
use Rattle.tree_answers.specs.Answers.{answer_for, answer_to, fileset_row, for_user}
use Rattle.tree_answers.specs.Finding.{Answer, fileset_place, id_place, refuse, same_fileset}
use Rattle.tree_answers.specs.Founding.{clone_answer, clone_target, new_fileset_answer, new_fileset_target, next_id, room_of, with_fileset}
use Rattle.tree_answers.specs.Locks.{has_lock, lock_answer, lock_check, unlock_answer}
use Rattle.tree_answers.specs.Opens.{close_answer, has_open, open_answer, open_check}
use Rattle.tree_answers.specs.Uses.{is_used}
use Rattle.tree_answers.specs.declared.tree.ServerRoom.{ServerRoom}
use Rattle.tree_answers.specs.declared.tree.Tree.{Tree}
use Rattle.tree_answers.proofs.Kept.{cloned_parts, cloned_so}
use Rattle.tree_answers.proofs.Places.{equal_is}
use Rattle.tree_laws.proofs.Steps.{same_number}
use Rattle.need_laws.specs.Known.{IsAt, filesets_of, is_known, is_record_of, records_of}
use Rattle.need_laws.specs.Laws.{CallsStayAtTheirServer, OthersStay, PartsAreSame, StaysElsewhere}
use Rattle.need_laws.proofs.Lists.{filter_twice, insert_beside, or_left}
use Rattle.need_laws.proofs.Rooms.{rooms_stay}
use Rattle.need_laws.proofs.Rows.{IsPlaced, placed, row, row_refused, row_stays, row_there}
use Rattle.need_laws.proofs.Rows.IsPlaced.{Nowhere, There}
use Rattle.need_laws.proofs.Same.{new_at, new_room_is}

module _ (tree : Tree) (server : ServerId) where
  stays : StaysElsewhere server tree tree
  stays = record { roster = refl; rooms = λ other h. refl; records = refl; filesets = refl }

  -- a row
  row_elsewhere : (host : HostId) (user : User) (call : Call) (name : List ℕ) → StaysElsewhere server tree (row (is_used tree.locks tree.opens) host user call tree (fileset_place tree server name)).tree
  row_elsewhere host user call name = by_place (placed tree server name)
    where
      by_place : IsPlaced tree server name → StaysElsewhere server tree (row (is_used tree.locks tree.opens) host user call tree (fileset_place tree server name)).tree
      by_place (Nowhere e n) = subst (λ x. StaysElsewhere server tree x.tree) (sym (row_refused (is_used tree.locks tree.opens) host user call tree (fileset_place tree server name) NoFileset e)) stays
      by_place (There i f e p g found) =
          subst (λ x. StaysElsewhere server tree x.tree) (sym (row_there (is_used tree.locks tree.opens) host user call tree (fileset_place tree server name) i f e g))
          (row_stays (is_used tree.locks tree.opens) host user call tree server name i f found g)

  moved_elsewhere : (host : HostId) (user : User) (call : Call) (name : List ℕ) (cross : Bool) →
      StaysElsewhere server tree (row (is_used tree.locks tree.opens) host user call tree (and_then (fileset_place tree server name) (λ place. unless cross CrossFileset (Ok place)))).tree
  moved_elsewhere host user call name false =
      subst (λ d. StaysElsewhere server tree (row (is_used tree.locks tree.opens) host user call tree d).tree) (sym (then_self (fileset_place tree server name))) (row_elsewhere host user call name)
    where
      then_self : (found : Result ℕ Refusal) → and_then found (λ place. Ok place) ≡ found
      then_self (Ok place) = refl
      then_self (Err refusal) = refl
  moved_elsewhere host user call name true = by_result (fileset_place tree server name)
    where
      by_result : (found : Result ℕ Refusal) → StaysElsewhere server tree (row (is_used tree.locks tree.opens) host user call tree (and_then found (λ place. Err CrossFileset))).tree
      by_result (Ok place) = stays
      by_result (Err refusal) = stays

  -- one more
  more_elsewhere : (room : ServerRoom) (new : Fileset) → room_of tree.servers server ≡ Some room → new.server ≡ server → StaysElsewhere server tree (with_fileset tree server room new)
  more_elsewhere room new there at =
      let known : is_known (records_of server tree) server new ≡ true = or_left _ _ (ap (λ id. id.0 == server.0) at ∙ same_number server.0) in
      record {
        roster = refl;
        rooms = λ other h. rooms_stay tree.servers server other room (record room { next = room.next + 1 }) there h;
        records = refl;
        filesets = insert_beside (λ x. not (is_known (records_of server tree) server x)) tree.filesets (id_place tree.filesets new.id) new (ap not known);
      }

  checked : {A : Type 0} (c : Result A Refusal) (after : A → Tree) → ((found : A) → c ≡ Ok found → StaysElsewhere server tree (after found)) →
      StaysElsewhere server tree (either c (λ found. let answer : Answer = record { reply = Done; tree = after found } in answer) (refuse tree)).tree
  checked (Ok found) after each = each found refl
  checked (Err refusal) after each = stays

  tested : (b : Bool) (after : Tree) (refusal : Refusal) → StaysElsewhere server tree after → StaysElsewhere server tree (if b then refuse tree refusal else record { reply = Done; tree = after }).tree
  tested true after refusal each = stays
  tested false after refusal each = each

-- a call
module _ (tree : Tree) (host : HostId) (user : User) where
  elsewhere : (call : Call) (server : ServerId) → IsAt server call → StaysElsewhere server tree (answer_for tree host call user).tree
  unfolding answer_for fileset_row new_fileset_answer clone_answer lock_answer open_answer unlock_answer close_answer
  elsewhere (NewFileset at name objects owner) server e = subst (λ s. StaysElsewhere s tree (new_fileset_answer tree at name objects owner).tree) e
      (checked tree at (new_fileset_target tree at name objects) (λ room. with_fileset tree at room (new_fileset at (next_id at room) name objects owner))
      (λ room h. more_elsewhere tree at room (new_fileset at (next_id at room) name objects owner) (new_room_is tree at name objects room h) (new_at at room name objects owner)))
  elsewhere (CloneFileset at source new) server e = subst (λ s. StaysElsewhere s tree (clone_answer tree user at source new).tree) e
      (checked tree at (clone_target tree user at source new) (λ found. with_fileset tree at found.1 (cloned found.0 (next_id at found.1) new))
      (λ found h. let so = cloned_so tree user at source new found h in
      more_elsewhere tree at found.1 (cloned found.0 (next_id at found.1) new) so.room.there ((cloned_parts found.0 (next_id at found.1) new).1 ∙ so.at)))
  elsewhere (MoveFileset at name to) server e = absurd e
  elsewhere (Lock label place writing from len) server e = checked tree server (lock_check tree host user label place writing from len) _ (λ found h. record { roster = refl; rooms = λ other k. refl; records = refl; filesets = refl })
  elsewhere (Unlock label) server e = tested tree server (not (has_lock tree.locks host label)) _ NotLocked (record { roster = refl; rooms = λ other k. refl; records = refl; filesets = refl })
  elsewhere (OpenFile label place kind) server e = checked tree server (open_check tree host user label place kind) _ (λ found h. record { roster = refl; rooms = λ other k. refl; records = refl; filesets = refl })
  elsewhere (CloseFile label) server e = tested tree server (not (has_open tree.opens host label)) _ NotOpened (record { roster = refl; rooms = λ other k. refl; records = refl; filesets = refl })
  elsewhere (Rename from to) server e = subst (λ s. StaysElsewhere s tree (fileset_row tree host user (Rename from to)).tree) e (moved_elsewhere tree from.server host user (Rename from to) from.fileset (not (same_fileset from to)))
  elsewhere (Create place) server e = subst (λ s. StaysElsewhere s tree (fileset_row tree host user (Create place)).tree) e (row_elsewhere tree place.server host user (Create place) place.fileset)
  elsewhere (MakeDir place) server e = subst (λ s. StaysElsewhere s tree (fileset_row tree host user (MakeDir place)).tree) e (row_elsewhere tree place.server host user (MakeDir place) place.fileset)
  elsewhere (Remove place) server e = subst (λ s. StaysElsewhere s tree (fileset_row tree host user (Remove place)).tree) e (row_elsewhere tree place.server host user (Remove place) place.fileset)
  elsewhere (Truncate place len) server e = subst (λ s. StaysElsewhere s tree (fileset_row tree host user (Truncate place len)).tree) e (row_elsewhere tree place.server host user (Truncate place len) place.fileset)
  elsewhere (SetAcl place which list) server e = subst (λ s. StaysElsewhere s tree (fileset_row tree host user (SetAcl place which list)).tree) e (row_elsewhere tree place.server host user (SetAcl place which list) place.fileset)
  elsewhere (Read place from len) server e = subst (λ s. StaysElsewhere s tree (fileset_row tree host user (Read place from len)).tree) e (row_elsewhere tree place.server host user (Read place from len) place.fileset)
  elsewhere (Write place from bytes) server e = subst (λ s. StaysElsewhere s tree (fileset_row tree host user (Write place from bytes)).tree) e (row_elsewhere tree place.server host user (Write place from bytes) place.fileset)
  elsewhere (ListNames place) server e = subst (λ s. StaysElsewhere s tree (fileset_row tree host user (ListNames place)).tree) e (row_elsewhere tree place.server host user (ListNames place) place.fileset)
  elsewhere (Stat place) server e = subst (λ s. StaysElsewhere s tree (fileset_row tree host user (Stat place)).tree) e (row_elsewhere tree place.server host user (Stat place) place.fileset)
  elsewhere (GetAcl place which) server e = subst (λ s. StaysElsewhere s tree (fileset_row tree host user (GetAcl place which)).tree) e (row_elsewhere tree place.server host user (GetAcl place which) place.fileset)
  elsewhere (Sync place) server e = subst (λ s. StaysElsewhere s tree (fileset_row tree host user (Sync place)).tree) e (row_elsewhere tree place.server host user (Sync place) place.fileset)

pub calls_stay_at_their_server : CallsStayAtTheirServer
unfolding answer_to
calls_stay_at_their_server tree server host call at = by_user (user_of tree.roster host)
  where
    by_user : (user : Option User) → StaysElsewhere server tree (for_user tree user (answer_for tree host call)).tree
    by_user None = stays tree server
    by_user (Some user) = elsewhere tree host user call server at

or_false : (b : Bool) → (b || false) ≡ true → b ≡ true
or_false true h = refl
or_false false h = h

elsewhere_at : (server other : ServerId) → other ≢ server → (fileset : Fileset) (b : Bool) → (fileset.server.0 == server.0) ≡ b → ((fileset.server.0 == other.0) || false) ≡ true → not (b || false) ≡ true
elsewhere_at server other differ fileset true e h =
    let here = equal_is fileset.server.0 server.0 e in
    let there = equal_is fileset.server.0 other.0 (or_false _ h) in
    absurd (differ (ap (λ n. let id : ServerId = record { 0 = n } in id) (sym there ∙ here)))
elsewhere_at server other differ fileset false e h = refl

-- where no fileset has moved away other servers know nothing of the server's
pub others_stay : OthersStay
others_stay tree server other host call none at differ =
    let new = (answer_to tree host call).tree in
    let so = calls_stay_at_their_server tree server host call at in
    let mine : (t : Tree) → t.away ≡ [] → filesets_of other t ≡ filter (λ fileset. (fileset.server.0 == other.0) || false) t.filesets =
    λ t e. ap (λ records. filter (is_known (filter (is_record_of other) records) other) t.filesets) e in
    let its : filter (λ x. not (is_known (records_of server tree) server x)) ≡ filter (λ x. not ((x.server.0 == server.0) || false)) = ap (λ records. filter (λ x. not (is_known (filter (is_record_of server) records) server x))) none in
    record {
      roster = sym so.roster;
      room = sym (so.rooms other differ);
      filesets =
          mine tree none
          ∙ sym (apart tree.filesets)
          ∙ ap (λ xs. filter (λ fileset. (fileset.server.0 == other.0) || false) xs) (sym (ap (λ f. f new.filesets) (sym its) ∙ so.filesets ∙ ap (λ f. f tree.filesets) its))
          ∙ apart new.filesets
          ∙ sym (mine new (so.records ∙ none));
      records = ap (filter (is_record_of other)) (sym so.records);
    }
  where
    apart : (xs : List Fileset) →
        filter (λ fileset. (fileset.server.0 == other.0) || false) (filter (λ x. not ((x.server.0 == server.0) || false)) xs) ≡ filter (λ fileset. (fileset.server.0 == other.0) || false) xs
    apart xs = filter_twice (λ fileset. (fileset.server.0 == other.0) || false) (λ x. not ((x.server.0 == server.0) || false)) xs (λ fileset h. elsewhere_at server other differ fileset (fileset.server.0 == server.0) refl h)

-- a server's filesets by themselves
pub parts_are_same : PartsAreSame
parts_are_same tree server none = record {
  roster = refl;
  room = refl;
  filesets =
      mine (filter (λ fileset. fileset.server.0 == server.0) tree.filesets)
      ∙ filter_twice (λ fileset. (fileset.server.0 == server.0) || false) (λ fileset. fileset.server.0 == server.0) tree.filesets (λ fileset h. or_false (fileset.server.0 == server.0) h)
      ∙ sym (mine tree.filesets);
  records = refl;
}
  where
    mine : (xs : List Fileset) → filter (is_known (records_of server tree) server) xs ≡ filter (λ fileset. (fileset.server.0 == server.0) || false) xs
    mine xs = ap (λ records. filter (is_known (filter (is_record_of server) records) server) xs) none
