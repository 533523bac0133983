-- What a call at a server is answered, and what it leaves there, hangs on what the server knows.
use Rattle.std.proofs.Common.{◌≡◌, ℕ, ◌+◌, nat_lt, nat_le, Bool, true, false, not, List, Option, Some, None, Result, Ok, Err, refl, sym, ap, ◌∙◌, subst}
use Rattle.std.specs.Prelude.{if◌then◌else◌}
use Rattle.base_types.specs.Outcomes.{and_then, either}
use Rattle.base_types.specs.declared.ids.Fid.{Fid}
use Rattle.base_types.specs.declared.ids.HostId.{HostId}
use Rattle.base_types.specs.declared.ids.OpenKind.{OpenKind}
use Rattle.base_types.specs.declared.ids.ServerId.{ServerId}
use Rattle.base_types.specs.declared.limits.TheConstants.{LABELS_MAX, FILE_BYTES_MAX}
use Rattle.base_types.specs.declared.span.Span.{Span}
use Rattle.base_types.specs.declared.user.User.{User}
use Rattle.tree_calls.specs.Rosters.{user_of}
use Rattle.tree_calls.specs.declared.call.Call.{Call}
use Rattle.tree_calls.specs.declared.call.Call.TheVariants.{NewFileset, Create, MakeDir, Remove, Rename, Truncate, SetAcl, CloneFileset, Read, Write, List as ListNames, Stat, GetAcl, Sync, Lock, Unlock, OpenFile, CloseFile, MoveFileset}
use Rattle.tree_calls.specs.declared.place.Place.{Place}
use Rattle.tree_calls.specs.declared.reply.Refusal.{Refusal}
use Rattle.tree_calls.specs.declared.reply.Refusal.TheVariants.{AlreadyLocked, AlreadyOpened, CrossFileset, Exists, Locked, NotLocked, NotOpened, OpenConflict, TooBig, TooMany}
use Rattle.tree_calls.specs.declared.reply.Reply.TheVariants.{Ok as Done}
use Rattle.tree_objects.specs.Spans.{span_between}
use Rattle.tree_filesets.specs.declared.fileset.Fileset.{Fileset}
use Rattle.tree_filesets.specs.Checks.{unless}
use Rattle.tree_filesets.specs.Founding.{cloned, new_fileset}
use Rattle.tree_filesets.specs.Promises.{clone_promise, new_promise}
use Rattle.tree_filesets.specs.Uses.{lock_target, open_target}
use Rattle.tree_answers.specs.Answers.{answer_for, answer_to, fileset_row, for_user}
use Rattle.tree_answers.specs.Finding.{Answer, fileset_named, fileset_place, is_taken, refuse, same_fileset}
use Rattle.tree_answers.specs.Founding.{clone_answer, clone_source, clone_target, new_fileset_answer, new_fileset_target, next_id, room_for, room_of, with_fileset}
use Rattle.tree_answers.specs.Locks.{has_lock, is_excluded, is_own_locked, lock_answer, lock_check, lock_count, unlock_answer, with_lock}
use Rattle.tree_answers.specs.Opens.{close_answer, has_open, is_barred, open_answer, open_check, open_count, with_open}
use Rattle.tree_answers.specs.Uses.{is_used, lock_hold, open_hold, with_one, without_label}
use Rattle.tree_answers.specs.WellFormed.{ids_rise}
use Rattle.tree_answers.specs.declared.tree.LockUse.{LockUse}
use Rattle.tree_answers.specs.declared.tree.OpenUse.{OpenUse}
use Rattle.tree_answers.specs.declared.tree.ServerRoom.{ServerRoom}
use Rattle.tree_answers.specs.declared.tree.Tree.{Tree}
use Rattle.tree_answers.proofs.Kept.{cloned_parts, cloned_so, room_ok}
use Rattle.tree_filesets.proofs.Targets.{unless_ok}
use Rattle.need_laws.specs.Known.{IsAt, SameAt, SameUses}
use Rattle.need_laws.specs.Laws.{AnswersSame, CallsHangOnTheirServer}
use Rattle.need_laws.proofs.Founds.{same_named, same_source, same_taken}
use Rattle.need_laws.proofs.Rooms.{same_room, same_with}
use Rattle.need_laws.proofs.Rows.{row, same_checked, same_row}

-- a new fileset is its server's
pub new_at : (server : ServerId) (room : ServerRoom) (name : List ℕ) (objects : ℕ) (owner : User) → (new_fileset server (next_id server room) name objects owner).server ≡ server
unfolding new_fileset
new_at server room name objects owner = refl

-- with what room one comes
pub new_room_is : (tree : Tree) (server : ServerId) (name : List ℕ) (objects : ℕ) (room : ServerRoom) → new_fileset_target tree server name objects ≡ Ok room → room_of tree.servers server ≡ Some room
unfolding new_fileset_target
new_room_is tree server name objects room h =
    let (free, h1) = unless_ok (is_taken tree server name) Exists (room_for tree server (new_promise objects)) room h in (room_ok tree server (new_promise objects) room h1).there

module _ (a b : Tree) (server : ServerId) (same : SameAt server a b) (uses : SameUses a b) where
  -- what checks let through
  checked : {A : Type 0} (ca cb : Result A Refusal) → ca ≡ cb → (fa fb : A → Tree) → ((found : A) → ca ≡ Ok found → SameAt server (fa found) (fb found) × SameUses (fa found) (fb found)) →
      AnswersSame server (either ca (λ found. let answer : Answer = record { reply = Done; tree = fa found } in answer) (refuse a)) (either cb (λ found. let answer : Answer = record { reply = Done; tree = fb found } in answer) (refuse b))
  checked ca cb e fa fb after =
      subst (λ c. AnswersSame server (either ca (λ found. let answer : Answer = record { reply = Done; tree = fa found } in answer) (refuse a)) (either c (λ found. let answer : Answer = record { reply = Done; tree = fb found } in answer) (refuse b))) e
      (by_result ca refl)
    where
      by_result : (c : Result _ Refusal) → ca ≡ c →
          AnswersSame server (either c (λ found. let answer : Answer = record { reply = Done; tree = fa found } in answer) (refuse a)) (either c (λ found. let answer : Answer = record { reply = Done; tree = fb found } in answer) (refuse b))
      by_result (Ok found) k = let done = after found k in record { reply = refl; left = done.0; uses = done.1 }
      by_result (Err refusal) k = record { reply = refl; left = same; uses = uses }

  -- NewFileset
  new_target : (name : List ℕ) (objects : ℕ) → new_fileset_target a server name objects ≡ new_fileset_target b server name objects
  unfolding new_fileset_target
  new_target name objects =
      ap (λ t. unless t Exists (room_for a server (new_promise objects))) (same_taken a b server same name) ∙ ap (λ found. unless (is_taken b server name) Exists found) (same_room a b server same (new_promise objects))

  same_new : ids_rise a.filesets ≡ true → ids_rise b.filesets ≡ true → (host : HostId) (user : User) (name : List ℕ) (objects : ℕ) (owner : User) →
      AnswersSame server (answer_for a host (NewFileset server name objects owner) user) (answer_for b host (NewFileset server name objects owner) user)
  unfolding answer_for new_fileset_answer
  same_new ra rb host user name objects owner =
      checked (new_fileset_target a server name objects) (new_fileset_target b server name objects) (new_target name objects)
      (λ room. with_fileset a server room (new_fileset server (next_id server room) name objects owner)) (λ room. with_fileset b server room (new_fileset server (next_id server room) name objects owner))
      (λ room h. (
        same_with a b server same ra rb room (new_fileset server (next_id server room) name objects owner) (new_room_is a server name objects room h) (new_at server room name objects owner),
        record { locks = uses.locks; opens = uses.opens },
      ))

  -- CloneFileset
  clone_is : (user : User) (source new : List ℕ) → clone_target a user server source new ≡ clone_target b user server source new
  unfolding clone_target
  clone_is user source new =
      ap (λ found. and_then found (λ fileset. unless (is_taken a server new) Exists (and_then (room_for a server (clone_promise fileset)) (λ room. Ok (fileset, room))))) (same_source a b server same user source)
      ∙ ap (λ t. and_then (clone_source b user server source) (λ fileset. unless t Exists (and_then (room_for a server (clone_promise fileset)) (λ room. Ok (fileset, room))))) (same_taken a b server same new)
      ∙ each (clone_source b user server source)
    where
      each : (found : Result Fileset Refusal) →
          and_then found (λ fileset. unless (is_taken b server new) Exists (and_then (room_for a server (clone_promise fileset)) (λ room. Ok (fileset, room))))
          ≡ and_then {B = Fileset × ServerRoom} found (λ fileset. unless (is_taken b server new) Exists (and_then (room_for b server (clone_promise fileset)) (λ room. Ok (fileset, room))))
      each (Ok fileset) = ap (λ rooms. unless (is_taken b server new) Exists (and_then rooms (λ room. Ok (fileset, room)))) (same_room a b server same (clone_promise fileset))
      each (Err refusal) = refl

  same_clone : ids_rise a.filesets ≡ true → ids_rise b.filesets ≡ true → (host : HostId) (user : User) (source new : List ℕ) →
      AnswersSame server (answer_for a host (CloneFileset server source new) user) (answer_for b host (CloneFileset server source new) user)
  unfolding answer_for clone_answer
  same_clone ra rb host user source new =
      checked (clone_target a user server source new) (clone_target b user server source new) (clone_is user source new)
      (λ found. with_fileset a server found.1 (cloned found.0 (next_id server found.1) new)) (λ found. with_fileset b server found.1 (cloned found.0 (next_id server found.1) new))
      (λ found h.
      let so = cloned_so a user server source new found h in
      let its = cloned_parts found.0 (next_id server found.1) new in
      (same_with a b server same ra rb found.1 (cloned found.0 (next_id server found.1) new) so.room.there (its.1 ∙ so.at), record { locks = uses.locks; opens = uses.opens }))

  -- Lock
  lock_is : (host : HostId) (user : User) (label name : List ℕ) (path : List (List ℕ)) (writing : Bool) (from len : ℕ) → let place : Place = record { server = server; fileset = name; path = path } in
      lock_check a host user label place writing from len ≡ lock_check b host user label place writing from len
  unfolding lock_check
  lock_is host user label name path writing from len =
      let span = span_between from (from + len) in
      let rest : List LockUse → Fileset → Result (Fid × Span) Refusal = λ locks fileset. and_then (lock_target fileset user path writing) (λ fid. unless (nat_lt FILE_BYTES_MAX (from + len)) TooBig (
      unless (is_own_locked locks host fid span) AlreadyLocked (unless (is_excluded locks host fid span writing) Locked (Ok (fid, span))))) in
      ap (λ locks. unless (has_lock locks host label) AlreadyLocked (unless (nat_le LABELS_MAX (lock_count locks host)) TooMany (and_then (fileset_named a server name) (rest locks)))) uses.locks
      ∙ ap (λ found. unless (has_lock b.locks host label) AlreadyLocked (unless (nat_le LABELS_MAX (lock_count b.locks host)) TooMany (and_then found (rest b.locks)))) (same_named a b server same name)

  same_lock : (host : HostId) (user : User) (label name : List ℕ) (path : List (List ℕ)) (writing : Bool) (from len : ℕ) → let place : Place = record { server = server; fileset = name; path = path } in
      AnswersSame server (answer_for a host (Lock label place writing from len) user) (answer_for b host (Lock label place writing from len) user)
  unfolding answer_for lock_answer
  same_lock host user label name path writing from len =
      let place : Place = record { server = server; fileset = name; path = path } in
      let new = λ (found : Fid × Span). let lock : LockUse = record { host = host; label = label; fid = found.0; writing = writing; span = found.1 } in lock in
      checked (lock_check a host user label place writing from len) (lock_check b host user label place writing from len) (lock_is host user label name path writing from len)
      (λ found. with_lock a (new found)) (λ found. with_lock b (new found))
      (λ found h. (record { roster = same.roster; room = same.room; filesets = same.filesets; records = same.records }, record { locks = ap (λ locks. with_one lock_hold locks (new found)) uses.locks; opens = uses.opens }))

  -- OpenFile
  open_is : (host : HostId) (user : User) (label name : List ℕ) (path : List (List ℕ)) (kind : OpenKind) → let place : Place = record { server = server; fileset = name; path = path } in
      open_check a host user label place kind ≡ open_check b host user label place kind
  unfolding open_check
  open_is host user label name path kind =
      let rest : List OpenUse → Fileset → Result Fid Refusal = λ opens fileset. and_then (open_target fileset user path kind) (λ fid. unless (is_barred opens host fid kind) OpenConflict (Ok fid)) in
      ap (λ opens. unless (has_open opens host label) AlreadyOpened (unless (nat_le LABELS_MAX (open_count opens host)) TooMany (and_then (fileset_named a server name) (rest opens)))) uses.opens
      ∙ ap (λ found. unless (has_open b.opens host label) AlreadyOpened (unless (nat_le LABELS_MAX (open_count b.opens host)) TooMany (and_then found (rest b.opens)))) (same_named a b server same name)

  same_open : (host : HostId) (user : User) (label name : List ℕ) (path : List (List ℕ)) (kind : OpenKind) → let place : Place = record { server = server; fileset = name; path = path } in
      AnswersSame server (answer_for a host (OpenFile label place kind) user) (answer_for b host (OpenFile label place kind) user)
  unfolding answer_for open_answer
  same_open host user label name path kind =
      let place : Place = record { server = server; fileset = name; path = path } in
      let new = λ (fid : Fid). let opened : OpenUse = record { host = host; label = label; fid = fid; kind = kind } in opened in
      checked (open_check a host user label place kind) (open_check b host user label place kind) (open_is host user label name path kind)
      (λ fid. with_open a (new fid)) (λ fid. with_open b (new fid))
      (λ fid h. (record { roster = same.roster; room = same.room; filesets = same.filesets; records = same.records }, record { locks = uses.locks; opens = ap (λ opens. with_one open_hold opens (new fid)) uses.opens }))

  -- Unlock, CloseFile
  unlocked : (x y : Bool) → x ≡ y → (fa fb : Tree) → SameAt server fa fb → SameUses fa fb → (refusal : Refusal) →
      AnswersSame server (if x then refuse a refusal else record { reply = Done; tree = fa }) (if y then refuse b refusal else record { reply = Done; tree = fb })
  unlocked x y e fa fb left after refusal =
      subst (λ z. AnswersSame server (if x then refuse a refusal else record { reply = Done; tree = fa }) (if z then refuse b refusal else record { reply = Done; tree = fb })) e (by_test x)
    where
      by_test : (z : Bool) → AnswersSame server (if z then refuse a refusal else record { reply = Done; tree = fa }) (if z then refuse b refusal else record { reply = Done; tree = fb })
      by_test true = record { reply = refl; left = same; uses = uses }
      by_test false = record { reply = refl; left = left; uses = after }

  same_unlock : (host : HostId) (user : User) (label : List ℕ) → AnswersSame server (answer_for a host (Unlock label) user) (answer_for b host (Unlock label) user)
  unfolding answer_for unlock_answer
  same_unlock host user label =
      unlocked (not (has_lock a.locks host label)) (not (has_lock b.locks host label)) (ap (λ locks. not (has_lock locks host label)) uses.locks)
      (record a { locks = without_label lock_hold a.locks host label }) (record b { locks = without_label lock_hold b.locks host label })
      (record { roster = same.roster; room = same.room; filesets = same.filesets; records = same.records })
      (record { locks = ap (λ locks. without_label lock_hold locks host label) uses.locks; opens = uses.opens }) NotLocked

  same_close : (host : HostId) (user : User) (label : List ℕ) → AnswersSame server (answer_for a host (CloseFile label) user) (answer_for b host (CloseFile label) user)
  unfolding answer_for close_answer
  same_close host user label =
      unlocked (not (has_open a.opens host label)) (not (has_open b.opens host label)) (ap (λ opens. not (has_open opens host label)) uses.opens)
      (record a { opens = without_label open_hold a.opens host label }) (record b { opens = without_label open_hold b.opens host label })
      (record { roster = same.roster; room = same.room; filesets = same.filesets; records = same.records })
      (record { locks = uses.locks; opens = ap (λ opens. without_label open_hold opens host label) uses.opens }) NotOpened

  -- what uses are looked at
  used : is_used a.locks a.opens ≡ is_used b.locks b.opens
  used = ap (λ locks. is_used locks a.opens) uses.locks ∙ ap (λ opens. is_used b.locks opens) uses.opens

  -- a row
  one_row : (host : HostId) (user : User) (call : Call) (name : List ℕ) →
      AnswersSame server (row (is_used a.locks a.opens) host user call a (fileset_place a server name)) (row (is_used b.locks b.opens) host user call b (fileset_place b server name))
  one_row host user call name =
      subst (λ u. AnswersSame server (row (is_used a.locks a.opens) host user call a (fileset_place a server name)) (row u host user call b (fileset_place b server name))) used
      (same_row (is_used a.locks a.opens) host user call a b server same uses name)

  moved_row : (host : HostId) (user : User) (call : Call) (name : List ℕ) (cross : Bool) →
      AnswersSame server (row (is_used a.locks a.opens) host user call a (and_then (fileset_place a server name) (λ place. unless cross CrossFileset (Ok place))))
      (row (is_used b.locks b.opens) host user call b (and_then (fileset_place b server name) (λ place. unless cross CrossFileset (Ok place))))
  moved_row host user call name cross =
      subst (λ u. AnswersSame server (row (is_used a.locks a.opens) host user call a (and_then (fileset_place a server name) (λ place. unless cross CrossFileset (Ok place))))
      (row u host user call b (and_then (fileset_place b server name) (λ place. unless cross CrossFileset (Ok place))))) used
      (same_checked (is_used a.locks a.opens) host user call a b server same uses name cross)

-- a call is at the server that it names
module _ (a b : Tree) (host : HostId) (user : User) (uses : SameUses a b) where
  at_own : (own server : ServerId) (x y : Answer) → own ≡ server → SameAt server a b → (SameAt own a b → AnswersSame own x y) → AnswersSame server x y
  at_own own server x y e same go = subst (λ s. AnswersSame s x y) e (go (subst (λ s. SameAt s a b) (sym e) same))

  same_for : (call : Call) (server : ServerId) → ids_rise a.filesets ≡ true → ids_rise b.filesets ≡ true → SameAt server a b → IsAt server call → AnswersSame server (answer_for a host call user) (answer_for b host call user)
  unfolding answer_for fileset_row
  same_for (NewFileset at name objects owner) server ra rb same e = at_own at server _ _ e same (λ s. same_new a b at s uses ra rb host user name objects owner)
  same_for (CloneFileset at source new) server ra rb same e = at_own at server _ _ e same (λ s. same_clone a b at s uses ra rb host user source new)
  same_for (MoveFileset at name to) server ra rb same e = absurd e
  same_for (Lock label place writing from len) server ra rb same e = at_own place.server server _ _ e same (λ s. same_lock a b place.server s uses host user label place.fileset place.path writing from len)
  same_for (Unlock label) server ra rb same e = same_unlock a b server same uses host user label
  same_for (OpenFile label place kind) server ra rb same e = at_own place.server server _ _ e same (λ s. same_open a b place.server s uses host user label place.fileset place.path kind)
  same_for (CloseFile label) server ra rb same e = same_close a b server same uses host user label
  same_for (Rename from to) server ra rb same e = at_own from.server server _ _ e same (λ s. moved_row a b from.server s uses host user (Rename from to) from.fileset (not (same_fileset from to)))
  same_for (Create place) server ra rb same e = at_own place.server server _ _ e same (λ s. one_row a b place.server s uses host user (Create place) place.fileset)
  same_for (MakeDir place) server ra rb same e = at_own place.server server _ _ e same (λ s. one_row a b place.server s uses host user (MakeDir place) place.fileset)
  same_for (Remove place) server ra rb same e = at_own place.server server _ _ e same (λ s. one_row a b place.server s uses host user (Remove place) place.fileset)
  same_for (Truncate place len) server ra rb same e = at_own place.server server _ _ e same (λ s. one_row a b place.server s uses host user (Truncate place len) place.fileset)
  same_for (SetAcl place which list) server ra rb same e = at_own place.server server _ _ e same (λ s. one_row a b place.server s uses host user (SetAcl place which list) place.fileset)
  same_for (Read place from len) server ra rb same e = at_own place.server server _ _ e same (λ s. one_row a b place.server s uses host user (Read place from len) place.fileset)
  same_for (Write place from bytes) server ra rb same e = at_own place.server server _ _ e same (λ s. one_row a b place.server s uses host user (Write place from bytes) place.fileset)
  same_for (ListNames place) server ra rb same e = at_own place.server server _ _ e same (λ s. one_row a b place.server s uses host user (ListNames place) place.fileset)
  same_for (Stat place) server ra rb same e = at_own place.server server _ _ e same (λ s. one_row a b place.server s uses host user (Stat place) place.fileset)
  same_for (GetAcl place which) server ra rb same e = at_own place.server server _ _ e same (λ s. one_row a b place.server s uses host user (GetAcl place which) place.fileset)
  same_for (Sync place) server ra rb same e = at_own place.server server _ _ e same (λ s. one_row a b place.server s uses host user (Sync place) place.fileset)

-- for the host's user
pub calls_hang_on_their_server : CallsHangOnTheirServer
unfolding answer_to
calls_hang_on_their_server a b server host call ra rb same uses at =
    subst (λ user. AnswersSame server (for_user a (user_of a.roster host) (answer_for a host call)) (for_user b user (answer_for b host call))) (ap (λ roster. user_of roster host) same.roster)
    (by_user (user_of a.roster host))
  where
    by_user : (user : Option User) → AnswersSame server (for_user a user (answer_for a host call)) (for_user b user (answer_for b host call))
    by_user None = record { reply = refl; left = same; uses = uses }
    by_user (Some user) = same_for a b host user uses call server ra rb same at
