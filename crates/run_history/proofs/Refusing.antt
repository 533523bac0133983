-- A Change that only enters a fileset is refused in the tree as on what the server keeps.
use Rattle.std.proofs.Common.{Bool, Err, List, None, Ok, Option, Result, Some, ap, false, nat_le, nat_lt, not, refl}
use Rattle.std.proofs.Common.{subst, sym, true, ℕ, ◌+◌, ◌==◌, ◌∙◌, ◌≡◌}
use Rattle.std.proofs.lemmas.Bool.{false≢true}
use Rattle.std.specs.List.{find}
use Rattle.std.specs.Prelude.{if◌then◌else◌, slice_get}
use Rattle.base_types.specs.Outcomes.{and_then, either}
use Rattle.base_types.specs.declared.ids.HostId.{HostId}
use Rattle.base_types.specs.declared.ids.ServerId.{ServerId}
use Rattle.base_types.specs.declared.limits.TheConstants.{FILE_BYTES_MAX, LABELS_MAX}
use Rattle.base_types.specs.declared.user.User.{User}
use Rattle.tree_calls.specs.Rosters.{user_of}
use Rattle.tree_calls.specs.declared.call.Call.{Call}
use Rattle.tree_calls.specs.declared.call.Call.TheVariants.{Create, GetAcl, List as ListNames, Lock as LockCall}
use Rattle.tree_calls.specs.declared.call.Call.TheVariants.{MakeDir, MoveFileset, OpenFile, Read, Remove, Rename}
use Rattle.tree_calls.specs.declared.call.Call.TheVariants.{SetAcl, Stat, Sync, Truncate, Write}
use Rattle.tree_calls.specs.declared.place.Place.{Place}
use Rattle.tree_calls.specs.declared.reply.Refusal.{Refusal}
use Rattle.tree_calls.specs.declared.reply.Refusal.TheVariants.{AlreadyLocked, AlreadyOpened, CrossFileset, Denied}
use Rattle.tree_calls.specs.declared.reply.Refusal.TheVariants.{Exists, InUse, Locked, NoFileset, NoRoom, OpenConflict}
use Rattle.tree_calls.specs.declared.reply.Refusal.TheVariants.{TooBig, TooMany}
use Rattle.tree_calls.specs.declared.reply.Reply.{Reply}
use Rattle.tree_calls.specs.declared.reply.Reply.TheVariants.{Ok as Done, Refused}
use Rattle.tree_filesets.specs.Checks.{unless}
use Rattle.tree_filesets.specs.Founding.{control_check}
use Rattle.tree_filesets.specs.Promises.{promise}
use Rattle.tree_filesets.specs.Rights.{read_right, write_right}
use Rattle.tree_filesets.specs.Uses.{is_changing, lock_target, open_target, right_to_open}
use Rattle.tree_filesets.specs.declared.fileset.Fileset.{Fileset}
use Rattle.tree_filesets.specs.declared.fileset.TheConstants.{MOVES_MAX}
use Rattle.need_host.specs.Questions.{fileset_of}
use Rattle.tree_answers.specs.Answers.{answer_for, answer_to, deciding_place, fileset_row, for_user}
use Rattle.tree_answers.specs.Away.{has_away}
use Rattle.tree_answers.specs.Finding.{Answer, fileset_named, fileset_place, found_or, leads_to, move_place, refuse}
use Rattle.tree_answers.specs.Finding.{same_fileset}
use Rattle.tree_answers.specs.Founding.{blocks_for, room_of, slot_for}
use Rattle.tree_answers.specs.Locks.{has_lock, lock_answer, lock_check, lock_count}
use Rattle.tree_answers.specs.Moving.{is_fileset_used, is_taken_by_other, leave_check, move_answer, move_room}
use Rattle.tree_answers.specs.Moving.{move_source, move_target}
use Rattle.tree_answers.specs.Opens.{has_open, is_barred, open_answer, open_check, open_count}
use Rattle.tree_answers.specs.Uses.{is_used}
use Rattle.tree_answers.specs.declared.tree.ServerRoom.{ServerRoom}
use Rattle.tree_answers.specs.declared.tree.Tree.{Tree}
use Rattle.need_server.proofs.KeptTree.{same_named as kept_named}
use Rattle.need_server.specs.Kept.{kept_fileset, kept_tree}
use Rattle.need_laws.proofs.Founds.{same_named}
use Rattle.need_laws.proofs.Replies.{replied, reply_for}
use Rattle.need_laws.proofs.Rows.{IsPlaced, placed, row_refused, row_there}
use Rattle.need_laws.proofs.Rows.IsPlaced.{Nowhere, There}
use Rattle.need_laws.specs.Known.{SameAt}
use Rattle.run_history.proofs.Nowhere.{Apart, apart_control, apart_err, apart_ok, apart_then, apart_unless, apart_use}
use Rattle.run_history.proofs.Nowhere.{is_row, never_nowhere}
use Rattle.run_history.specs.Meant.{LabelIsFree}

some_pair : (x y : ServerId × List ℕ) → Some x ≡ Some y → x ≡ y
some_pair x y e = cc

pub then_err : {A B : Type 0} (r : Result A Refusal) (next : A → Result B Refusal) (refusal : Refusal) → r ≡ Err refusal
    → and_then r next ≡ Err refusal
then_err (Ok x) next refusal e = absurd (let q : Ok x ≡ Err refusal = e in cc)
then_err (Err other) next refusal e = ap Err (let q : other ≡ refusal = cc in q)

passes_both : {A : Type 0} (a b : Bool) (r s : Refusal) (next : Result A Refusal) (refusal : Refusal) → a ≡ false
    → b ≡ false → next ≡ Err refusal → unless a r (unless b s next) ≡ Err refusal
passes_both false false r s next refusal e f g = g
passes_both true b r s next refusal e f g = absurd (false≢true (sym e))
passes_both false true r s next refusal e f g = absurd (false≢true (sym f))

-- a reply to checks
module _ {A : Type 0} (tree : Tree) (c : Result A Refusal) (after : A → Tree) where
  abbrev checked_reply : Reply
  checked_reply =
      (either c (λ found. let answer : Answer = record { reply = Done; tree = after found } in answer)
      (refuse tree)).reply

  is_refused : (refusal : Refusal) → c ≡ Err refusal → checked_reply ≡ Refused refusal
  is_refused refusal e = replied tree c after ∙ ap reply_for e

  not_refused : Apart c → checked_reply ≡ Refused NoFileset → ⊥
  not_refused apart e = go c apart (sym (replied tree c after) ∙ e)
    where
      go : (r : Result A Refusal) → Apart r → reply_for r ≡ Refused NoFileset → ⊥
      go (Ok x) a q = let k : Done ≡ Refused NoFileset = q in cc
      go (Err refusal) a q = a (ap Err (let k : refusal ≡ NoFileset = cc in k))

module _ (tree : Tree) (host : HostId) (user : User) where
  abbrev pub ReplyOf : Call → Reply
  ReplyOf call = (answer_for tree host call user).reply

  row_nowhere : (call : Call) → deciding_place tree call ≡ Err NoFileset
      → (fileset_row tree host user call).reply ≡ Refused NoFileset
  unfolding fileset_row
  row_nowhere call e =
      ap (λ (a : Answer). a.reply)
      (row_refused (is_used tree.locks tree.opens) host user call tree (deciding_place tree call) NoFileset e)

  row_somewhere : (call : Call) (i : ℕ) (fileset : Fileset) → is_row call ≡ true → deciding_place tree call ≡ Ok i
      → slice_get tree.filesets i ≡ Some fileset → (fileset_row tree host user call).reply ≡ Refused NoFileset → ⊥
  unfolding fileset_row
  row_somewhere call i fileset row e g q =
      never_nowhere fileset (is_used tree.locks tree.opens) host user call row
      (sym (ap (λ (a : Answer). a.reply)
      (row_there (is_used tree.locks tree.opens) host user call tree (deciding_place tree call) i fileset e g)) ∙ q)

  row_crossed : (call : Call) (refusal : Refusal) → (refusal ≡ NoFileset → ⊥) → deciding_place tree call ≡ Err refusal
      → (fileset_row tree host user call).reply ≡ Refused NoFileset → ⊥
  unfolding fileset_row
  row_crossed call refusal other e q =
      let said : Refused refusal ≡ Refused NoFileset =
      sym (ap (λ (a : Answer). a.reply)
      (row_refused (is_used tree.locks tree.opens) host user call tree (deciding_place tree call) refusal e)) ∙ q in
      other (let k : refusal ≡ NoFileset = cc in k)

  module _ (server : ServerId) (name : List ℕ) where
    abbrev pair : ServerId × List ℕ
    pair = (server, name)

    -- where the fileset isn't there
    module _ (place_none : fileset_place tree server name ≡ Err NoFileset)
        (named_none : fileset_named tree server name ≡ Err NoFileset) where
      place_at : (x : ServerId × List ℕ) → Some x ≡ Some pair → fileset_place tree x.0 x.1 ≡ Err NoFileset
      place_at x e = subst (λ (y : ServerId × List ℕ). fileset_place tree y.0 y.1 ≡ Err NoFileset)
          (sym (some_pair x pair e)) place_none

      named_at : (x : ServerId × List ℕ) → Some x ≡ Some pair → fileset_named tree x.0 x.1 ≡ Err NoFileset
      named_at x e = subst (λ (y : ServerId × List ℕ). fileset_named tree y.0 y.1 ≡ Err NoFileset)
          (sym (some_pair x pair e)) named_none

      pub nowhere : (call : Call) → fileset_of call ≡ Some pair → LabelIsFree tree host call
          → ReplyOf call ≡ Refused NoFileset
      unfolding answer_for lock_answer lock_check open_answer open_check move_answer move_target move_source
      nowhere (Create place) of free = row_nowhere (Create place) (place_at (place.server, place.fileset) of)
      nowhere (MakeDir place) of free = row_nowhere (MakeDir place) (place_at (place.server, place.fileset) of)
      nowhere (Remove place) of free = row_nowhere (Remove place) (place_at (place.server, place.fileset) of)
      nowhere (Rename from to) of free =
          row_nowhere (Rename from to)
          (then_err (fileset_place tree from.server from.fileset) _ NoFileset
          (place_at (from.server, from.fileset) of))
      nowhere (Truncate place len) of free =
          row_nowhere (Truncate place len) (place_at (place.server, place.fileset) of)
      nowhere (SetAcl place which list) of free =
          row_nowhere (SetAcl place which list) (place_at (place.server, place.fileset) of)
      nowhere (Read place from len) of free =
          row_nowhere (Read place from len) (place_at (place.server, place.fileset) of)
      nowhere (Write place from bytes) of free =
          row_nowhere (Write place from bytes) (place_at (place.server, place.fileset) of)
      nowhere (ListNames place) of free = row_nowhere (ListNames place) (place_at (place.server, place.fileset) of)
      nowhere (Stat place) of free = row_nowhere (Stat place) (place_at (place.server, place.fileset) of)
      nowhere (GetAcl place which) of free =
          row_nowhere (GetAcl place which) (place_at (place.server, place.fileset) of)
      nowhere (Sync place) of free = row_nowhere (Sync place) (place_at (place.server, place.fileset) of)
      nowhere (LockCall label place writing from len) of free =
          is_refused tree (lock_check tree host user label place writing from len) _ NoFileset
          (passes_both (has_lock tree.locks host label) (nat_le LABELS_MAX (lock_count tree.locks host)) AlreadyLocked
          TooMany _ NoFileset free.0 free.1
          (then_err (fileset_named tree place.server place.fileset) _ NoFileset
          (named_at (place.server, place.fileset) of)))
      nowhere (OpenFile label place kind) of free =
          is_refused tree (open_check tree host user label place kind) _ NoFileset
          (passes_both (has_open tree.opens host label) (nat_le LABELS_MAX (open_count tree.opens host)) AlreadyOpened
          TooMany _ NoFileset free.0 free.1
          (then_err (fileset_named tree place.server place.fileset) _ NoFileset
          (named_at (place.server, place.fileset) of)))
      nowhere (MoveFileset at label to) of free =
          is_refused tree (move_target tree user at label to) _ NoFileset
          (then_err (move_source tree user at label) _ NoFileset
          (then_err (fileset_place tree at label) _ NoFileset (place_at (at, label) of)))
      nowhere _ of free = absurd (let q : None ≡ Some pair = of in cc)

    -- where it is
    module _ (i : ℕ) (fileset : Fileset) (place_is : fileset_place tree server name ≡ Ok i)
        (there : slice_get tree.filesets i ≡ Some fileset)
        (named_is : fileset_named tree server name ≡ Ok fileset) where
      its_place : (x : ServerId × List ℕ) → Some x ≡ Some pair → fileset_place tree x.0 x.1 ≡ Ok i
      its_place x e = subst (λ (y : ServerId × List ℕ). fileset_place tree y.0 y.1 ≡ Ok i)
          (sym (some_pair x pair e)) place_is

      apart_named : (x : ServerId × List ℕ) → Some x ≡ Some pair → Apart (fileset_named tree x.0 x.1)
      apart_named x e = subst (λ (y : ServerId × List ℕ). Apart (fileset_named tree y.0 y.1))
          (sym (some_pair x pair e))
          (λ q. let k : Ok fileset ≡ Err NoFileset = sym named_is ∙ q in cc)

      row_is : (call : Call) (x : ServerId × List ℕ) → Some x ≡ Some pair → is_row call ≡ true
          → deciding_place tree call ≡ fileset_place tree x.0 x.1
          → (fileset_row tree host user call).reply ≡ Refused NoFileset → ⊥
      row_is call x of row e = row_somewhere call i fileset row (e ∙ its_place x of) there

      rename_is : (from to : Place)
          → (let x : ServerId × List ℕ = (from.server, from.fileset) in Some x ≡ Some pair)
          → (fileset_row tree host user (Rename from to)).reply ≡ Refused NoFileset → ⊥
      rename_is from to of = go (same_fileset from to) refl
        where
          first : move_place tree from to ≡ unless (not (same_fileset from to)) CrossFileset (Ok i)
          first = ap (λ (r : Result ℕ Refusal). and_then r (λ place.
              unless (not (same_fileset from to)) CrossFileset (Ok place))) (its_place (from.server, from.fileset) of)

          go : (b : Bool) → same_fileset from to ≡ b
              → (fileset_row tree host user (Rename from to)).reply ≡ Refused NoFileset → ⊥
          go true e =
              row_somewhere (Rename from to) i fileset refl
              (first ∙ ap (λ (b : Bool). unless (not b) CrossFileset (Ok i)) e) there
          go false e =
              row_crossed (Rename from to) CrossFileset (λ q. cc)
              (first ∙ ap (λ (b : Bool). unless (not b) CrossFileset (Ok i)) e)

      apart_slot : (to : ServerId) (recorded : Bool) → Apart (slot_for tree to recorded)
      apart_slot to recorded =
          apart_unless _ TooMany (found_or (room_of tree.servers to) TooMany) (λ q. cc)
          (found (room_of tree.servers to))
        where
          found : (o : Option ServerRoom) → Apart (found_or o TooMany)
          found None = apart_err TooMany (λ q. cc)
          found (Some room) = apart_ok room

      apart_room : (to : ServerId) (f : Fileset) → Apart (move_room tree to f)
      unfolding move_room
      apart_room to f =
          apart_then (slot_for tree to (has_away tree.away to f.id)) (λ room. blocks_for tree to room (promise f))
          (apart_slot to (has_away tree.away to f.id))
          (λ room. apart_unless _ NoRoom (Ok room) (λ q. cc) (apart_ok room))

      apart_leave : (to : ServerId) (f : Fileset) → Apart (leave_check tree to f)
      unfolding leave_check
      apart_leave to f =
          apart_unless (f.server.0 == to.0) Exists _ (λ q. cc) (
          apart_unless (is_fileset_used tree.locks tree.opens f.id) InUse _ (λ q. cc) (
          apart_unless (nat_le MOVES_MAX f.moves) TooMany _ (λ q. cc) (
          apart_unless (is_taken_by_other tree to f) Exists _ (λ q. cc) (apart_ok tt))))

      apart_source : (at : ServerId) (label : List ℕ)
          → (let x : ServerId × List ℕ = (at, label) in Some x ≡ Some pair) → Apart (move_source tree user at label)
      unfolding move_source
      apart_source at label of =
          subst (λ (r : Result ℕ Refusal). Apart {A = ℕ × Fileset} (and_then r (λ place.
          and_then (found_or (slice_get tree.filesets place) NoFileset) (λ f.
          and_then (control_check f user) (λ _. Ok (place, f)))))) (sym (its_place (at, label) of))
          (subst (λ (o : Option Fileset). Apart {A = ℕ × Fileset} (and_then (found_or o NoFileset) (λ f.
          and_then (control_check f user) (λ _. Ok (i, f))))) (sym there)
          (apart_then (control_check fileset user) _ (apart_control fileset user) (λ may. apart_ok (i, fileset))))

      pub somewhere : (call : Call) → fileset_of call ≡ Some pair → ReplyOf call ≡ Refused NoFileset → ⊥
      unfolding answer_for lock_answer lock_check open_answer open_check move_answer move_target
      somewhere (Create place) of = row_is (Create place) (place.server, place.fileset) of refl refl
      somewhere (MakeDir place) of = row_is (MakeDir place) (place.server, place.fileset) of refl refl
      somewhere (Remove place) of = row_is (Remove place) (place.server, place.fileset) of refl refl
      somewhere (Rename from to) of = rename_is from to of
      somewhere (Truncate place len) of = row_is (Truncate place len) (place.server, place.fileset) of refl refl
      somewhere (SetAcl place which list) of =
          row_is (SetAcl place which list) (place.server, place.fileset) of refl refl
      somewhere (Read place from len) of = row_is (Read place from len) (place.server, place.fileset) of refl refl
      somewhere (Write place from bytes) of = row_is (Write place from bytes) (place.server, place.fileset) of refl refl
      somewhere (ListNames place) of = row_is (ListNames place) (place.server, place.fileset) of refl refl
      somewhere (Stat place) of = row_is (Stat place) (place.server, place.fileset) of refl refl
      somewhere (GetAcl place which) of = row_is (GetAcl place which) (place.server, place.fileset) of refl refl
      somewhere (Sync place) of = row_is (Sync place) (place.server, place.fileset) of refl refl
      somewhere (LockCall label place writing from len) of =
          not_refused tree (lock_check tree host user label place writing from len) _
          (apart_unless (has_lock tree.locks host label) AlreadyLocked _ (λ q. cc) (
          apart_unless (nat_le LABELS_MAX (lock_count tree.locks host)) TooMany _ (λ q. cc) (
          apart_then (fileset_named tree place.server place.fileset) _
          (apart_named (place.server, place.fileset) of) (λ f.
          apart_then (lock_target f user place.path writing) _
          (apart_use f user place.path writing (if writing then write_right else read_right)) (λ fid.
          apart_unless (nat_lt FILE_BYTES_MAX (from + len)) TooBig _ (λ q. cc) (
          apart_unless _ AlreadyLocked _ (λ q. cc) (apart_unless _ Locked _ (λ q. cc) (apart_ok _))))))))
      somewhere (OpenFile label place kind) of =
          not_refused tree (open_check tree host user label place kind) _
          (apart_unless (has_open tree.opens host label) AlreadyOpened _ (λ q. cc) (
          apart_unless (nat_le LABELS_MAX (open_count tree.opens host)) TooMany _ (λ q. cc) (
          apart_then (fileset_named tree place.server place.fileset) _
          (apart_named (place.server, place.fileset) of) (λ f.
          apart_then (open_target f user place.path kind) _
          (apart_use f user place.path (is_changing kind) (right_to_open kind)) (λ fid.
          apart_unless (is_barred tree.opens host fid kind) OpenConflict _ (λ q. cc) (apart_ok fid))))))
      somewhere (MoveFileset at label to) of =
          not_refused tree (move_target tree user at label to) _
          (apart_then (move_source tree user at label) _ (apart_source at label of) (λ found.
          apart_then (leave_check tree to found.1) _ (apart_leave to found.1) (λ may.
          apart_then (move_room tree to found.1) _ (apart_room to found.1) (λ room. apart_ok _))))
      somewhere _ of = absurd (let q : None ≡ Some pair = of in cc)

pub for_its : (tree : Tree) (host : HostId) (call : Call) (user : User) → user_of tree.roster host ≡ Some user
    → (answer_to tree host call).reply ≡ (answer_for tree host call user).reply
unfolding answer_to
for_its tree host call user e = ap (λ (o : Option User). (for_user tree o (answer_for tree host call)).reply) e

pub for_none : (tree : Tree) (host : HostId) (call : Call) → user_of tree.roster host ≡ None
    → (answer_to tree host call).reply ≡ Refused (Denied 0)
unfolding answer_to
for_none tree host call e = ap (λ (o : Option User). (for_user tree o (answer_for tree host call)).reply) e

named_of : (tree : Tree) (server : ServerId) (name : List ℕ) (o : Option Fileset)
    → find (leads_to tree server name) tree.filesets ≡ o
    → fileset_named tree server name ≡ found_or o NoFileset
unfolding fileset_named
named_of tree server name o e = ap (λ (x : Option Fileset). found_or x NoFileset) e

-- the refusal is the tree's
module _ (v : ServerId) (K T : Tree) (host : HostId) (call : Call) (name : List ℕ) (same : SameAt v K (kept_tree T))
    (of : fileset_of call ≡ Some (v, name)) (free : LabelIsFree T host call) where
  not_there : fileset_named K v name ≡ Err NoFileset → (fileset : Fileset) → fileset_named T v name ≡ Ok fileset → ⊥
  not_there none fileset e =
      let q : Err NoFileset ≡ Ok (kept_fileset fileset) =
      sym none ∙ (same_named K (kept_tree T) v same name ∙ (kept_named T v name
      ∙ ap (λ (r : Result Fileset Refusal). and_then r (λ f. Ok (kept_fileset f))) e)) in cc

  in_tree : (user : User) → fileset_named K v name ≡ Err NoFileset → IsPlaced T v name
      → ReplyOf T host user call ≡ Refused NoFileset
  in_tree user none (Nowhere e n) = nowhere T host user v name e (named_of T v name None n) call of free
  in_tree user none (There i f e p g n) = absurd (not_there none f (named_of T v name (Some f) n))

  by_place : (user : User) → ReplyOf K host user call ≡ Refused NoFileset → IsPlaced K v name
      → ReplyOf T host user call ≡ Refused NoFileset
  by_place user said (Nowhere e n) = in_tree user (named_of K v name None n) (placed T v name)
  by_place user said (There i f e p g n) =
      absurd (somewhere K host user v name i f e g (named_of K v name (Some f) n) call of said)

  pub enter_alike : (answer_to K host call).reply ≡ Refused NoFileset
      → (answer_to T host call).reply ≡ Refused NoFileset
  enter_alike said = go (user_of K.roster host) refl
    where
      go : (o : Option User) → user_of K.roster host ≡ o → (answer_to T host call).reply ≡ Refused NoFileset
      go None e = absurd (let q : Refused (Denied 0) ≡ Refused NoFileset = sym (for_none K host call e) ∙ said in cc)
      go (Some user) e =
          for_its T host call user (ap (λ roster. user_of roster host) (sym same.roster) ∙ e)
          ∙ by_place user (sym (for_its K host call user e) ∙ said) (placed K v name)
