-- What a tree answers to each call of a host.
use Rattle.std.specs.Prelude.{ℕ, slice_get, slice_set, Option, Some, None, Result, Err}
use Rattle.base_types.specs.Outcomes.{either}
use Rattle.base_types.specs.declared.ids.HostId.{HostId}
use Rattle.base_types.specs.declared.user.User.{User}
use Rattle.tree_calls.specs.declared.call.Call.{Call}
use Rattle.tree_calls.specs.declared.call.Call.TheVariants.{
  NewFileset,
  Create,
  MakeDir,
  Remove,
  Rename,
  Truncate,
  SetAcl,
  CloneFileset,
  Read,
  Write,
  List as ListNames,
  Stat,
  GetAcl,
  Sync,
  Lock,
  Unlock,
  OpenFile,
  CloseFile,
  MoveFileset,
}
use Rattle.tree_calls.specs.declared.reply.Refusal.{Refusal}
use Rattle.tree_calls.specs.declared.reply.Refusal.TheVariants.{NoFileset, Denied}
use Rattle.tree_filesets.specs.declared.fileset.Fileset.{Fileset}
use Rattle.tree_filesets.specs.Answers.{Answered}
use Rattle.tree_filesets.specs.Rows.{fileset_answer}
use Rattle.tree_answers.specs.declared.tree.Tree.{Tree}
use Rattle.tree_calls.specs.Rosters.{user_of}
use Rattle.tree_answers.specs.Finding.{Answer, refuse, fileset_place, move_place}
use Rattle.tree_answers.specs.Founding.{new_fileset_answer, clone_answer}
use Rattle.tree_answers.specs.Moving.{move_answer}
use Rattle.tree_answers.specs.Uses.{is_used}
use Rattle.tree_answers.specs.Locks.{lock_answer, unlock_answer}
use Rattle.tree_answers.specs.Opens.{open_answer, close_answer}

-- what the user does for whom a host acts; a host that isn't declared acts for nobody, who has no rights
abbrev pub for_user : Tree → Option User → (User → Answer) → Answer
for_user tree None act = refuse tree (Denied 0)
for_user tree (Some user) act = act user

-- a tree in which one fileset answered
abbrev pub with_answered : Tree → ℕ → Answered → Answer
with_answered tree place answered =
    record { reply = answered.reply; tree = record tree { filesets = slice_set tree.filesets place answered.fileset } }

abbrev pub answer_at : Tree → ℕ → Option Fileset → (Fileset → Answered) → Answer
answer_at tree place None ask = refuse tree NoFileset
answer_at tree place (Some fileset) ask = with_answered tree place (ask fileset)

-- the fileset that decides a call alone
abbrev pub deciding_place : Tree → Call → Result ℕ Refusal
deciding_place tree (Create place) = fileset_place tree place.server place.fileset
deciding_place tree (MakeDir place) = fileset_place tree place.server place.fileset
deciding_place tree (Remove place) = fileset_place tree place.server place.fileset
deciding_place tree (Rename from to) = move_place tree from to
deciding_place tree (Truncate place len) = fileset_place tree place.server place.fileset
deciding_place tree (SetAcl place which list) = fileset_place tree place.server place.fileset
deciding_place tree (Read place from len) = fileset_place tree place.server place.fileset
deciding_place tree (Write place from bytes) = fileset_place tree place.server place.fileset
deciding_place tree (ListNames place) = fileset_place tree place.server place.fileset
deciding_place tree (Stat place) = fileset_place tree place.server place.fileset
deciding_place tree (GetAcl place which) = fileset_place tree place.server place.fileset
deciding_place tree (Sync place) = fileset_place tree place.server place.fileset
deciding_place tree (NewFileset server name objects owner) = Err NoFileset
deciding_place tree (CloneFileset server source new) = Err NoFileset
deciding_place tree (MoveFileset server name to) = Err NoFileset
deciding_place tree (Lock label place writing from len) = Err NoFileset
deciding_place tree (Unlock label) = Err NoFileset
deciding_place tree (OpenFile label place kind) = Err NoFileset
deciding_place tree (CloseFile label) = Err NoFileset

-- a call that one fileset decides
unfoldable pub fileset_row : Tree → HostId → User → Call → Answer
fileset_row tree host user call =
    either (deciding_place tree call)
    (λ place. answer_at tree place (slice_get tree.filesets place)
    (λ fileset. fileset_answer fileset (is_used tree.locks tree.opens) host user call))
    (refuse tree)

-- a call of a user at a host
unfoldable pub answer_for : Tree → HostId → Call → User → Answer
answer_for tree host (NewFileset server name objects owner) user = new_fileset_answer tree server name objects owner
answer_for tree host (CloneFileset server fileset new) user = clone_answer tree user server fileset new
answer_for tree host (MoveFileset server fileset to) user = move_answer tree user server fileset to
answer_for tree host (Lock label place writing from len) user = lock_answer tree host user label place writing from len
answer_for tree host (Unlock label) user = unlock_answer tree host label
answer_for tree host (OpenFile label place kind) user = open_answer tree host user label place kind
answer_for tree host (CloseFile label) user = close_answer tree host label
answer_for tree host (Create place) user = fileset_row tree host user (Create place)
answer_for tree host (MakeDir place) user = fileset_row tree host user (MakeDir place)
answer_for tree host (Remove place) user = fileset_row tree host user (Remove place)
answer_for tree host (Rename from to) user = fileset_row tree host user (Rename from to)
answer_for tree host (Truncate place len) user = fileset_row tree host user (Truncate place len)
answer_for tree host (SetAcl place which list) user = fileset_row tree host user (SetAcl place which list)
answer_for tree host (Read place from len) user = fileset_row tree host user (Read place from len)
answer_for tree host (Write place from bytes) user = fileset_row tree host user (Write place from bytes)
answer_for tree host (ListNames place) user = fileset_row tree host user (ListNames place)
answer_for tree host (Stat place) user = fileset_row tree host user (Stat place)
answer_for tree host (GetAcl place which) user = fileset_row tree host user (GetAcl place which)
answer_for tree host (Sync place) user = fileset_row tree host user (Sync place)

-- the answer to a call of a host
unfoldable pub answer_to : Tree → HostId → Call → Answer
answer_to tree host call = for_user tree (user_of tree.roster host) (answer_for tree host call)
