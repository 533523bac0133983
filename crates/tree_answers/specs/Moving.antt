-- How filesets move from one server to another.
use Rattle.std.specs.Prelude.{ℕ, ◌==◌, nat_le, Bool, true, ◌&&◌, ◌||◌, not, List, slice_get, slice_set, Result, Ok}
use Rattle.std.specs.List.{list_any}
use Rattle.base_types.specs.Outcomes.{and_then, either}
use Rattle.base_types.specs.declared.ids.FilesetId.{FilesetId}
use Rattle.base_types.specs.declared.ids.ServerId.{ServerId}
use Rattle.base_types.specs.declared.user.User.{User}
use Rattle.tree_calls.specs.declared.reply.Refusal.{Refusal}
use Rattle.tree_calls.specs.declared.reply.Refusal.TheVariants.{NoFileset, Exists, InUse, TooMany}
use Rattle.tree_calls.specs.declared.reply.Reply.TheVariants.{Ok as Done}
use Rattle.tree_filesets.specs.declared.fileset.Fileset.{Fileset}
use Rattle.tree_filesets.specs.declared.fileset.TheConstants.{MOVES_MAX}
use Rattle.tree_filesets.specs.Checks.{unless}
use Rattle.tree_filesets.specs.Founding.{control_check, moved}
use Rattle.tree_filesets.specs.Promises.{promise}
use Rattle.tree_answers.specs.declared.tree.Tree.{Tree}
use Rattle.tree_answers.specs.declared.tree.Away.{Away}
use Rattle.tree_answers.specs.declared.tree.LockUse.{LockUse}
use Rattle.tree_answers.specs.declared.tree.OpenUse.{OpenUse}
use Rattle.tree_answers.specs.declared.tree.ServerRoom.{ServerRoom}
use Rattle.tree_answers.specs.Away.{is_away_named, has_away, with_away, without_away, room_freed}
use Rattle.tree_answers.specs.Uses.{lock_hold, open_hold, is_fileset_held}
use Rattle.tree_answers.specs.Finding.{Answer, refuse, found_or, fileset_place, is_here}
use Rattle.tree_answers.specs.Founding.{slot_for, blocks_for}

-- whether an object of a fileset is locked, or open, by any host
abbrev pub is_fileset_used : List LockUse → List OpenUse → FilesetId → Bool
is_fileset_used locks opens id = is_fileset_held lock_hold locks id || is_fileset_held open_hold opens id

-- whether a server has another fileset, or a record of another one, with the name of a fileset that isn't there
abbrev pub is_taken_by_other : Tree → ServerId → Fileset → Bool
is_taken_by_other tree server fileset =
    is_here tree.filesets server fileset.name
    || list_any (λ away. is_away_named server fileset.name away && not (away.fileset.0 == fileset.id.0)) tree.away

-- the fileset that a user may move, and its place in the list: NoFileset; ReadOnly; Denied (control of the root)
unfoldable pub move_source : Tree → User → ServerId → List ℕ → Result (ℕ × Fileset) Refusal
move_source tree user server name =
    and_then (fileset_place tree server name) (λ place.
    and_then (found_or (slice_get tree.filesets place) NoFileset) (λ fileset.
    and_then (control_check fileset user) (λ _.
    Ok (place, fileset))))

-- whether it may leave for a server: Exists (it is there); InUse; TooMany (moves); Exists (another one of its name)
unfoldable pub leave_check : Tree → ServerId → Fileset → Result (Unit {0}) Refusal
leave_check tree to fileset =
    unless (fileset.server.0 == to.0) Exists (
    unless (is_fileset_used tree.locks tree.opens fileset.id) InUse (
    unless (nat_le MOVES_MAX fileset.moves) TooMany (
    unless (is_taken_by_other tree to fileset) Exists (
    Ok tt))))

-- the server's room for it: TooMany (filesets and records); NoRoom
unfoldable pub move_room : Tree → ServerId → Fileset → Result ServerRoom Refusal
move_room tree to fileset =
    and_then (slot_for tree to (has_away tree.away to fileset.id)) (λ room. blocks_for tree to room (promise fileset))

-- MoveFileset: NoFileset; ReadOnly; Denied (control of the root); Exists (it is there); InUse; TooMany (moves); Exists
-- (another one of its name); TooMany (filesets and records there); NoRoom. Its place in the list, and the fileset
unfoldable pub move_target : Tree → User → ServerId → List ℕ → ServerId → Result (ℕ × Fileset) Refusal
move_target tree user server name to =
    and_then (move_source tree user server name) (λ (place, fileset).
    and_then (leave_check tree to fileset) (λ _.
    and_then (move_room tree to fileset) (λ _.
    Ok (place, fileset))))

-- what the server that a fileset leaves notes of it: its room is kept
abbrev pub left_by : Fileset → ServerId → Away
left_by fileset to =
    record { server = fileset.server; fileset = fileset.id; name = fileset.name; to = to; room_kept = true }

-- a tree with a fileset as it is after a move at its place in the list: the server that it left has a record of it, and
-- the one that it is at has none
abbrev pub put_moved : Tree → ℕ → Fileset → Away → Tree
put_moved tree place fileset left = record tree {
  filesets = slice_set tree.filesets place fileset;
  away = without_away (with_away tree.away left) left.to left.fileset;
}

-- a tree in which the fileset at a place of the list has moved
abbrev pub with_moved : Tree → ℕ → Fileset → ServerId → Tree
with_moved tree place fileset to = put_moved tree place (moved fileset to) (left_by fileset to)

-- MoveFileset: its unsaved changes become kept, and it is at the other server with one move more
unfoldable pub move_answer : Tree → User → ServerId → List ℕ → ServerId → Answer
move_answer tree user server name to =
    either (move_target tree user server name to)
    (λ (place, fileset). record { reply = Done; tree = with_moved tree place fileset to })
    (refuse tree)

-- a server learns that a fileset which moved from it has arrived: it keeps no more room for it
unfoldable pub left_tree : Tree → ServerId → FilesetId → Tree
left_tree tree server id = record tree { away = room_freed tree.away server id }
