-- Histories that may happen from a tree at rest on.
use Rattle.std.specs.Prelude.{◌≡◌, ℕ, Bool, true, false, not, ◌&&◌, List, [], ◌∷◌, None}
use Rattle.std.specs.List.{list_all}
use Rattle.base_types.specs.declared.ids.HostId.{HostId}
use Rattle.tree_calls.specs.declared.call.Call.{Call as CallOf}
use Rattle.tree_calls.specs.declared.call.Call.TheVariants.{MoveFileset}
use Rattle.tree_calls.specs.declared.entry.Entry.{Entry}
use Rattle.tree_calls.specs.declared.entry.Entry.TheVariants.{Call as Called, Stored, Down, Left}
use Rattle.tree_calls.specs.declared.reply.Reply.{Reply}
use Rattle.tree_calls.specs.declared.reply.Reply.TheVariants.{Ok as Accepted}
use Rattle.tree_answers.specs.declared.tree.Tree.{Tree}
use Rattle.tree_answers.specs.Histories.{IsHistory}
use Rattle.tree_answers.specs.WellFormed.{IsWellFormed}
use Rattle.message_types.specs.Soundness.{Each}
use Rattle.store_laws.specs.HistoryLaws.{IsGiven}
use Rattle.store_laws.specs.Shape.{are_numbered, rests, stores_stand}

-- whether a call moved a fileset
abbrev pub has_moved : CallOf → Reply → Bool
has_moved (MoveFileset server fileset to) Accepted = true
has_moved _ _ = false

-- whether, from where one is due or not, a server learns that a fileset has arrived directly behind each move, and
-- nowhere else
abbrev pub lefts_stand : Bool → List Entry → Bool
lefts_stand due [] = not due
lefts_stand due (Left server id ∷ entries) = due && lefts_stand false entries
lefts_stand due (Called host k call reply ∷ entries) = not due && lefts_stand (has_moved call reply) entries
lefts_stand due (Stored host fid spans len ∷ entries) = not due && lefts_stand false entries
lefts_stand due (Down host server ∷ entries) = not due && lefts_stand false entries

-- whether no server keeps room for a fileset that left it
abbrev pub rooms_free : Tree → Bool
rooms_free tree = list_all (λ away. not away.room_kept) tree.away

-- A history that may happen from a tree at rest on, where no server keeps room: hosts store at once what they wrote,
-- and number their calls from these numbers on; a server learns that a fileset has arrived directly behind the move.
pub record MayHappen (next : HostId → ℕ) (start : Tree) (history : List Entry) : Type 0 where
  pub formed : IsWellFormed start
  pub rest : rests start ≡ true
  pub rooms : rooms_free start ≡ true
  pub legal : IsHistory start history
  pub stores : stores_stand None start history ≡ true
  pub numbered : (host : HostId) → are_numbered host (next host) history ≡ true
  pub given : Each (IsGiven start.roster) history
  pub lefts : lefts_stand false history ≡ true
