-- What a run of a script on the file tree is.
use Rattle.std.specs.Prelude.{
  ◌≡◌,
  ℕ,
  ◌+◌,
  ◌==◌,
  ◌&&◌,
  not,
  Bool,
  true,
  false,
  if◌then◌else◌,
  List,
  [],
  ◌∷◌,
  ◌++◌,
  length,
  map,
  filter,
  IsPermutation,
  Option,
  Some,
  None,
}
use Rattle.std.specs.List.{flat_map, list_any, list_all}
use Rattle.std.specs.Option.{option_map}
use Rattle.base_types.specs.Ids.{same_fid}
use Rattle.base_types.specs.declared.ids.Fid.{Fid}
use Rattle.base_types.specs.declared.ids.HostId.{HostId}
use Rattle.base_types.specs.declared.ids.Node.TheVariants.{Host}
use Rattle.tree_calls.specs.declared.entry.Entry.{Entry}
use Rattle.tree_calls.specs.declared.entry.Entry.TheVariants.{Call as Called, Stored, Down, Left}
use Rattle.tree_calls.specs.declared.call.Call.{Call as CallOf}
use Rattle.tree_calls.specs.declared.call.Call.TheVariants.{Write, MoveFileset}
use Rattle.tree_calls.specs.declared.reply.Reply.{Reply}
use Rattle.tree_calls.specs.declared.reply.Reply.TheVariants.{Ok as Done}
use Rattle.tree_calls.specs.declared.roster.Roster.{Roster}
use Rattle.tree_answers.specs.declared.tree.Tree.{Tree}
use Rattle.tree_answers.specs.WellFormed.{IsWellFormed}
use Rattle.tree_answers.specs.Histories.{IsHistory, after_entry, after_history}
use Rattle.tree_answers.specs.Stores.{stored_tree}
use Rattle.tree_filesets.specs.WellFormed.{is_at_rest}
use Rattle.tree_saving.specs.Saving.{fid_named}
use Rattle.script_lines.specs.declared.script.Line.{Line}
use Rattle.script_lines.specs.declared.script.Script.{Script}
use Rattle.script_lines.specs.Sound.{is_of, is_stop}
use Rattle.script_reader.specs.Orders.{IsOrder}
use Rattle.service_plain.specs.Calls.{Asked, is_asked, acts_of, acts_in}
use Rattle.service_plain.specs.Uses.{uses_from, ending}
use Rattle.service_plain.specs.Seats.{lines_at, all_places}
use Rattle.service_plain.specs.declared.played.Played.{Played}

-- the call of an entry
abbrev pub call_in : Entry → List Asked
call_in (Called host k call reply) = record { host = host; call = call } ∷ []
call_in _ = []

-- the calls of entries, with their hosts
abbrev pub calls_in : List Entry → List Asked
calls_in entries = flat_map call_in entries

-- whether an entry is a call of a host
abbrev pub is_own : HostId → Entry → Bool
is_own host (Called caller k call reply) = caller.0 == host.0
is_own host _ = false

-- whether an entry has this number, where it is a call of a host, and the number of the host's next call
abbrev pub has_number : HostId → ℕ → Entry → Bool
has_number host k (Called caller number call reply) = if caller.0 == host.0 then number == k else true
has_number host k _ = true

abbrev pub next_number : HostId → ℕ → Entry → ℕ
next_number host k entry = if is_own host entry then k + 1 else k

-- whether the calls of a host are numbered from one on
abbrev pub are_numbered : HostId → ℕ → List Entry → Bool
are_numbered host k [] = true
are_numbered host k (entry ∷ entries) = has_number host k entry && are_numbered host (next_number host k entry) entries

-- whether an entry is a call that a host makes by itself, which no line asks for
abbrev pub is_implied : Script → HostId → Entry → Bool
is_implied script host entry = is_own host entry && not (is_asked script entry)

-- whether a host stops at one of these lines
abbrev pub stops_at : HostId → Line → Bool
stops_at host line = is_of (Host host) line && is_stop line.deed

abbrev pub stops : HostId → List Line → Bool
stops host lines = list_any (stops_at host) lines

-- the calls by which a host ends what it has in use
abbrev pub endings : Script → HostId → List Entry → List Asked
endings script host history =
    map (λ used. record { host = host; call = ending used }) (uses_from host [] (filter (is_asked script) history))

-- the calls that a host makes by itself at its end: none where it stopped
abbrev pub last_calls : Script → List Line → HostId → List Entry → List Asked
last_calls script lines host history = if stops host lines then [] else endings script host history

-- A history is what hosts do by lines that go in this order. What the lines bring about comes in this order, each once:
-- the calls that they ask for, and, where a host stops, that it is down at each server. The calls of each host are
-- numbered from 1; after those that its lines ask for it makes, unless it stopped, the calls that end what it has in
-- use.
pub record IsDoneBy (script : Script) (lines : List Line) (history : List Entry) : Type 0 where
  pub acts : acts_in script history ≡ acts_of (length script.roster.capacity) lines
  pub numbered : (host : HostId) → are_numbered host 1 history ≡ true
  pub implied : (host : HostId)
      → calls_in (filter (is_implied script host) history) ≡ last_calls script lines host history

-- whether a call moved a fileset
abbrev pub has_moved : CallOf → Reply → Bool
has_moved (MoveFileset server fileset to) Done = true
has_moved _ _ = false

-- whether, from where one is due or not, a server learns that a fileset has arrived directly behind each move, and
-- nowhere else
abbrev pub lefts_stand : Bool → List Entry → Bool
lefts_stand due [] = not due
lefts_stand due (Left server id ∷ entries) = due && lefts_stand false entries
lefts_stand due (Called host k call reply ∷ entries) = not due && lefts_stand (has_moved call reply) entries
lefts_stand due (Stored host fid spans len ∷ entries) = not due && lefts_stand false entries
lefts_stand due (Down host server ∷ entries) = not due && lefts_stand false entries

-- whether no server keeps room for a fileset that left it
abbrev pub rooms_free : Tree → Bool
rooms_free tree = list_all (λ away. not away.room_kept) tree.away

-- whether nothing is unsaved in a tree
abbrev pub rests : Tree → Bool
rests tree = list_all is_at_rest tree.filesets

-- the host that an entry says to have written, and the file
abbrev pub written_by : Tree → Entry → Option (HostId × Fid)
written_by tree (Called host k (Write place from bytes) reply) = option_map (λ fid. (host, fid)) (fid_named tree place)
written_by tree _ = None

-- whether a host stores of the file that it has just written
abbrev pub is_due : Option (HostId × Fid) → HostId → Fid → Bool
is_due None host fid = false
is_due (Some written) host fid = (host.0 == written.0.0) && same_fid fid written.1

-- whether hosts store at once, where this was just written: what a write leaves unsaved is stored directly behind it,
-- by that host and of that file, and nothing else is ever stored; before each other entry, and at the end, nothing is
-- unsaved
abbrev pub stores_stand : Option (HostId × Fid) → Tree → List Entry → Bool
stores_stand written tree [] = rests tree
stores_stand written tree (Stored host fid spans len ∷ entries) =
    (is_due written host fid && not (rests tree)) && stores_stand None (stored_tree tree host fid spans len) entries
stores_stand written tree (entry ∷ entries) =
    rests tree && stores_stand (written_by tree entry) (after_entry tree entry) entries

-- A tree from which a script can be run: it is well formed and has the script's roster, nothing is unsaved, nothing is
-- in use, and no server keeps room for a fileset that left it.
pub record IsStart (given : Roster) (tree : Tree) : Type 0 where
  pub formed : IsWellFormed tree
  pub roster : tree.roster ≡ given
  pub rest : rests tree ≡ true
  pub locks : tree.locks ≡ []
  pub opens : tree.opens ≡ []
  pub rooms : rooms_free tree ≡ true

-- A script was run on the file tree: what happened is legal; first come the lines that make the filesets, and then all
-- others, each once, in an order in which each node's lines stay in theirs and each that awaits a flag comes after the
-- one that raised it; a server learns that a fileset has arrived directly behind the move; what a host writes it stores
-- directly behind the write; and in the end no server keeps room for a fileset that left it.
pub record IsPlayed (script : Script) (played : Played) : Type 0 where
  pub start : IsStart script.roster played.start
  pub legal : IsHistory played.start played.history
  pub places : IsPermutation (all_places script.lines) played.order
  pub order : IsOrder script.lines (lines_at script.lines played.order)
  pub done : IsDoneBy script (script.setup ++ lines_at script.lines played.order) played.history
  pub last : played.last ≡ after_history played.start played.history
  pub lefts : lefts_stand false played.history ≡ true
  pub stores : stores_stand None played.start played.history ≡ true
  pub rooms : rooms_free played.last ≡ true
