-- How far a run has come.
use Rattle.std.specs.Prelude.{
  ◌≡◌,
  ◌<◌,
  ℕ,
  ◌+◌,
  ◌-◌,
  nat_lt,
  ◌&&◌,
  ◌||◌,
  Bool,
  true,
  false,
  List,
  [],
  ◌∷◌,
  ◌++◌,
  length,
  map,
  filter,
  slice_get,
  slice_set,
  Option,
  Some,
  None,
}
use Rattle.std.specs.List.{list_all, find}
use Rattle.std.specs.Option.{option_map}
use Rattle.base_types.specs.declared.ids.HostId.{HostId}
use Rattle.base_types.specs.declared.ids.ServerId.{ServerId}
use Rattle.base_types.specs.declared.ids.FilesetId.{FilesetId}
use Rattle.base_types.specs.declared.ids.Node.TheVariants.{Host}
use Rattle.base_types.specs.declared.limits.TheConstants.{HOSTS_MAX}
use Rattle.tree_calls.specs.Limits.{keeps_limit}
use Rattle.tree_calls.specs.declared.call.Call.{Call}
use Rattle.tree_calls.specs.declared.call.Call.TheVariants.{Write}
use Rattle.tree_calls.specs.declared.entry.Entry.{Entry}
use Rattle.tree_calls.specs.declared.entry.Entry.TheVariants.{Call as Called, Stored, Down, Left}
use Rattle.tree_calls.specs.declared.reply.Reply.{Reply}
use Rattle.tree_answers.specs.declared.tree.Tree.{Tree}
use Rattle.tree_answers.specs.Histories.{IsHistory, after_history}
use Rattle.tree_answers.specs.WellFormed.{IsWellFormed}
use Rattle.tree_answers.specs.Moving.{left_tree}
use Rattle.tree_saving.specs.Saving.{downs_from, StoresAll}
use Rattle.script_lines.specs.declared.script.Deed.{Deed}
use Rattle.script_lines.specs.declared.script.Deed.TheVariants.{Call as CallDeed, Stop as StopDeed}
use Rattle.script_lines.specs.declared.script.Line.{Line}
use Rattle.script_lines.specs.declared.script.Script.{Script}
use Rattle.script_lines.specs.Asks.{call_lines}
use Rattle.script_lines.specs.Sound.{is_of}
use Rattle.service_plain.specs.Seats.{is_seated}
use Rattle.service_plain.specs.Calls.{Asked, own_calls, is_asked, acts_of, acts_in}
use Rattle.service_plain.specs.Uses.{is_done, uses_from, used_if, ending}
use Rattle.service_plain.specs.Played.{
  calls_in,
  is_own,
  next_number,
  are_numbered,
  is_implied,
  stops,
  last_calls,
  lefts_stand,
  rests,
  stores_stand,
  rooms_free,
}
use Rattle.service_plain.specs.declared.uses.Use.{Use}
use Rattle.service_plain.specs.declared.past.Past.{Past}
use Rattle.service_plain.specs.declared.play.Desk.{Desk}
use Rattle.service_plain.specs.declared.play.Play.{Play}
use Rattle.service_plain.specs.declared.played.Played.{Played}

-- whether an entry says that a host is down
abbrev pub is_down : Entry → Bool
is_down (Down host server) = true
is_down _ = false

-- whether an entry says what became kept, or that a server learnt that a fileset has arrived
abbrev pub is_aside : Entry → Bool
is_aside (Stored host fid spans len) = true
is_aside (Left server id) = true
is_aside _ = false

-- entries that may come next lead from a tree to another well formed one, in which nothing is unsaved
pub record Leads (before : Tree) (entries : List Entry) (after : Tree) : Type 0 where
  pub legal : IsHistory before entries
  pub tree : after ≡ after_history before entries
  pub formed : IsWellFormed after
  pub rest : rests after ≡ true
  pub roster : after.roster ≡ before.roster

-- entries came next, each of which may; no server keeps room then
pub record GoesOn (before : Past) (entries : List Entry) (after : Past) : Type 0 where
  pub history : after.history ≡ before.history ++ entries
  pub leads : Leads before.tree entries after.tree
  pub lefts : lefts_stand false entries ≡ true
  pub stores : stores_stand None before.tree entries ≡ true
  pub rooms : rooms_free after.tree ≡ true

-- the first server that keeps room for a fileset that left it, and the fileset
abbrev pub kept_room : Tree → Option (ServerId × FilesetId)
kept_room tree = option_map (λ away. (away.server, away.fileset)) (find (λ away. away.room_kept) tree.away)

-- that server learns that the fileset has arrived
abbrev pub arrived_by : Past → Option (ServerId × FilesetId) → Past
arrived_by past None = past
arrived_by past (Some found) =
    record { tree = left_tree past.tree found.0 found.1; history = past.history ++ Left found.0 found.1 ∷ [] }

abbrev pub arrived : Past → Past
arrived past = arrived_by past (kept_room past.tree)

-- whether a call writes
abbrev pub is_write : Call → Bool
is_write (Write place from bytes) = true
is_write _ = false

-- a host stored all that it had unsaved
pub record Saves (host : HostId) (before after : Past) : Type 0 where
  pub stored : List Entry
  pub history : after.history ≡ before.history ++ stored
  pub stores : StoresAll host before.tree stored after.tree

-- a host made its next call; what it wrote became kept behind it, and where it moved a fileset a server learnt it
pub record Makes (host : HostId) (k : ℕ) (call : Call) (done : Bool) (before after : Past) : Type 0 where
  pub reply : Reply
  pub behind : List Entry
  pub asides : list_all is_aside behind ≡ true
  pub goes : GoesOn before (Called host k call reply ∷ behind) after
  pub told : done ≡ is_done reply

-- a host is down at every server
abbrev pub GoesDown : HostId → Past → Past → Type 0
GoesDown host before after = GoesOn before (downs_from host 1 (length before.tree.roster.capacity)) after

-- the number of a host's next call after entries
abbrev pub next_from : HostId → ℕ → List Entry → ℕ
next_from host k [] = k
next_from host k (entry ∷ entries) = next_from host (next_number host k entry) entries

-- whether an entry is a host's, or says what became kept
abbrev pub is_hers : HostId → Entry → Bool
is_hers host entry = is_aside entry || is_own host entry

-- whether the number of a call is above one
abbrev pub is_above : ℕ → Entry → Bool
is_above n (Called host k call reply) = nat_lt n k
is_above n _ = true

abbrev pub ending_of : HostId → Use → Asked
ending_of host used = record { host = host; call = ending used }

-- a host ended what it had in use, by calls with numbers above one
pub record Ends (host : HostId) (made : ℕ) (uses : List Use) (before after : Past) : Type 0 where
  pub entries : List Entry
  pub goes : GoesOn before entries after
  pub calls : calls_in entries ≡ map (ending_of host) uses
  pub hers : list_all (is_hers host) entries ≡ true
  pub numbered : are_numbered host (made + 1) entries ≡ true
  pub above : list_all (is_above made) entries ≡ true
  pub next : next_from host (made + 1) entries ≡ made + 1 + length uses

-- what happened is legal, and led to the tree that is there
pub record IsSteady (script : Script) (start : Tree) (past : Past) : Type 0 where
  pub legal : IsHistory start past.history
  pub tree : past.tree ≡ after_history start past.history
  pub formed : IsWellFormed past.tree
  pub rest : rests past.tree ≡ true
  pub lefts : lefts_stand false past.history ≡ true
  pub stores : stores_stand None start past.history ≡ true
  pub rooms : rooms_free past.tree ≡ true
  pub roster : past.tree.roster ≡ script.roster

-- a host that has lines left has made the calls of its lines so far
pub record IsOpen (script : Script)
    (done : List Line) (history : List Entry) (host : HostId) (desk : Desk) : Type 0 where
  pub calls : desk.calls ≡ length (own_calls host done)
  pub next : next_from host 1 history ≡ desk.calls + 1
  pub uses : desk.uses ≡ uses_from host [] (filter (is_asked script) history)
  pub implied : filter (is_implied script host) history ≡ []

pub record IsAtDesk (script : Script)
    (done rest : List Line) (history : List Entry) (host : HostId) (desk : Desk) : Type 0 where
  pub left : desk.left ≡ length (filter (is_of (Host host)) rest)
  pub stopped : desk.stopped ≡ stops host done
  pub going : 0 < desk.left → IsOpen script done history host desk

-- a host that has no line left has made its last calls
abbrev pub IsClosed : Script → List Line → List Entry → HostId → Type 0
IsClosed script done history host =
    calls_in (filter (is_implied script host) history) ≡ last_calls script done host history

-- some lines are done, and the rest is left
pub record IsUnderway (script : Script) (start : Tree) (done rest : List Line) (play : Play) : Type 0 where
  pub steady : IsSteady script start play.past
  pub acts : acts_in script play.past.history ≡ acts_of (length script.roster.capacity) done
  pub numbered : (host : HostId) → are_numbered host 1 play.past.history ≡ true
  pub desks : length play.desks ≡ HOSTS_MAX + 1
  pub desk : (host : HostId) (desk : Desk)
      → slice_get play.desks host.0 ≡ Some desk → IsAtDesk script done rest play.past.history host desk
  pub closed : (host : HostId) → filter (is_of (Host host)) rest ≡ [] → IsClosed script done play.past.history host

-- how many calls a script asks each host for
abbrev pub AreCounted : Script → List Line → Type 0
AreCounted script lines = (host : HostId) → call_lines script host.0 ≡ length (own_calls host lines)

-- the next line of a host can go
pub record IsFit (play : Play) : Type 0 where
  pub desks : length play.desks ≡ HOSTS_MAX + 1
  pub formed : IsWellFormed play.past.tree
  pub rest : rests play.past.tree ≡ true
  pub rooms : rooms_free play.past.tree ≡ true

-- what is known of a host after a call of its lines
abbrev pub desk_called : Desk → Bool → Call → Desk
desk_called desk done call =
    record { calls = desk.calls + 1; left = desk.left; stopped = desk.stopped; uses = used_if done desk.uses call }

abbrev pub desk_stopped : Desk → Desk
desk_stopped desk = record desk { stopped = true }

abbrev pub desk_left : Desk → Desk
desk_left desk = record desk { left = desk.left - 1 }

-- a host made the call of its line
pub record HasCalled (host : HostId) (call : Call) (before after : Play) : Type 0 where
  pub desk : Desk
  pub done : Bool
  pub was : slice_get before.desks host.0 ≡ Some desk
  pub makes : Makes host (desk.calls + 1) call done before.past after.past
  pub desks : after.desks ≡ slice_set before.desks host.0 (desk_called desk done call)

-- a host stopped
pub record HasStopped (host : HostId) (before after : Play) : Type 0 where
  pub desk : Desk
  pub was : slice_get before.desks host.0 ≡ Some desk
  pub down : GoesDown host before.past after.past
  pub desks : after.desks ≡ slice_set before.desks host.0 (desk_stopped desk)

-- a host that didn't stop ended what it had in use
abbrev pub EndsUnless : Bool → HostId → ℕ → List Use → Past → Past → Type 0
EndsUnless true host calls uses before after = after ≡ before
EndsUnless false host calls uses before after = Ends host calls uses before after

-- a host has a line less left; after its last one it ended what it had in use
pub record HasLeft (host : HostId) (before after : Play) : Type 0 where
  pub desk : Desk
  pub was : slice_get before.desks host.0 ≡ Some desk
  pub desks : after.desks ≡ slice_set before.desks host.0 (desk_left desk)
  pub more : 0 < desk.left - 1 → after.past ≡ before.past
  pub last : desk.left - 1 ≡ 0 → EndsUnless desk.stopped host desk.calls desk.uses before.past after.past

-- a host did what its line asks for
abbrev pub HasActed : HostId → Deed → Play → Play → Type 0
HasActed host (CallDeed call) before after = HasCalled host call before after
HasActed host StopDeed before after = HasStopped host before after
HasActed host _ before after = after ≡ before

-- whether a deed keeps the limits of calls
abbrev pub keeps_deed : Deed → Bool
keeps_deed (CallDeed call) = keeps_limit call
keeps_deed _ = true

-- whether a line is of a node that has a seat, and keeps the limits of calls
abbrev pub may_go : Line → Bool
may_go line = is_seated line.node && keeps_deed line.deed

-- a run comes on by lines that are its next
abbrev pub GoesAlong : List Line → Play → Play → Type 0
GoesAlong lines before after =
    (script : Script) (start : Tree) (done rest : List Line) → AreCounted script (done ++ (lines ++ rest))
    → IsUnderway script start done (lines ++ rest) before → IsUnderway script start (done ++ lines) rest after

-- a run came on by the lines that make the filesets, and then by these
pub record GoesOver (script : Script) (lines : List Line) (before after : Play) : Type 0 where
  pub between : Play
  pub setup : GoesAlong script.setup before between
  pub rest : GoesAlong lines between after

-- how many lines of a script are a host's
abbrev pub line_count : Script → HostId → ℕ
line_count script host =
    length (filter (is_of (Host host)) script.setup) + length (filter (is_of (Host host)) script.lines)

-- what is known of a host before its first line
abbrev pub new_desk : Script → HostId → Desk
new_desk script host = record { calls = 0; left = line_count script host; stopped = false; uses = [] }

-- whether all desks of hosts from number 0 on are new
abbrev pub AreNew : Script → List Desk → Type 0
AreNew script desks = (host : HostId) (desk : Desk) → slice_get desks host.0 ≡ Some desk → desk ≡ new_desk script host

-- nothing has happened
pub record IsNew (script : Script) (start : Tree) (play : Play) : Type 0 where
  pub tree : play.past.tree ≡ start
  pub history : play.past.history ≡ []
  pub desks : length play.desks ≡ HOSTS_MAX + 1
  pub each : AreNew script play.desks

-- a script that went so
abbrev pub played_so : Tree → Past → List ℕ → Played
played_so start past order = record { start = start; history = past.history; last = past.tree; order = order }
