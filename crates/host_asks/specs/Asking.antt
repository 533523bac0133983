-- What a host asks servers, by its tables.
use Rattle.std.specs.Prelude.{Bool, Some, false, if◌then◌else◌, true, ℕ, ◌&&◌, ◌+◌, ◌≡◌}
use Rattle.base_types.specs.declared.ids.Fid.{Fid}
use Rattle.base_types.specs.declared.ids.FilesetId.{FilesetId}
use Rattle.base_types.specs.declared.ids.ServerId.{ServerId}
use Rattle.host_calls.specs.declared.looking.Question.{Question}
use Rattle.host_calls.specs.declared.looking.Question.TheVariants.{At, Enter, In as Within}
use Rattle.host_gives.specs.Giving.{is_of_file}
use Rattle.host_leaves.specs.Owning.{is_use}
use Rattle.host_leaves.specs.Sending.{saying, sending_request}
use Rattle.host_tables.specs.Asking.{FetchFrom}
use Rattle.host_tables.specs.Stands.{IsLack}
use Rattle.host_tables.specs.Tables.{last_change, last_fetch, site_at}
use Rattle.host_tables.specs.Updates.{home_at, with_change, with_fetch, with_site}
use Rattle.host_tables.specs.declared.calls.Request.TheVariants.{Change as AChange, Fetch as AFetch}
use Rattle.host_tables.specs.declared.draft.Draft.{Draft}
use Rattle.host_tables.specs.declared.tables.Tables.{Tables}
use Rattle.message_types.specs.Soundness.{HasRoom, IsShort, no_fid}
use Rattle.message_types.specs.declared.asking.Change.{Change}
use Rattle.message_types.specs.declared.asking.Fetch.{Fetch}
use Rattle.message_types.specs.declared.message.Body.TheVariants.{Hello}
use Rattle.run_rules.specs.Past.{In}
use Rattle.run_rules.specs.Tokens.{IsUseKind}
use Rattle.std.specs.List.{list_any}
use Rattle.token_types.specs.declared.token.Need.{Need}
use Rattle.tree_calls.specs.declared.call.Call.{Call}

-- tables and the step in the making
pub record Doing : Type 0 where
  pub tables : Tables
  pub draft : Draft

abbrev pub doing : Tables → Draft → Doing
doing m draft = record { tables = m; draft = draft }

-- a server that wasn't greeted is
abbrev pub with_greeted : Tables → ServerId → Tables
with_greeted m server = record m { sites = with_site (record (site_at m.sites server) { greeted = true }) m.sites }

abbrev pub greeting : ServerId → Doing → Doing
greeting server at =
    doing (with_greeted at.tables server) (saying (with_greeted at.tables server) server Hello at.draft)

-- it may be asked, if it has welcomed the host; one that wasn't greeted is
abbrev pub may_ask : ServerId → Doing → Bool
may_ask server at = (site_at at.tables.sites server).greeted && (site_at at.tables.sites server).welcome

abbrev pub coming_to : ServerId → Doing → Doing
coming_to server at = if (site_at at.tables.sites server).greeted then at else greeting server at

-- a Change is asked
abbrev pub next_change : Tables → ServerId → FilesetId → Fid → Bool → ℕ → Call → Change
next_change m server fileset fid enter k call = record {
  number = last_change m.changed server fileset + 1;
  fileset = fileset;
  fid = fid;
  enter = enter;
  k = k;
  call = call;
}

abbrev pub with_asked : Tables → ServerId → Change → Tables
with_asked m server change = record m {
  changed = with_change server change.fileset change.number m.changed;
  request = Some (AChange server change);
}

abbrev pub changing : ServerId → Change → Doing → Doing
changing server change at =
    let new = with_asked at.tables server change in doing new (sending_request new new.request at.draft)

-- a Fetch is asked
abbrev pub with_fetching : Tables → Fetch → Tables
with_fetching m fetch = record m {
  fetched = with_fetch fetch.fid.fileset fetch.number m.fetched;
  request = Some (AFetch fetch);
}

abbrev pub fetching : Fetch → Doing → Doing
fetching fetch at = let new = with_fetching at.tables fetch in doing new (sending_request new new.request at.draft)

pub record Fetches (call : Call) (fid : Fid) (old new : Doing) : Type 0 where
  pub fetch : Fetch
  pub number : fetch.number ≡ last_fetch old.tables.fetched fid.fileset + 1
  pub file : fetch.fid ≡ fid
  pub needs : (need : Need) → IsLack old.tables call need → need.fid ≡ fid → (IsUseKind need.kind → ⊥)
      → FetchFrom old.tables old.tables.lost call fid fetch.needs
  pub room : (n : Need) → In n fetch.needs → HasRoom n.kind
  pub count : IsShort fetch.needs
  pub after : new ≡ fetching fetch old

-- the server, the fileset and whether the Change enters, of a question
abbrev pub server_of : Question → ServerId
server_of (Enter server) = server
server_of (Within fileset) = home_at fileset
server_of (At server) = server

abbrev pub fileset_of : Question → FilesetId
fileset_of (Within fileset) = fileset
fileset_of _ = record { 0 = 0 }

abbrev pub is_entering : Question → Bool
is_entering (Enter server) = true
is_entering _ = false

-- the question of the open call is asked, where it may be
abbrev pub asking_question : Question → ℕ → Call → Doing → Doing
asking_question question k call at =
    if may_ask (server_of question) at
    then changing (server_of question)
    (next_change at.tables (server_of question) (fileset_of question) no_fid (is_entering question) k call) at
    else coming_to (server_of question) at

-- what the open call lacks is asked for, where it may be
pub data AsksFor (need : Need) (k : ℕ) (call : Call) (old new : Doing) : Type 0 where
  -- a give-back of the file is on its way
  Waits : is_use need.kind ≡ false → list_any (is_of_file need.fid) old.tables.gives.gives ≡ true → new ≡ old
      → AsksFor need k call old new
  Comes : (is_use need.kind ≡ false → list_any (is_of_file need.fid) old.tables.gives.gives ≡ true → ⊥)
      → may_ask (home_at need.fid.fileset) old ≡ false → new ≡ coming_to (home_at need.fid.fileset) old
      → AsksFor need k call old new
  Changes : is_use need.kind ≡ true → may_ask (home_at need.fid.fileset) old ≡ true
      → new ≡ changing (home_at need.fid.fileset)
      (next_change old.tables (home_at need.fid.fileset) need.fid.fileset need.fid false k call) old
      → AsksFor need k call old new
  FetchesIt : is_use need.kind ≡ false → (list_any (is_of_file need.fid) old.tables.gives.gives ≡ true → ⊥)
      → may_ask (home_at need.fid.fileset) old ≡ true → Fetches call need.fid old new → AsksFor need k call old new
