-- What the tables of a host's machine say, as the rules see it.
use Rattle.std.specs.Prelude.{[]}
use Rattle.base_types.specs.Ids.{same_fid}
use Rattle.base_types.specs.Name.{same_name}
use Rattle.base_types.specs.declared.ids.Fid.{Fid}
use Rattle.base_types.specs.declared.ids.FilesetId.{FilesetId}
use Rattle.base_types.specs.declared.ids.HostId.{HostId}
use Rattle.base_types.specs.declared.ids.ServerId.{ServerId}
use Rattle.host_cache.specs.Holding.{tokens_of}
use Rattle.host_cache.specs.Seen.{Kept, seen}
use Rattle.host_dirty.specs.Dirtiness.{spans_of}
use Rattle.host_dirty.specs.declared.dirty.Dirty.{Dirty}
use Rattle.host_gives.specs.Giving.{is_of_file}
use Rattle.host_labels.specs.Labels.{InUse as InUseOf, is_labelled, is_lock, is_pinned}
use Rattle.host_labels.specs.declared.uses.Labelled.{Labelled as UseOf}
pub use Rattle.host_lengths.specs.Giving.{length_given}
use Rattle.host_tables.specs.declared.calls.Home.{Home}
use Rattle.host_tables.specs.declared.files.Floor.{Floor}
use Rattle.host_lengths.specs.declared.given.Given.{Given}
use Rattle.host_tables.specs.declared.numbers.Changed.{Changed}
use Rattle.host_tables.specs.declared.numbers.Fetched.{Fetched}
use Rattle.host_tables.specs.declared.sites.Site.{Site}
use Rattle.host_tables.specs.declared.tables.Tables.{Tables}
use Rattle.need_host.specs.Calls.{Own}
use Rattle.need_host.specs.Looks.{View}
use Rattle.need_host.specs.Shows.{needs_show}
use Rattle.run_rules.specs.Views.{nature_told}
use Rattle.run_rules.specs.declared.step.Labelled.{Labelled}
use Rattle.std.specs.Bool.{beq}
use Rattle.std.specs.List.{find, list_any}
use Rattle.std.specs.Option.{option_map, option_map_or}
use Rattle.std.specs.Prelude.{Bool, List, None, Option, Some, false, flat_map, map, nat_lt, not, true, unwrap_or}
use Rattle.std.specs.Prelude.{ℕ, ◌&&◌, ◌++◌, ◌==◌, ◌||◌, ◌∷◌}
use Rattle.token_types.specs.Conflicts.{need_of, same_id}
use Rattle.token_types.specs.declared.token.Kind.{Kind}
use Rattle.token_types.specs.declared.token.Kind.TheVariants.{Lock as LockToken, Opening, Status}
use Rattle.token_types.specs.declared.token.Token.{Token}
use Rattle.tree_answers.specs.declared.tree.LockUse.{LockUse}
use Rattle.tree_answers.specs.declared.tree.OpenUse.{OpenUse}
use Rattle.tree_laws.specs.Parts.{Part}
use Rattle.tree_laws.specs.Parts.Part.{ByteAt, Entries, Size, Traits}

-- tokens
abbrev pub held_of : Tables → List Token
held_of m = tokens_of m.cache.held

-- what the cache shows of each part
abbrev pub content : Kept → View
content kept fid (ByteAt at) = unwrap_or ((seen kept).bytes fid at) 0
content kept fid Size = option_map_or (λ status. status.length) ((seen kept).status fid) 0
content kept fid Traits = option_map nature_told ((seen kept).status fid)
content kept fid Entries = (seen kept).entries fid

-- whether one of the tokens shows the part
abbrev pub is_shown_by : List Token → Fid → Part → Bool
is_shown_by tokens fid part = needs_show (map need_of tokens) fid part

-- servers
abbrev pub fresh_site : ServerId → Site
fresh_site server = record {
  server = server;
  epoch = 0;
  greeted = false;
  welcome = false;
  claimed = false;
  said_bye = false;
  has_bye = false;
}

abbrev pub site_at : List Site → ServerId → Site
site_at sites server = unwrap_or (find (λ site. site.server.0 == server.0) sites) (fresh_site server)

abbrev pub floor_of : List Floor → Fid → ℕ
floor_of floors fid = option_map_or (λ floor. floor.stamp) (find (λ floor. same_fid floor.fid fid) floors) 0

abbrev pub home_of : List Home → ServerId → List ℕ → Option FilesetId
home_of homes server name =
    option_map (λ home. home.id) (find (λ home. (home.server.0 == server.0) && same_name home.name name) homes)

-- numbers of requests
abbrev pub last_fetch : List Fetched → FilesetId → ℕ
last_fetch fetched fileset =
    option_map_or (λ f. f.number) (find (λ f. f.fileset.0 == fileset.0) fetched) 0

abbrev pub is_counter : ServerId → FilesetId → Changed → Bool
is_counter server fileset changed =
    (changed.fileset.0 == fileset.0) && (not (fileset.0 == 0) || (changed.server.0 == server.0))

abbrev pub last_change : List Changed → ServerId → FilesetId → ℕ
last_change changed server fileset =
    option_map_or (λ c. c.number) (find (is_counter server fileset) changed) 0

-- the length is clean: the last one that was given back is what is seen, and is known as applied
abbrev pub is_length_clean : List Given → View → Fid → Bool
is_length_clean lengths view fid =
    option_map_or (λ given. (given.length == view fid Size) && given.known) (length_given lengths fid) false

-- a token for update of the status of a file
abbrev pub updates_status : Kind → Bool
updates_status (Status update) = update
updates_status _ = false

abbrev pub is_updating : Fid → Token → Bool
is_updating fid token = same_fid token.fid fid && updates_status token.kind

-- whether the length of a file is dirty under a held token
abbrev pub is_length_dirty : List Token → List Given → View → Fid → Bool
is_length_dirty held lengths view fid = list_any (is_updating fid) held && not (is_length_clean lengths view fid)

-- labels
abbrev pub labelled : UseOf → Labelled
labelled used = record { label = used.label; token = used.token }

-- the label is the last in use for its token, and the token is pinned
abbrev pub is_last_use : List UseOf → UseOf → Bool
is_last_use labels used =
    not (list_any (λ other. same_id other.token.id used.token.id && not (same_name other.label used.label)) labels)

abbrev pub is_last_pinned : InUseOf → UseOf → Bool
is_last_pinned uses used = is_last_use uses.labels used && is_pinned uses used.token.id

abbrev pub ones : Option Labelled → List Labelled
ones None = []
ones (Some u) = u ∷ []

-- the labels that the host has still
abbrev pub labels_of : Tables → List Labelled
labels_of m = map labelled m.uses.labels ++ ones m.ending

abbrev pub locks_under : HostId → Kind → Labelled → List LockUse
locks_under host (LockToken writing span) u =
    record { host = host; label = u.label; fid = u.token.fid; span = span; writing = writing } ∷ []
locks_under host _ u = []

abbrev pub opens_under : HostId → Kind → Labelled → List OpenUse
opens_under host (Opening kind) u = record { host = host; label = u.label; fid = u.token.fid; kind = kind } ∷ []
opens_under host _ u = []

-- whether the server has to take the end of a label, of locks or else of opens
abbrev pub ends_label : Bool → List ℕ → Option Labelled → Bool
ends_label lock label None = false
ends_label lock label (Some u) = beq (is_lock u.token.kind) lock && same_name u.label label

abbrev pub gives_label : Tables → Bool → List ℕ → Bool
gives_label m lock label =
    list_any (λ used. is_labelled lock label used && is_last_pinned m.uses used) m.uses.labels
    || ends_label lock label m.ending

-- whether a byte of a file is dirty
abbrev pub has_dirty_byte : Dirty → Fid → Bool
has_dirty_byte dirty fid = list_any (λ span. nat_lt span.from span.to) (spans_of dirty fid)

abbrev pub is_clean_file : Tables → Fid → Bool
is_clean_file m fid =
    not (has_dirty_byte m.dirty fid)
    && not (is_length_dirty (held_of m) m.lengths (content m.cache) fid)
    && not (list_any (is_of_file fid) m.gives.gives)

-- what the host knows of itself
abbrev pub own_of : Tables → Own
own_of m = record {
  locks = flat_map (λ u. locks_under m.host u.token.kind u) (labels_of m);
  opens = flat_map (λ u. opens_under m.host u.token.kind u) (labels_of m);
  gives_lock = gives_label m true;
  gives_open = gives_label m false;
  is_clean = is_clean_file m;
  seen = home_of m.homes;
}
