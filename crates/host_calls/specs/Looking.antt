-- What a host makes of a call, by its tables: the verdicts of the code, and what they mean.
use Rattle.std.specs.Prelude.{[], Err, List, MatchResult, None, Ok, Option, Result, Some, if◌then◌else◌, min, ℕ}
use Rattle.std.specs.Prelude.{Bool, false, length, not, true, ◌+◌, ◌-◌, ◌<◌, ◌≡◌, ◌≤◌}
use Rattle.std.specs.Option.{option_map_or}
use Rattle.base_types.specs.Outcomes.{either}
use Rattle.base_types.specs.declared.ids.Fid.{Fid}
use Rattle.base_types.specs.declared.ids.FilesetId.{FilesetId}
use Rattle.base_types.specs.declared.ids.ServerId.{ServerId}
use Rattle.base_types.specs.declared.limits.TheConstants.{FILE_BYTES_MAX, LABELS_MAX}
use Rattle.base_types.specs.declared.span.Span.{Span}
use Rattle.base_types.specs.declared.user.User.{User}
use Rattle.host_calls.specs.declared.looking.Question.{Question}
use Rattle.host_calls.specs.declared.looking.Question.TheVariants.{At, Enter, In as Within}
use Rattle.host_calls.specs.declared.looking.Start.{Start}
use Rattle.host_calls.specs.declared.looking.Start.TheVariants.{Ends as EndsAt, Walks}
use Rattle.host_calls.specs.declared.looking.Verdict.{Verdict}
use Rattle.host_calls.specs.declared.looking.Verdict.TheVariants.{Asks, Does, Frees, Gives, Lists, Reads, Shows, Syncs}
use Rattle.host_calls.specs.declared.looking.Verdict.TheVariants.{Tells, Uses, Writes}
use Rattle.host_cache.specs.Holding.{tokens_of}
use Rattle.host_cache.specs.Seen.{Kept}
use Rattle.host_labels.specs.Labels.{is_lock, use_of}
use Rattle.host_labels.specs.declared.uses.Labelled.{Labelled as UseOf}
use Rattle.host_tables.specs.Stands.{look_from}
use Rattle.host_leaves.specs.Owning.{has_label, label_count}
use Rattle.host_tables.specs.Tables.{content, gives_label, held_of, home_of, own_of}
use Rattle.host_tables.specs.declared.tables.Tables.{Tables}
use Rattle.host_walk.specs.Bytes.{bytes_seen, read_count}
use Rattle.host_walk.specs.declared.sight.Stop.{Stop}
use Rattle.host_walk.specs.declared.sight.Stop.TheVariants.{Lacks, Refused}
use Rattle.need_host.specs.Calls.{Verdict as Meant, access_look, change_look, list_in, list_look, lock_look, open_look}
use Rattle.need_host.specs.Calls.{read_look, stat_look, sync_look, write_look}
use Rattle.need_host.specs.Calls.Verdict.{Asks as AsksIt, Frees as FreesIt, Gives as GivesIt, Locks, Opens, Replies}
use Rattle.need_host.specs.Calls.Verdict.{Writes as WritesIt}
use Rattle.need_host.specs.Looks.{IsCovered, IsFirstLack, Look, View, needs_of, outcome}
use Rattle.need_host.specs.Looks.Look.{Ends}
use Rattle.need_host.specs.Questions.{Question as Asked}
use Rattle.need_host.specs.Questions.Question.{ChangeAt, ChangeIn, EnterAt}
use Rattle.need_host.specs.Walks.{rights_on, root_of, walk_look}
use Rattle.run_rules.specs.Past.{In}
use Rattle.run_rules.specs.Tokens.{IsUseKind}
use Rattle.run_rules.specs.declared.step.Labelled.{Labelled}
use Rattle.token_types.specs.Covers.{Covers, CoversBetween}
use Rattle.token_types.specs.declared.token.Kind.{Kind}
use Rattle.token_types.specs.declared.token.Kind.TheVariants.{Lock as LockToken, Opening}
use Rattle.tree_calls.specs.declared.call.Call.{Call}
use Rattle.tree_calls.specs.declared.call.Call.TheVariants.{GetAcl, List as ListNames, Lock, OpenFile, Read, Stat, Sync}
use Rattle.tree_calls.specs.declared.call.Call.TheVariants.{CloseFile, Unlock, Write}
use Rattle.tree_calls.specs.declared.place.Place.{Place}
use Rattle.tree_calls.specs.declared.place.Which.{Which}
use Rattle.tree_calls.specs.declared.reply.Refusal.{Refusal}
use Rattle.tree_calls.specs.declared.reply.Refusal.TheVariants.{AlreadyLocked, AlreadyOpened, NoEntry, NotLocked}
use Rattle.tree_calls.specs.declared.reply.Refusal.TheVariants.{NotOpened, TooMany}
use Rattle.tree_calls.specs.declared.reply.Reply.{Reply}
use Rattle.tree_calls.specs.declared.reply.Reply.TheVariants.{Access, Bytes, Facts, Names, Ok as Done}
use Rattle.tree_calls.specs.declared.reply.Reply.TheVariants.{Refused as IsRefused}
use Rattle.tree_laws.specs.Parts.{Nature}
use Rattle.tree_laws.specs.Parts.Part.{Entries, Size, Traits}
use Rattle.tree_objects.specs.Entries.{names_of}
use Rattle.tree_objects.specs.Spans.{span_between}

abbrev pub asked_by : Question → Asked
asked_by (Enter server) = EnterAt server
asked_by (Within fileset) = ChangeIn fileset
asked_by (At server) = ChangeAt server

-- the bytes of a Write
abbrev pub bytes_of : Call → List ℕ
bytes_of (Write place from bytes) = bytes
bytes_of _ = []

abbrev pub refused : Refusal → Meant
refused refusal = Replies (IsRefused refusal)

-- what is told of an object that is seen
abbrev pub facts_of : View → User → Fid → Nature → Reply
facts_of view user fid nature = Facts (record {
  dir = nature.dir;
  length = min (view fid Size) 4294967295;
  owner = nature.owner;
  rights = rights_on nature user;
})

abbrev pub access_of : Which → Nature → Reply
access_of which nature = either (list_in which nature) Access IsRefused

-- of an object that isn't seen there is no entry
abbrev pub of_seen : View → Fid → (Nature → Reply) → Reply
of_seen view fid tell = option_map_or tell (view fid Traits) (IsRefused NoEntry)

abbrev pub used_by : Fid → Kind → Meant
used_by fid (LockToken writing span) = Locks fid writing span
used_by fid (Opening kind) = Opens fid kind
used_by fid _ = Replies Done

-- what a verdict on a call means
abbrev pub meant_by : View → User → Call → Verdict → Meant
meant_by view user call Does = Replies Done
meant_by view user call (Reads fid span) = Replies (Bytes (bytes_seen view fid span.from (span.to - span.from)))
meant_by view user call (Lists fid) = Replies (Names (names_of (view fid Entries)))
meant_by view user call (Tells fid) = Replies (of_seen view fid (facts_of view user fid))
meant_by view user call (Shows fid which) = Replies (of_seen view fid (access_of which))
meant_by view user call (Writes fid from to) = WritesIt fid from (bytes_of call)
meant_by view user call (Uses fid kind) = used_by fid kind
meant_by view user call Frees = FreesIt
meant_by view user call (Syncs fid) = GivesIt
meant_by view user call Gives = GivesIt
meant_by view user call (Asks question) = AsksIt (asked_by question)

abbrev pub meant : Tables → Call → Result Verdict Refusal → Meant
meant m call (Ok verdict) = meant_by (content m.cache) m.user call verdict
meant m call (Err refusal) = refused refusal

-- what a call looks at from a root along a path
abbrev pub path_look : Tables → Call → Fid → List (List ℕ) → Look Meant
path_look m (Read place from len) root path = read_look m.user root path from len
path_look m (Write place from bytes) root path = write_look m.user root path from bytes
path_look m (ListNames place) root path = list_look m.user root path
path_look m (Stat place) root path = stat_look m.user root path
path_look m (GetAcl place which) root path = access_look m.user root path which
path_look m (Sync place) root path = sync_look (own_of m) m.user root path
path_look m (Lock label place writing from len) root path =
    lock_look (own_of m) m.host m.user root path writing from len
path_look m (OpenFile label place kind) root path = open_look m.user root path kind
path_look m _ root path = change_look root

-- each label is for the token of a lock or of an open file
pub record AreUses (m : Tables) : Type 0 where
  pub labels : (used : UseOf) → In used m.uses.labels → IsUseKind used.token.kind
  pub ending : (u : Labelled) → m.ending ≡ Some u → IsUseKind u.token.kind

-- no file is seen longer than one can be
abbrev pub AreSized : Kept → Type 0
AreSized kept = (fid : Fid) → content kept fid Size ≤ FILE_BYTES_MAX

-- a call looks at no object, or it goes from a root along a path
abbrev pub EndsSo : Tables → Call → Result Verdict Refusal → Type 0
EndsSo m call verdict = AreUses m → look_from m call ≡ Ends (meant m call verdict)

abbrev pub WalksSo : Tables → Call → Fid → List (List ℕ) → Type 0
WalksSo m call root path = AreUses m → look_from m call ≡ path_look m call root path

abbrev pub StartsSo : Tables → Call → Start → Type 0
StartsSo m call (EndsAt verdict) = EndsSo m call verdict
StartsSo m call (Walks root path) = WalksSo m call root path.now

-- what becomes of a look by what a cache shows: it lacks a token first, or it is covered and comes to this
abbrev pub StopsOn : Kept → Look Meant → Stop → Type 0
StopsOn kept look (Lacks need) = IsFirstLack (tokens_of kept.held) (needs_of (content kept) look) need
StopsOn kept look (Refused refusal) =
    IsCovered (tokens_of kept.held) (content kept) look × (outcome (content kept) look ≡ refused refusal)

abbrev pub JudgesOn : Kept → User → Call → Look Meant → Result Verdict Stop → Type 0
JudgesOn kept user call look result = MatchResult result
    (λ verdict. IsCovered (tokens_of kept.held) (content kept) look
    × (AreSized kept → outcome (content kept) look ≡ meant_by (content kept) user call verdict))
    (StopsOn kept look)

abbrev pub Walked : Tables → Call → Fid → List (List ℕ) → Result Verdict Stop → Type 0
Walked m call root path result = JudgesOn m.cache m.user call (path_look m call root path) result

-- the end of a label, of locks or else of opens
abbrev pub freed_by : Tables → Bool → List ℕ → Result Verdict Refusal
freed_by m lock label =
    if not (has_label m lock label) then Err (if lock then NotLocked else NotOpened)
    else Ok (if gives_label m lock label then Gives else Frees)

-- a call that only tells of an object
abbrev pub OnlyTells : Call → Type 0
OnlyTells (Read place from len) = Unit {0}
OnlyTells (Stat place) = Unit {0}
OnlyTells (ListNames place) = Unit {0}
OnlyTells (GetAcl place which) = Unit {0}
OnlyTells _ = ⊥

-- the verdict answers the call at once
abbrev pub is_settled : Result Verdict Refusal → Bool
is_settled (Ok (Syncs fid)) = false
is_settled (Ok Gives) = false
is_settled (Ok (Asks question)) = false
is_settled _ = true

-- the label that a call takes in use, of locks or else of opens
abbrev pub taken_label : Call → Option (Bool × List ℕ)
taken_label (Lock label place writing from len) = Some (true, label)
taken_label (OpenFile label place kind) = Some (false, label)
taken_label _ = None

-- the call that ends the use of a label, of locks or else of opens
abbrev pub ending_of : Bool → List ℕ → Call
ending_of true label = Unlock label
ending_of false label = CloseFile label

-- the label that a call takes isn't in use
abbrev pub IsFresh : Tables → Call → Type 0
IsFresh m call =
    (lock : Bool) (label : List ℕ) → taken_label call ≡ Some (lock, label) → use_of m.uses lock label ≡ None

-- a Write is of the bytes from a position on and before another, and the tokens cover them for update
pub record WritesSo (m : Tables) (call : Call) (fid : Fid) (from to : ℕ) : Type 0 where
  pub place : Place
  pub bytes : List ℕ
  pub call_is : call ≡ Write place from bytes
  pub ends : to ≡ from + length bytes
  pub covered : CoversBetween (held_of m) fid true from to

-- the exact token of a lock or of an open file is held, and the label that the call takes for it isn't in use
pub record TakesSo (m : Tables) (call : Call) (fid : Fid) (kind : Kind) : Type 0 where
  pub label : List ℕ
  pub kind_is : IsUseKind kind
  pub taken : taken_label call ≡ Some (is_lock kind, label)
  pub unused : use_of m.uses (is_lock kind) label ≡ None
  pub covered : Covers (held_of m) (record { fid = fid; kind = kind })

-- the call ends the use of a label, of locks or else of opens
pub record EndsLabel (call : Call) : Type 0 where
  pub lock : Bool
  pub label : List ℕ
  pub call_is : call ≡ ending_of lock label

-- and that is in use
pub record FreesSo (m : Tables) (call : Call) : Type 0 where
  pub lock : Bool
  pub label : List ℕ
  pub call_is : call ≡ ending_of lock label
  pub used : UseOf
  pub in_use : use_of m.uses lock label ≡ Some used

-- what a verdict rests on, beside the view
abbrev pub IsBacked : Tables → Call → Result Verdict Refusal → Type 0
IsBacked m call (Ok (Reads fid span)) = CoversBetween (held_of m) fid false span.from span.to
IsBacked m call (Ok (Writes fid from to)) = WritesSo m call fid from to
IsBacked m call (Ok (Uses fid kind)) = TakesSo m call fid kind
IsBacked m call (Ok Frees) = FreesSo m call
IsBacked m call (Ok Gives) = EndsLabel call
IsBacked m call _ = Unit {0}

abbrev pub StartsBacked : Tables → Call → Start → Type 0
StartsBacked m call (EndsAt verdict) = IsBacked m call verdict
StartsBacked m call (Walks root path) = IsFresh m call

-- a verdict by which nothing is read, listed, synced, written, used or freed
abbrev pub LeadsNowhere : Verdict → Type 0
LeadsNowhere (Reads fid span) = ⊥
LeadsNowhere (Lists fid) = ⊥
LeadsNowhere (Syncs fid) = ⊥
LeadsNowhere (Writes fid from to) = ⊥
LeadsNowhere (Uses fid kind) = ⊥
LeadsNowhere Frees = ⊥
LeadsNowhere _ = Unit {0}

-- a verdict by which nothing is read, listed, synced, written or used: all of that is found along a path
abbrev pub IsPathless : Result Verdict Refusal → Type 0
IsPathless (Ok (Reads fid span)) = ⊥
IsPathless (Ok (Lists fid)) = ⊥
IsPathless (Ok (Syncs fid)) = ⊥
IsPathless (Ok (Writes fid from to)) = ⊥
IsPathless (Ok (Uses fid kind)) = ⊥
IsPathless _ = Unit {0}

abbrev pub EndsPathless : Start → Type 0
EndsPathless (EndsAt verdict) = IsPathless verdict
EndsPathless (Walks root path) = Unit {0}

-- the bytes that are read are covered
abbrev pub CanReadOn : Kept → Verdict → Type 0
CanReadOn kept (Reads fid span) = CoversBetween (tokens_of kept.held) fid false span.from span.to
CanReadOn kept _ = Unit {0}

abbrev pub CanRead : Tables → Result Verdict Refusal → Type 0
CanRead m (Ok verdict) = CanReadOn m.cache verdict
CanRead m (Err refusal) = Unit {0}

-- a verdict that changes nothing of the host's own, nor asks for anything but a Sync
abbrev pub IsTold : Verdict → Type 0
IsTold Does = Unit {0}
IsTold (Reads fid span) = Unit {0}
IsTold (Lists fid) = Unit {0}
IsTold (Tells fid) = Unit {0}
IsTold (Shows fid which) = Unit {0}
IsTold (Syncs fid) = Unit {0}
IsTold _ = ⊥

-- where a path leads
abbrev pub LeadsTo : Kept → User → Fid → List (List ℕ) → Fid → Type 0
LeadsTo kept user root path fid = outcome (content kept) (walk_look user root path) ≡ Ok fid

-- the bytes that a Read reads of a file
abbrev pub ReadsSpan : Kept → Call → Fid → Span → Type 0
ReadsSpan kept (Read place from len) fid span =
    span ≡ span_between from (from + read_count from len (content kept fid Size))
ReadsSpan kept _ fid span = ⊥

abbrev pub IsList : Call → Type 0
IsList (ListNames place) = Unit {0}
IsList _ = ⊥

abbrev pub IsSync : Call → Type 0
IsSync (Sync place) = Unit {0}
IsSync _ = ⊥

-- where a Write begins and ends, and for which token a Lock or an OpenFile is
abbrev pub WritesTo : Call → ℕ → ℕ → Type 0
WritesTo (Write place at bytes) from to = (at ≡ from) × (to ≡ at + length bytes)
WritesTo _ from to = ⊥

abbrev pub UsesKind : Call → Kind → Type 0
UsesKind (Lock label place writing from len) kind = kind ≡ LockToken writing (span_between from (from + len))
UsesKind (OpenFile label place opening) kind = kind ≡ Opening opening
UsesKind _ kind = ⊥

-- what is read, listed or synced is where the path leads; what is written and used is the call's
abbrev pub LeadsOn : Kept → User → Call → Fid → List (List ℕ) → Verdict → Type 0
LeadsOn kept user call root path (Reads fid span) = LeadsTo kept user root path fid × ReadsSpan kept call fid span
LeadsOn kept user call root path (Lists fid) = LeadsTo kept user root path fid × IsList call
LeadsOn kept user call root path (Syncs fid) = LeadsTo kept user root path fid × IsSync call
LeadsOn kept user call root path (Writes fid from to) = WritesTo call from to
LeadsOn kept user call root path (Uses fid kind) = UsesKind call kind
LeadsOn kept user call root path Frees = ⊥
LeadsOn kept user call root path _ = Unit {0}

abbrev pub LeadsSo : Tables → Call → Fid → List (List ℕ) → Verdict → Type 0
LeadsSo m call root path verdict = LeadsOn m.cache m.user call root path verdict

-- what is made of a Write, of a Lock and of an OpenFile
abbrev pub CoversWrite : Kept → ℕ → List ℕ → Verdict → Type 0
CoversWrite kept from bytes Does = Unit {0}
CoversWrite kept from bytes (Writes fid at to) = (at ≡ from) × (to ≡ from + length bytes)
    × CoversBetween (tokens_of kept.held) fid true from to
CoversWrite kept from bytes _ = ⊥

abbrev pub CoversUse : Kept → Bool → Verdict → Type 0
CoversUse kept lock (Uses fid kind) = IsUseKind kind × (is_lock kind ≡ lock)
    × Covers (tokens_of kept.held) (record { fid = fid; kind = kind })
CoversUse kept lock _ = ⊥

-- from the root of a fileset of this server and name along a path, where the host has entered it
abbrev pub StartsAt : Tables → ServerId → List ℕ → List (List ℕ) → Start → Type 0
StartsAt m server name path (EndsAt verdict) =
    (home_of m.homes server name ≡ None) × (verdict ≡ Ok (Asks (Enter server)))
StartsAt m server name path (Walks root along) =
    (id : FilesetId) × (home_of m.homes server name ≡ Some id) × (root ≡ root_of id) × (along.now ≡ path)

-- so with a call that takes a label in use, unless it has the label, or too many
abbrev pub taken_refusal : Bool → Refusal
taken_refusal lock = if lock then AlreadyLocked else AlreadyOpened

pub data LabelStarts (m : Tables) (lock : Bool) (label : List ℕ) (place : Place) (start : Start) : Type 0 where
  HasIt : has_label m lock label ≡ true → start ≡ EndsAt (Err (taken_refusal lock))
      → LabelStarts m lock label place start
  HasAll : has_label m lock label ≡ false → LABELS_MAX ≤ label_count m lock → start ≡ EndsAt (Err TooMany)
      → LabelStarts m lock label place start
  MayTake : has_label m lock label ≡ false → label_count m lock < LABELS_MAX
      → StartsAt m place.server place.fileset place.path start → LabelStarts m lock label place start

-- the verdict of a look that is covered
abbrev pub IsVerdictOf : Result Verdict Stop → Result Verdict Refusal → Type 0
IsVerdictOf (Ok verdict) made = made ≡ Ok verdict
IsVerdictOf (Err (Refused refusal)) made = made ≡ Err refusal
IsVerdictOf (Err (Lacks need)) made = ⊥
