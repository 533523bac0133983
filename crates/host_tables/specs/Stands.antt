-- When a host's tables show what its steps say: a record for each table, one direction a field. The list of steps may
-- end with the half of a step in which the host has learnt and taken, and done nothing yet.
use Rattle.run_rules.specs.HostAsks.{HasLost}
use Rattle.base_types.specs.declared.ids.Fid.{Fid}
use Rattle.base_types.specs.declared.ids.FilesetId.{FilesetId}
use Rattle.base_types.specs.declared.ids.HostId.{HostId}
use Rattle.base_types.specs.declared.ids.ServerId.{ServerId}
use Rattle.base_types.specs.declared.limits.TheConstants.{FILE_BYTES_MAX}
use Rattle.host_cache.specs.Holding.{is_status, tokens_of}
use Rattle.host_cache.specs.Seen.{Kept}
use Rattle.host_cache.specs.declared.held.Held.{Held}
use Rattle.host_dirty.specs.Dirtiness.{is_dirty as is_dirty_in}
use Rattle.host_dirty.specs.declared.dirty.Dirty.{Dirty}
use Rattle.host_gives.specs.Counters.{last_of}
use Rattle.host_gives.specs.Giving.{Giving}
use Rattle.host_labels.specs.Labels.{InUse as InUseOf, is_pinned}
use Rattle.host_labels.specs.declared.uses.Labelled.{Labelled as UseOf}
use Rattle.host_tables.specs.Tables.{content, floor_of, held_of, home_of, is_length_clean, is_shown_by, labelled}
use Rattle.host_tables.specs.Tables.{last_change, last_fetch, length_given, own_of, site_at, updates_status}
use Rattle.host_tables.specs.declared.calls.Home.{Home}
use Rattle.host_gives.specs.declared.leavings.Leaving.{Leaving}
use Rattle.host_tables.specs.declared.calls.Request.{Request}
use Rattle.host_tables.specs.declared.calls.Request.TheVariants.{Change as AChange, Fetch as AFetch}
use Rattle.host_tables.specs.declared.files.Floor.{Floor}
use Rattle.host_lengths.specs.declared.given.Given.{Given}
use Rattle.host_tables.specs.declared.numbers.Changed.{Changed}
use Rattle.host_tables.specs.declared.numbers.Fetched.{Fetched}
use Rattle.host_tables.specs.declared.sites.Site.{Site}
use Rattle.host_tables.specs.declared.tables.Tables.{Tables}
use Rattle.message_types.specs.Soundness.{no_fid}
use Rattle.message_types.specs.declared.asking.Change.{Change as ChangeOf}
use Rattle.message_types.specs.declared.asking.Fetch.{Fetch as FetchOf}
use Rattle.message_types.specs.declared.giving.Ends.{Ends}
use Rattle.message_types.specs.declared.giving.Give.{Give}
use Rattle.message_types.specs.declared.message.Body.TheVariants.{Bye, Change, GiveBack}
use Rattle.message_types.specs.declared.message.Message.{Message}
use Rattle.need_host.specs.Calls.{Own, Verdict, call_look, reply_now}
use Rattle.need_host.specs.Calls.Verdict.{Asks, Gives}
use Rattle.need_host.specs.Looks.{IsCovered, IsFirstLack, Look, needs_of, outcome}
use Rattle.need_host.specs.Questions.{Question, fileset_of}
use Rattle.need_host.specs.Questions.Question.{ChangeIn}
use Rattle.need_host.specs.Walks.{file_look, root_of}
use Rattle.run_rules.specs.HostAsks.{HasChanged, HasFetched, IsChangeNumber, IsFetchNumber}
use Rattle.run_rules.specs.HostMay.{AwaitsReclaimed, TakenBefore}
use Rattle.run_rules.specs.HostTokens.{LastUsed, OwnsUpdate}
use Rattle.run_rules.specs.Messages.{Asking, Changing, HasBye, HasGreeted, HasKeptToken, HasSaid, HasStopped}
use Rattle.run_rules.specs.Messages.{IsDecidedAt, IsWelcome, Said, epoch_at, stay_of}
use Rattle.run_rules.specs.Past.{EachOnce, In}
use Rattle.run_rules.specs.Steps.{limit_of}
use Rattle.run_rules.specs.Tokens.{AboveFloor, EverHeld, FreesPinned, GiveOpen, Held as HeldBy, HoldsId, HasEndedUse}
use Rattle.run_rules.specs.Tokens.{IsKnown, IsOpen, IsUseKind, LabelInUse, Made, Owns, TokenInUse, calls_begun}
use Rattle.run_rules.specs.Tokens.{end_of, number_of}
use Rattle.run_rules.specs.Views.{ByteIsDirty, Entered, IsLastLength, is_dirty, stay_asked, view}
use Rattle.run_rules.specs.declared.step.Asked.{Asked}
use Rattle.run_rules.specs.declared.step.Labelled.{Labelled}
use Rattle.run_rules.specs.declared.step.Step.{Step}
use Rattle.script_lines.specs.declared.script.Script.{Script}
use Rattle.std.specs.Prelude.{[], List, None, Ok, Option, Some, false, true, ℕ, ◌++◌, ◌<◌, ◌↔◌, ◌∷◌, ◌≡◌, ◌≤◌, ◌⊎◌}
use Rattle.token_types.specs.declared.token.Need.{Need}
use Rattle.token_types.specs.declared.token.Token.{Token}
use Rattle.token_types.specs.declared.token.TokenId.{TokenId}
use Rattle.tree_calls.specs.Rosters.{user_of}
use Rattle.tree_calls.specs.declared.call.Call.{Call}
use Rattle.tree_calls.specs.declared.call.Call.TheVariants.{Sync}
use Rattle.tree_calls.specs.declared.place.Place.{Place as NamedPlace}
use Rattle.tree_calls.specs.declared.reply.Reply.{Reply}
use Rattle.tree_calls.specs.declared.roster.Roster.{Roster}
use Rattle.tree_laws.specs.Parts.{Nature, Part}
use Rattle.tree_laws.specs.Parts.Part.{ByteAt}

-- the tokens in the cache are those that are held, and owned, while the host lives; those in use are marked
pub record CacheStands (kept : List Held) (past : List Step) : Type 0 where
  pub held : (t : Token) → In t (tokens_of kept) → HeldBy past t
  pub cached : (t : Token) → HeldBy past t → In t (tokens_of kept)
  pub owned : (t : Token) → In t (tokens_of kept) → Owns past t
  pub owns : (t : Token) → Owns past t → In t (tokens_of kept)
  pub once : (t u : Token) → In t (tokens_of kept) → In u (tokens_of kept) → t.id ≡ u.id → t ≡ u
  pub marked : (h : Held) → In h kept → h.in_use ≡ true → TokenInUse past h.token.id
  pub unmarked : (h : Held) → In h kept → h.in_use ≡ false → TokenInUse past h.token.id → ⊥
  pub tells : (h : Held) → In h kept → is_status h.token.kind ≡ true → h.tells ≡ true

-- what the cache shows under its tokens is what the host sees, and beyond what a file can have
pub record ContentsStand (cache : Kept) (past : List Step) : Type 0 where
  pub agrees : (fid : Fid) (part : Part) → is_shown_by (tokens_of cache.held) fid part ≡ true
      → content cache fid part ≡ view past fid part
  pub beyond : (fid : Fid) (at : ℕ) → FILE_BYTES_MAX ≤ at → content cache fid (ByteAt at) ≡ view past fid (ByteAt at)
  pub zero : (fid : Fid) (at : ℕ) → FILE_BYTES_MAX ≤ at → content cache fid (ByteAt at) ≡ 0

-- the order of use: a token was used no later than those before it
abbrev pub UsedLater : Roster → HostId → List Step → Token → Token → Type 0
UsedLater roster host past late early =
    (n m : ℕ) → LastUsed roster host past late n → LastUsed roster host past early m → m ≤ n

abbrev pub OrderStands : Roster → HostId → List Held → List Step → Type 0
OrderStands roster host held past =
    (before behind : List Held) (late early : Held) → held ≡ before ++ late ∷ behind → In early behind
    → UsedLater roster host past late.token early.token

-- dirty bytes lie under tokens for update
pub record DirtyStands (dirty : Dirty) (past : List Step) : Type 0 where
  pub bytes : (fid : Fid) (at : ℕ) → is_dirty_in dirty fid at ≡ is_dirty past fid at
  pub under : (fid : Fid) (at : ℕ) → is_dirty past fid at ≡ true → OwnsUpdate past fid at
  pub inside : (fid : Fid) (at : ℕ) → is_dirty past fid at ≡ true → at < FILE_BYTES_MAX

-- what a length that was given back says
pub record TellsLength (given : Given) (give : Give) (past : List Step) : Type 0 where
  pub number : give.number ≡ given.number
  pub length : give.length ≡ Some given.length
  pub known : given.known ≡ true → IsKnown past give
  pub unknown : given.known ≡ false → IsKnown past give → ⊥

pub record LengthsStand (lengths : List Given) (past : List Step) : Type 0 where
  pub some : (fid : Fid) (given : Given) → length_given lengths fid ≡ Some given
      → (give : Give) × IsLastLength past fid give × TellsLength given give past
  pub all : (fid : Fid) (give : Give) → IsLastLength past fid give
      → (given : Given) × (length_given lengths fid ≡ Some given) × TellsLength given give past

-- what the last step took is of numbers that weren't held, and not in use
abbrev pub TakenAnew : List Step → Type 0
TakenAnew [] = Unit {0}
TakenAnew (s ∷ past) = (t : Token) → In t s.taken → (HoldsId past t.id → ⊥) × (TokenInUse past t.id → ⊥)

-- the labels in use, in order, and those of them that are pinned
pub record UsesStand (uses : InUseOf) (past : List Step) : Type 0 where
  pub used : (u : UseOf) → In u uses.labels → LabelInUse past (labelled u)
  pub labels : (u : Labelled) → LabelInUse past u → In (record { label = u.label; token = u.token }) uses.labels
  pub held : (u : Labelled) → LabelInUse past u → HeldBy past u.token
  pub kinds : (u : Labelled) → LabelInUse past u → IsUseKind u.token.kind
  pub pinned : (u : Labelled) → LabelInUse past u → is_pinned uses u.token.id ≡ true → HasKeptToken past u.token.id
  pub kept : (u : Labelled) → LabelInUse past u → HasKeptToken past u.token.id → is_pinned uses u.token.id ≡ true
  -- a held token that a Kept named is in use
  pub kept_used : (id : TokenId) → HasKeptToken past id → HoldsId past id → TokenInUse past id
  pub anew : TakenAnew past
  pub kept_ever : (id : TokenId) → HasKeptToken past id → (u : Token) × EverHeld past u × (u.id ≡ id)
  -- in the order in which they were taken, each while it wasn't in use
  pub order : (before behind : List UseOf) (first later : UseOf) → uses.labels ≡ before ++ first ∷ behind
      → In later (first ∷ behind) → TakenBefore past (labelled later) (labelled first) → ⊥

-- the give-backs that aren't known as applied, and the last number of each fileset
pub record GivesStand (gives : Giving) (past : List Step) : Type 0 where
  pub made : (m : Message) → In m gives.gives
      → (g : Give) × (m.body ≡ GiveBack g) × Made past g × (IsKnown past g → ⊥)
  pub all : (g : Give) → Made past g → IsKnown past g ⊎ ((m : Message) × In m gives.gives × (m.body ≡ GiveBack g))
  pub one : (g k : Give) → Made past g → Made past k → number_of g ≡ number_of k → g ≡ k
  pub last : (g : Give) → Made past g → g.number ≤ last_of gives.counters g.fid.fileset
  pub counted : (fs : FilesetId) → (last_of gives.counters fs ≡ 0)
      ⊎ ((g : Give) × Made past g × (g.fid.fileset ≡ fs) × (g.number ≡ last_of gives.counters fs))

-- the tokens of those give-backs, and the label whose use one of them ends
pub record LeavingStands (leaving : List Leaving) (ending : Option Labelled) (past : List Step) : Type 0 where
  pub tokens : (g : Give) (i : TokenId) → Made past g → In i g.ids → (IsKnown past g → ⊥)
      → (x : Leaving) × In x leaving × (x.token.id ≡ i) × (x.fileset ≡ g.fid.fileset) × (x.number ≡ g.number)
  pub from : (x : Leaving) → In x leaving → EverHeld past x.token
      × ((g : Give) × Made past g × (IsKnown past g → ⊥) × In x.token.id g.ids × (x.token.fid ≡ g.fid)
      × (x.fileset ≡ g.fid.fileset) × (x.number ≡ g.number))
  pub ends : (u : Labelled) → ending ≡ Some u → IsUseKind u.token.kind
      × ((g : Give) × HasEndedUse past g u × (IsKnown past g → ⊥))
  pub ended : (u : Labelled) (g : Give) → HasEndedUse past g u → (IsKnown past g → ⊥) → ending ≡ Some u
  -- one of them alone ends a call
  pub one : (g k : Give) (a b : Ends) → Made past g → Made past k → g.ends ≡ Some a → k.ends ≡ Some b
      → (IsKnown past g → ⊥) → (IsKnown past k → ⊥) → g ≡ k
  -- and it ended the use of a label
  pub uses : (g : Give) (a : Ends) → Made past g → g.ends ≡ Some a → (IsKnown past g → ⊥)
      → (u : Labelled) × HasEndedUse past g u

pub record FloorsStand (floors : List Floor) (past : List Step) : Type 0 where
  pub above : (fid : Fid) (stamp : ℕ) → floor_of floors fid < stamp → AboveFloor past fid stamp
  pub floor : (fid : Fid) (stamp : ℕ) → AboveFloor past fid stamp → floor_of floors fid < stamp

-- what a host has of a server
pub record SiteStands (site : Site) (v : ServerId) (past : List Step) : Type 0 where
  pub epoch : site.epoch ≡ epoch_at past v
  pub greeted : (site.greeted ≡ true) ↔ HasGreeted past v
  pub welcome : (site.welcome ≡ true) ↔ IsWelcome past v
  pub claimed : (site.claimed ≡ true) ↔ AwaitsReclaimed past v
  pub said_bye : (site.said_bye ≡ true) ↔ HasSaid past v Bye
  pub has_bye : (site.has_bye ≡ true) ↔ HasBye past v

abbrev pub SitesStand : List Site → List Step → Type 0
SitesStand sites past = (v : ServerId) → SiteStands (site_at sites v) v past

-- the one request that is outstanding, whole; each has its number alone
pub record RequestStands (request : Option Request) (past : List Step) : Type 0 where
  pub fetch : (f : FetchOf) → request ≡ Some (AFetch f)
      → HasFetched past f × Asking past f.fid.fileset f.number × IsWelcome past (stay_of past f.fid.fileset).server
  pub change : (v : ServerId) (c : ChangeOf) → request ≡ Some (AChange v c)
      → HasChanged past v c × Changing past v c.fileset c.number × IsDecidedAt past c.fileset v 0 × IsWelcome past v
  pub asking : (fs : FilesetId) (n : ℕ) → Asking past fs n
      → (f : FetchOf) × (request ≡ Some (AFetch f)) × (f.fid.fileset ≡ fs) × (f.number ≡ n)
  pub changing : (v : ServerId) (fs : FilesetId) (n : ℕ) → Changing past v fs n
      → (w : ServerId) × (c : ChangeOf) × (request ≡ Some (AChange w c)) × (c.fileset ≡ fs) × (c.number ≡ n)
      × (fs.0 ≡ 0 → w ≡ v)
  pub one_fetch : (f k : FetchOf) → HasFetched past f → HasFetched past k → f.fid.fileset ≡ k.fid.fileset
      → f.number ≡ k.number → f ≡ k
  pub one_change : (v : ServerId) (c d : ChangeOf) → HasChanged past v c → HasChanged past v d → c.fileset ≡ d.fileset
      → c.number ≡ d.number → c ≡ d
  -- a Change that enters a fileset was sent to the server that its call names, and the host hasn't entered that fileset
  pub entering : (v : ServerId) (c : ChangeOf) (w : ServerId) (name : List ℕ) → request ≡ Some (AChange v c)
      → c.enter ≡ true → fileset_of c.call ≡ Some (w, name)
      → (w ≡ v) × ((e n : ℕ) × Said past w e n (Change c)) × ((id : FilesetId) → Entered past w name id → ⊥)

pub record NumbersStand (fetched : List Fetched) (changed : List Changed) (past : List Step) : Type 0 where
  pub fetches : (fs : FilesetId) (n : ℕ) → IsFetchNumber past fs n → n ≤ last_fetch fetched fs
  pub fetch_last : (fs : FilesetId) → (last_fetch fetched fs ≡ 0) ⊎ IsFetchNumber past fs (last_fetch fetched fs)
  pub changes : (v : ServerId) (fs : FilesetId) (n : ℕ) → IsChangeNumber past v fs n → n ≤ last_change changed v fs
  pub change_last : (v : ServerId) (fs : FilesetId)
      → (last_change changed v fs ≡ 0) ⊎ IsChangeNumber past v fs (last_change changed v fs)

pub record HomesStand (homes : List Home) (past : List Step) : Type 0 where
  pub seen : (server : ServerId) (name : List ℕ) (id : FilesetId)
      → (home_of homes server name ≡ Some id) ↔ Entered past server name id

pub record CallStands (call : Option Asked) (count : ℕ) (past : List Step) : Type 0 where
  pub is_open : (c : Asked) → call ≡ Some c → IsOpen past c
  pub asked : (c : Asked) → IsOpen past c → call ≡ Some c
  pub begun : count ≡ calls_begun past

-- a host that has said Bye has and asks for nothing more
pub record PartedStands (request : Option Request) (call : Option Asked) (v : ServerId) (past : List Step) : Type 0
  where
    pub greeted : HasGreeted past v
    pub none_asked : request ≡ None
    pub none_open : call ≡ None
    pub none_owned : (t : Token) → Owns past t → ⊥
    pub known : (g : Give) → Made past g → IsKnown past g

-- a label that the host has still stands once among its locks, or its opens
pub record LabelsStand (own : Own) : Type 0 where
  pub locks : EachOnce own.locks
  pub opens : EachOnce own.opens

-- the files whose last token of the status a Revoke took since the open call was begun
abbrev pub LostStands : List Fid → Option Asked → List Step → Type 0
LostStands lost call past = (c : Asked) → call ≡ Some c → (fid : Fid) → In fid lost ↔ HasLost past fid

-- all tables
pub record Stands (script : Script) (m : Tables) (past : List Step) : Type 0 where
  pub user : user_of script.roster m.host ≡ Some m.user
  pub limit : m.limit ≡ limit_of script.roster m.host
  pub live : HasStopped past → ⊥
  pub cache : CacheStands m.cache.held past
  pub contents : ContentsStand m.cache past
  pub order : OrderStands script.roster m.host m.cache.held past
  pub dirty : DirtyStands m.dirty past
  pub lengths : LengthsStand m.lengths past
  pub uses : UsesStand m.uses past
  pub labels : LabelsStand (own_of m)
  pub gives : GivesStand m.gives past
  pub leaving : LeavingStands m.leaving m.ending past
  pub floors : FloorsStand m.floors past
  pub sites : SitesStand m.sites past
  pub request : RequestStands m.request past
  pub numbers : NumbersStand m.fetched m.changed past
  pub homes : HomesStand m.homes past
  pub call : CallStands m.call m.begun past
  pub lost : LostStands m.lost m.call past
  pub parted : (v : ServerId) → HasSaid past v Bye → PartedStands m.request m.call v past

-- from where the machine stands: what a call needs, what is made of it, and what is lacked first
abbrev pub look_from : Tables → Call → Look Verdict
look_from m call = call_look (own_of m) m.host m.user call

abbrev pub needs_from : Tables → Call → List Need
needs_from m call = needs_of (content m.cache) (look_from m call)

abbrev pub verdict_from : Tables → Call → Verdict
verdict_from m call = outcome (content m.cache) (look_from m call)

abbrev pub IsCoveredFrom : Tables → Call → Type 0
IsCoveredFrom m call = IsCovered (held_of m) (content m.cache) (look_from m call)

abbrev pub IsLack : Tables → Call → Need → Type 0
IsLack m call need = IsFirstLack (held_of m) (needs_from m call) need

-- the call can be answered
pub record CanReply (m : Tables) (call : Call) : Type 0 where
  pub covered : IsCoveredFrom m call
  pub reply : Reply
  pub settled : reply_now (verdict_from m call) ≡ Some reply

-- what a server is asked about the call
abbrev pub AsksFrom : Tables → Call → Question → Fid → Type 0
AsksFrom m call question fid =
    ((verdict_from m call ≡ Asks question) × IsCoveredFrom m call × (fid ≡ no_fid))
    ⊎ ((need : Need) × IsLack m call need × IsUseKind need.kind × (need.fid ≡ fid)
    × (question ≡ ChangeIn need.fid.fileset))

-- the stay_of of a Sync leads to the file, by the tables
pub record Finds (m : Tables) (stay_of : NamedPlace) (fid : Fid) : Type 0 where
  pub id : FilesetId
  pub nature : Nature
  pub seen : home_of m.homes stay_of.server stay_of.fileset ≡ Some id
  pub covered : IsCovered (held_of m) (content m.cache) (file_look m.user (root_of id) stay_of.path)
  pub found : outcome (content m.cache) (file_look m.user (root_of id) stay_of.path) ≡ Ok (fid, nature)

-- something is dirty under a held token, by the tables
abbrev pub IsDirtyFrom : Tables → List Step → Token → Type 0
IsDirtyFrom m past t = ((at : ℕ) × ByteIsDirty past t at)
    ⊎ ((updates_status t.kind ≡ true) × (is_length_clean m.lengths (content m.cache) t.fid ≡ false))

-- for what the open call waits
pub data IsWaiting (m : Tables) (past : List Step) (call : Call) : Type 0 where
  ForGrant : (f : FetchOf) → m.request ≡ Some (AFetch f) → IsWaiting m past call
  ForDone : (v : ServerId) (c : ChangeOf) → m.request ≡ Some (AChange v c) → IsWaiting m past call
  -- for the Gone of the object that it lacks a token of
  ForFile : (need : Need) → IsLack m call need → GiveOpen past need.fid → IsWaiting m past call
  -- for the Gone of what it gave back itself
  ForGone : (g : Give) → IsCoveredFrom m call → verdict_from m call ≡ Gives → Made past g → (IsKnown past g → ⊥)
      → IsWaiting m past call
  -- for the server to welcome the host
  ForNeed : (need : Need) → IsLack m call need → HasGreeted past (stay_of past need.fid.fileset).server
      → (IsWelcome past (stay_of past need.fid.fileset).server → ⊥) → IsWaiting m past call
  ForQuestion : (question : Question) (fid : Fid) → AsksFrom m call question fid
      → HasGreeted past (stay_asked past question).server → (IsWelcome past (stay_asked past question).server → ⊥)
      → IsWaiting m past call

-- A host at rest: its open call can't be answered yet and has nothing to give back, and waits for something.
pub record IsAtRest (m : Tables) (past : List Step) : Type 0 where
  pub stuck : (c : Asked) → m.call ≡ Some c → CanReply m c.call → ⊥
  pub synced : (c : Asked) (stay_of : NamedPlace) (fid : Fid) (t : Token) → m.call ≡ Some c → c.call ≡ Sync stay_of
      → Finds m stay_of fid → In t (held_of m) → t.fid ≡ fid → IsDirtyFrom m past t → ⊥
  pub freed : (c : Asked) (u : Labelled) → m.call ≡ Some c → c.call ≡ end_of u → FreesPinned past u → ⊥
  pub waits : (c : Asked) → m.call ≡ Some c → IsWaiting m past c.call
  pub alone : m.call ≡ None → m.request ≡ None
