-- What a host sees under its tokens, what is dirty, and what it knows of itself when a step answers a call and when it
-- asks. `past` is the host's own earlier steps.
use Rattle.std.specs.List.{list_any}
use Rattle.std.specs.Option.{option_map, option_map_or}
use Rattle.std.specs.Prelude.{Bool, IsTrue, List, None, Ok, Option, Some, [], false, if◌then◌else◌, is_some, length}
use Rattle.std.specs.Prelude.{nat_le, nat_lt, not, slice_get, true, unwrap_or, ℕ, ◌&&◌, ◌+◌, ◌-◌, ◌||◌, ◌↔◌, ◌∷◌, ◌≡◌}
use Rattle.std.specs.Prelude.{◌⊎◌}
use Rattle.base_types.specs.Ids.{same_fid}
use Rattle.base_types.specs.Spans.{has_byte}
use Rattle.base_types.specs.declared.ids.Fid.{Fid}
use Rattle.base_types.specs.declared.ids.FilesetId.{FilesetId}
use Rattle.base_types.specs.declared.ids.HostId.{HostId}
use Rattle.base_types.specs.declared.ids.ServerId.{ServerId}
use Rattle.base_types.specs.declared.span.Span.{Span}
use Rattle.base_types.specs.declared.user.User.{User}
use Rattle.tree_answers.specs.declared.tree.LockUse.{LockUse}
use Rattle.tree_answers.specs.declared.tree.OpenUse.{OpenUse}
use Rattle.tree_calls.specs.Rosters.{user_of}
use Rattle.tree_calls.specs.declared.call.Call.{Call}
use Rattle.tree_calls.specs.declared.call.Call.TheVariants.{Write}
use Rattle.tree_calls.specs.declared.part.Piece.{Piece}
use Rattle.tree_calls.specs.declared.part.Status.{Status as StatusOf}
use Rattle.tree_calls.specs.declared.place.Place.{Place as NamedPlace}
use Rattle.tree_calls.specs.declared.roster.Roster.{Roster}
use Rattle.tree_laws.specs.Parts.{Nature, Part, Seen, no_cell}
use Rattle.tree_laws.specs.Parts.Part.{ByteAt, Entries, Size, Traits}
use Rattle.token_types.specs.declared.token.Kind.TheVariants.{Bytes, Lock as LockToken, Opening, Status}
use Rattle.token_types.specs.declared.token.Need.{Need}
use Rattle.token_types.specs.declared.token.Token.{Token}
use Rattle.message_types.specs.declared.asking.Change.{Change as ChangeOf}
use Rattle.message_types.specs.declared.giving.Give.{Give}
use Rattle.message_types.specs.declared.message.Body.{Body}
use Rattle.message_types.specs.declared.message.Body.TheVariants.{Change, Grant}
use Rattle.message_types.specs.declared.telling.Done.{Done as DoneOf}
use Rattle.message_types.specs.declared.telling.DoneIs.TheVariants.{Known as IsFileset}
use Rattle.message_types.specs.declared.telling.Grant.{Grant as GrantOf}
use Rattle.need_host.specs.Calls.{Own, Verdict, call_look, written_value}
use Rattle.need_host.specs.Looks.{IsCovered, Look, View, needs_of, outcome}
use Rattle.need_host.specs.Questions.{Question, fileset_of}
use Rattle.need_host.specs.Questions.Question.{ChangeAt, ChangeIn, EnterAt}
use Rattle.need_host.specs.Shows.{shows}
use Rattle.need_host.specs.Walks.{file_look, root_of}
use Rattle.run_rules.specs.Messages.{Said, Stay, stay_of}
use Rattle.run_rules.specs.Past.{EachOnce, In, Once}
use Rattle.run_rules.specs.Tokens.{AtHand, DoneCounts, FreesPinned, Held, IsEnding, IsKnown, LabelInUse, Made}
use Rattle.run_rules.specs.declared.applied.Answer.{Answer}
use Rattle.run_rules.specs.declared.step.Cause.{Cause}
use Rattle.run_rules.specs.declared.step.Cause.TheVariants.{Message as Came}
use Rattle.run_rules.specs.declared.step.Labelled.{Labelled}
use Rattle.run_rules.specs.declared.step.Step.{Step}

-- # What a Grant tells of its object

-- the first of some values that is there
abbrev pub first_some : {A B : Type 0} → (A → Option B) → List A → Option B
first_some f [] = None
first_some f (x ∷ xs) = if is_some (f x) then f x else first_some f xs

-- the byte that pieces have at a position
abbrev pub byte_in : Piece → ℕ → Option ℕ
byte_in piece at = if nat_le piece.from at then slice_get piece.bytes (at - piece.from) else None

abbrev pub byte_of : List Piece → ℕ → Option ℕ
byte_of pieces at = first_some (λ piece. byte_in piece at) pieces

abbrev pub nature_told : StatusOf → Nature
nature_told status = record {
  dir = status.dir;
  read_only = status.read_only;
  owner = status.owner;
  group = status.group;
  lists = status.lists;
}

-- what a Grant tells of the parts of its object; bytes that it doesn't tell are zero
abbrev pub part_told : GrantOf → (part : Part) → Seen part
part_told grant (ByteAt at) = unwrap_or (byte_of grant.pieces at) 0
part_told grant Size = option_map_or (λ status. status.length) grant.status 0
part_told grant Traits = option_map nature_told grant.status
part_told grant Entries = grant.entries

-- # What a host sees under the tokens that it holds

-- whether the step takes a token of the file that shows the part
abbrev pub is_shown : Step → Fid → Part → Bool
is_shown s fid part = list_any (λ token. same_fid token.fid fid && shows token.kind part) s.taken

-- what a host would see of all that its cause tells; only a Grant tells
abbrev pub told_by_body : Body → View → View
told_by_body (Grant grant) view fid part = part_told grant part
told_by_body _ view fid part = view fid part

abbrev pub told_by_cause : Cause → View → View
told_by_cause (Came m) view = told_by_body m.body view
told_by_cause _ view = view

-- what a Grant tells counts under the tokens that the step takes
abbrev pub shown_by : Step → View → View
shown_by s view fid part = if is_shown s fid part then told_by_cause s.cause view fid part else view fid part

-- whether an answered Write of the step is of this file
abbrev pub writes_to : Step → Fid → Bool
writes_to s fid = option_map_or (λ file. same_fid file fid) s.wrote false

-- what an answered call leaves of a part that is seen
abbrev pub after_call : Call → (part : Part) → Seen part → Seen part
after_call (Write place from bytes) part seen = written_value from bytes part seen
after_call _ part seen = seen

abbrev pub after_answers : List Answer → (part : Part) → Seen part → Seen part
after_answers [] part seen = seen
after_answers (a ∷ answers) part seen = after_answers answers part (after_call a.call part seen)

-- an answered Write changes bytes, and the length where it ends beyond it
abbrev pub changed_by_writes : Step → View → View
changed_by_writes s view fid part =
    if writes_to s fid then after_answers s.answers part (view fid part) else view fid part

-- the host's view: what the Grant of each token told, changed by its own answered Writes since
abbrev pub view : List Step → View
view [] = λ fid part. (no_cell part).kept
view (s ∷ past) = changed_by_writes s (shown_by s (view past))

-- what the host sees once a step has taken its tokens
abbrev pub sees : List Step → Step → View
sees past s = shown_by s (view past)

-- # What a host has written and not given back yet: dirty bytes, and dirty lengths

-- whether a call writes the byte at a position
abbrev pub writes_byte : Call → ℕ → Bool
writes_byte (Write place from bytes) at = nat_le from at && nat_lt at (from + length bytes)
writes_byte _ at = false

-- whether an answered Write of the step writes the byte of a file
abbrev pub writes_at : Step → Fid → ℕ → Bool
writes_at s fid at = writes_to s fid && list_any (λ a. writes_byte a.call at) s.answers

-- whether a give-back that the step makes has the byte of a file
abbrev pub gives_at : Step → Fid → ℕ → Bool
gives_at s fid at = list_any (λ give. same_fid give.fid fid && is_some (byte_of give.pieces at)) s.made

-- a byte is dirty: it was written, and no give-back that was made since has it
abbrev pub is_dirty : List Step → Fid → ℕ → Bool
is_dirty [] fid at = false
is_dirty (s ∷ past) fid at = (writes_at s fid at || is_dirty past fid at) && not (gives_at s fid at)

-- a token for update of a file's status, which shows its length
abbrev pub UpdatesStatus : Token → Fid → Type 0
UpdatesStatus token fid = (token.fid ≡ fid) × (token.kind ≡ Status true)

-- the step takes one
abbrev pub TakesStatus : Step → Fid → Type 0
TakesStatus s fid = (token : Token) × In token s.taken × UpdatesStatus token fid

-- the give-back is of the file, and has a length
abbrev pub HasLength : Give → Fid → Type 0
HasLength give fid = (give.fid ≡ fid) × ((n : ℕ) × (give.length ≡ Some n))

-- of the give-backs with a length of the file that were made since such a token was last taken this is the last
abbrev pub IsLastLength : List Step → Fid → Give → Type 0
IsLastLength [] fid give = ⊥
IsLastLength (s ∷ past) fid give =
    (In give s.made × HasLength give fid)
    ⊎ (IsLastLength past fid give × (TakesStatus s fid → ⊥)
    × ((other : Give) → In other s.made → HasLength other fid → ⊥))

-- A length is clean, once a step has learnt what it learns: the last give-back with a length, since a token for
-- update of the status was taken, has the length that the host sees, and is known as applied.
pub record LengthIsClean (past : List Step) (s : Step) (fid : Fid) : Type 0 where
  pub give : Give
  pub last : IsLastLength past fid give
  pub since : TakesStatus s fid → ⊥
  pub present : give.length ≡ Some (sees past s fid Size)
  pub known : IsKnown (s ∷ past) give

-- the length is dirty under the token: that is for update of the status, and the length isn't clean
abbrev pub LengthIsDirty : List Step → Step → Token → Type 0
LengthIsDirty past s token = UpdatesStatus token token.fid × (LengthIsClean past s token.fid → ⊥)

-- a token for update over a byte
abbrev pub UpdatesByte : Token → Fid → ℕ → Type 0
UpdatesByte token fid at =
    (span : Span) × (token.fid ≡ fid) × (token.kind ≡ Bytes true span) × IsTrue (has_byte span at)

-- a byte of its file is dirty under the token
abbrev pub ByteIsDirty : List Step → Token → ℕ → Type 0
ByteIsDirty past token at = UpdatesByte token token.fid at × (is_dirty past token.fid at ≡ true)

-- something is dirty under the token
abbrev pub IsDirtyUnder : List Step → Step → Token → Type 0
IsDirtyUnder past s token = ((at : ℕ) × ByteIsDirty past token at) ⊎ LengthIsDirty past s token

-- Nothing of the file is to be given back or on its way, once the step has learnt what it learns: nothing is dirty
-- under a token that the host has, and each give-back of the file that was made is known as applied.
pub record IsClean (past : List Step) (s : Step) (fid : Fid) : Type 0 where
  pub none_dirty : (t : Token) → AtHand s past t → t.fid ≡ fid → IsDirtyUnder past s t → ⊥
  pub none_open : (give : Give) → Made past give → give.fid ≡ fid → IsKnown (s ∷ past) give

-- # What a host knows of itself, and has, when a step answers a call and when it asks

-- the step tells the host the number of a fileset that a server and a name lead to: the Done of an entering Change
-- counts
abbrev pub Enters : List Step → Step → ServerId → List ℕ → FilesetId → Type 0
Enters past s server name id = (change : ChangeOf) × (done : DoneOf) × (epoch : ℕ) × (moves : ℕ)
    × Said past server epoch moves (Change change) × (change.enter ≡ true)
    × (fileset_of change.call ≡ Some (server, name))
    × DoneCounts past s server done × (done.bring.number ≡ change.number) × (done.fileset ≡ change.fileset)
    × (done.outcome ≡ IsFileset id)

abbrev pub Entered : List Step → ServerId → List ℕ → FilesetId → Type 0
Entered past server name id = Once (λ before s. Enters before s server name id) past

-- whether a question only enters a fileset
abbrev pub is_entering : Question → Bool
is_entering (EnterAt server) = true
is_entering _ = false

-- where a question goes: to where its fileset is, as far as the host knows, or to the server that it names
abbrev pub stay_asked : List Step → Question → Stay
stay_asked past (EnterAt server) = record { server = server; moves = 0 }
stay_asked past (ChangeIn fileset) = stay_of past fileset
stay_asked past (ChangeAt server) = record { server = server; moves = 0 }

-- The host has the label still: it is in use, or its use is being ended.
abbrev pub HasLabel : List Step → Step → Labelled → Type 0
HasLabel past s usage = LabelInUse past usage ⊎ IsEnding past s usage

-- the server has to take the end of the label: it is the last use of a pinned token, or was given back already
abbrev pub NeedsServer : List Step → Step → Labelled → Type 0
NeedsServer past s usage = FreesPinned past usage ⊎ IsEnding past s usage

-- a lock, an open file under a label
abbrev pub IsLock : HostId → LockUse → Labelled → Type 0
IsLock host lock usage = (lock.host ≡ host) × (lock.label ≡ usage.label) × (lock.fid ≡ usage.token.fid)
    × (usage.token.kind ≡ LockToken lock.writing lock.span)

abbrev pub IsOpening : HostId → OpenUse → Labelled → Type 0
IsOpening host opened usage = (opened.host ≡ host) × (opened.label ≡ usage.label) × (opened.fid ≡ usage.token.fid)
    × (usage.token.kind ≡ Opening opened.kind)

-- What a host knows of itself in a step, once it has learnt what the cause tells.
pub record KnowsItself (host : HostId) (past : List Step) (s : Step) (own : Own) : Type 0 where
  pub locks : (lock : LockUse) → In lock own.locks ↔ ((u : Labelled) × HasLabel past s u × IsLock host lock u)
  pub locks_once : EachOnce own.locks
  pub opens : (opened : OpenUse) → In opened own.opens ↔ ((u : Labelled) × HasLabel past s u × IsOpening host opened u)
  pub opens_once : EachOnce own.opens
  pub gives_lock : (label : List ℕ) → (own.gives_lock label ≡ true)
      ↔ ((lock : LockUse) × (u : Labelled) × (u.label ≡ label) × IsLock host lock u × NeedsServer past s u)
  pub gives_open : (label : List ℕ) → (own.gives_open label ≡ true)
      ↔ ((opened : OpenUse) × (u : Labelled) × (u.label ≡ label) × IsOpening host opened u × NeedsServer past s u)
  pub clean : (fid : Fid) → (own.is_clean fid ≡ true) ↔ IsClean past s fid
  pub seen : (server : ServerId) (name : List ℕ) (id : FilesetId) →
      (own.seen server name ≡ Some id) ↔ Entered (s ∷ past) server name id

-- Where a host stands in a step: for whom it acts, and what it knows of itself; the tokens that it has once it has
-- taken what it takes, under which it answers; and those that it keeps once it has dropped what it drops, under
-- which it asks.
pub record Stance (roster : Roster) (host : HostId) (past : List Step) (s : Step) : Type 0 where
  pub user : User
  pub acts_for : user_of roster host ≡ Some user
  pub own : Own
  pub knows : KnowsItself host past s own
  pub held : List Token
  pub holds : (token : Token) → In token held ↔ AtHand s past token
  pub kept : List Token
  pub keeps : (token : Token) → In token kept ↔ Held (s ∷ past) token

module _ {roster : Roster} {host : HostId} {past : List Step} {s : Step} where
  -- what a call looks at from there, what it needs, and what the host makes of it
  abbrev pub look_of : Stance roster host past s → Call → Look Verdict
  look_of stance call = call_look stance.own host stance.user call

  abbrev pub needs_in : Stance roster host past s → Call → List Need
  needs_in stance call = needs_of (sees past s) (look_of stance call)

  abbrev pub verdict_in : Stance roster host past s → Call → Verdict
  verdict_in stance call = outcome (sees past s) (look_of stance call)

  -- the call's walk and need, made on the view, lack no token
  abbrev pub IsCoveredIn : Stance roster host past s → Call → Type 0
  IsCoveredIn stance call = IsCovered stance.held (sees past s) (look_of stance call)

  -- the place of a Sync leads to the file, and the walk lacks no token
  abbrev pub FindsFile : Stance roster host past s → NamedPlace → Fid → Type 0
  FindsFile stance place fid =
      (id : FilesetId) × (nature : Nature) × (stance.own.seen place.server place.fileset ≡ Some id)
      × IsCovered stance.held (sees past s) (file_look stance.user (root_of id) place.path)
      × (outcome (sees past s) (file_look stance.user (root_of id) place.path) ≡ Ok (fid, nature))
