-- What a server applies by the cause of a step, and how it makes wants and decides Changes. `past` is its doings so
-- far.
use Rattle.std.specs.List.{list_all}
use Rattle.std.specs.Option.{option_map_or}
use Rattle.std.specs.Prelude.{Bool, List, [], false, if◌then◌else◌, is_some, length, map, nat_lt, true, ℕ, ◌&&◌, ◌++◌}
use Rattle.std.specs.Prelude.{◌+◌, ◌||◌, ◌∷◌, ◌≡◌, ◌≢◌, ◌⊎◌}
use Rattle.base_types.specs.declared.ids.FilesetId.{FilesetId}
use Rattle.base_types.specs.declared.ids.HostId.{HostId}
use Rattle.base_types.specs.declared.ids.ServerId.{ServerId}
use Rattle.base_types.specs.declared.span.Span.{Span}
use Rattle.tree_answers.specs.Answers.{answer_to}
use Rattle.tree_answers.specs.declared.tree.Tree.{Tree}
use Rattle.tree_calls.specs.declared.call.Call.{Call}
use Rattle.tree_calls.specs.declared.call.Call.TheVariants.{Lock, OpenFile}
use Rattle.tree_calls.specs.declared.part.Piece.{Piece}
use Rattle.tree_calls.specs.declared.reply.Refusal.{Refusal}
use Rattle.tree_calls.specs.declared.reply.Refusal.TheVariants.{InUse, Locked, NoFileset, NoRoom, OpenConflict}
use Rattle.tree_calls.specs.declared.reply.Refusal.TheVariants.{TooMany}
use Rattle.tree_calls.specs.declared.reply.Reply.{Reply}
use Rattle.tree_calls.specs.declared.reply.Reply.TheVariants.{Ok as Fine, Refused}
use Rattle.tree_objects.specs.Spans.{span_between}
use Rattle.token_types.specs.Conflicts.{need_of}
use Rattle.token_types.specs.declared.token.Need.{Need}
use Rattle.token_types.specs.declared.token.Token.{Token}
use Rattle.message_types.specs.declared.asking.Change.{Change as ChangeOf}
use Rattle.message_types.specs.declared.giving.Give.{Give}
use Rattle.message_types.specs.declared.message.Body.TheVariants.{Down, GiveBack}
use Rattle.need_host.specs.Questions.{fileset_of}
use Rattle.run_rules.specs.Doings.{Doing, HasGoneDown, HeardNow, Here, IsApplied, TakenNow, decisions_of}
use Rattle.run_rules.specs.Doings.Doing.{WritesDown}
use Rattle.run_rules.specs.Kept.{filesets_after, takes_gifts}
use Rattle.run_rules.specs.Past.{In, appended}
use Rattle.run_rules.specs.Tokens.{number_of}
use Rattle.run_rules.specs.Wants.{CanDecide, CanGrant, CanRefuse, Decides, IsOld, IsQueued, NoneQueued, body_of}
use Rattle.run_rules.specs.Wants.{exporter, has_effect, is_use, locks_nothing, moves_fileset, needs_for, row_needs}
use Rattle.run_rules.specs.declared.applied.Applied.{Applied}
use Rattle.run_rules.specs.declared.applied.Applied.TheVariants.{Done, IsDown as GoesDown, Replied as EndsCall, Stored}
use Rattle.run_rules.specs.declared.applied.Applied.TheVariants.{Wants}
use Rattle.run_rules.specs.declared.applied.Request.{Request}
use Rattle.run_rules.specs.declared.applied.Request.TheVariants.{Change as Changes, Fetch as Asks}
use Rattle.run_rules.specs.declared.applied.Wanted.{Wanted}
use Rattle.run_rules.specs.declared.applied.Written.{Written}
use Rattle.run_rules.specs.declared.step.Step.{Step}

-- # What the cause of a step applies, and what the exporter keeps

-- whether it is a want, or a Change that is written down; the rest belongs to the cause
abbrev pub is_decision : Applied → Bool
is_decision (Wants wanted) = true
is_decision (Done written) = true
is_decision _ = false

-- what a step applies by its cause, which stands first, and what it decides then
abbrev pub by_cause : List Applied → List Applied
by_cause [] = []
by_cause (x ∷ xs) = if is_decision x then [] else x ∷ by_cause xs

abbrev pub decisions : List Applied → List Applied
decisions [] = []
decisions (x ∷ xs) = if is_decision x then x ∷ xs else decisions xs

-- the step takes a give-back of a fileset that is here, which is applied for the first time
abbrev pub FirstGiven : ServerId → List Doing → Step → HostId → Give → Type 0
FirstGiven server past s host give =
    ((n : ℕ) × TakenNow past s host n (GiveBack give) × Here server past give.fid.fileset n)
    × (IsApplied server past host (number_of give) → ⊥)

-- the host goes down with this step
abbrev pub FirstDown : List Doing → Step → HostId → Type 0
FirstDown past s host = HeardNow s host Down × (HasGoneDown past host → ⊥)

-- where the bytes of pieces lie
abbrev pub span_of : Piece → Span
span_of piece = span_between piece.from (piece.from + length piece.bytes)

-- What becomes kept of a give-back: its bytes and its length, where it has some, of a file that can keep them. A
-- length below the kept one changes nothing.
abbrev pub stored_of : Tree → HostId → Give → List Applied
stored_of tree host give =
    if takes_gifts tree give.fid && (nat_lt 0 (length give.pieces) || is_some give.length)
    then Stored host give.fid (map span_of give.pieces) give.length ∷ []
    else []

-- the call that a give-back ends
abbrev pub ended_by : HostId → Give → List Applied
ended_by host give = option_map_or
    (λ ends. EndsCall (record { host = host; k = ends.k; call = ends.call; reply = Fine; first = false }) ∷ [])
    give.ends []

-- the token was wanted by a Change that the step writes down
abbrev pub IsForWritten : List Doing → Step → Token → Type 0
IsForWritten past s t =
    (written : Written) × (w : Wanted) × In (Done written) s.applied × (IsQueued past w ⊎ In (Wants w) s.applied)
    × Decides (WritesDown written) w.host w.request × In (need_of t) w.needs

pub record ServerApplies (server : ServerId) (tree : Tree) (past : List Doing) (s : Step) : Type 0 where
  -- a give-back that is applied for the first time is stored, and then ends its call
  pub given : (h : HostId) (g : Give) → FirstGiven server past s h g
      → by_cause s.applied ≡ stored_of tree h g ++ ended_by h g
  -- a host that goes down is said to, once
  pub down : (h : HostId) → FirstDown past s h → by_cause s.applied ≡ GoesDown h ∷ []
  -- no other cause applies anything
  pub else_none : ((h : HostId) (g : Give) → FirstGiven server past s h g → ⊥) → ((h : HostId) → FirstDown past s h → ⊥)
      → by_cause s.applied ≡ []
  -- what is decided stands after that
  pub decided : list_all is_decision (decisions s.applied) ≡ true
  -- the exporter keeps tokens that were wanted by Changes which the step writes down
  pub reserves : (t : Token) → In t s.reserved → (t.host ≡ exporter) × IsForWritten past s t

-- # Wants and Changes. `tree` are the kept filesets at the moment

-- a request is about filesets themselves, or about one that is here in the stay that it is of
abbrev pub IsDecidedHere : ServerId → List Doing → FilesetId → ℕ → Type 0
IsDecidedHere server past fileset moves = ((fileset.0 ≡ 0) × (moves ≡ 0)) ⊎ Here server past fileset moves

-- A Change is meant so that it can be answered: one that enters a fileset names one, a lock or an open is numbered
-- under its file's fileset, and a lock is of one byte at least, since no token is of none.
abbrev pub IsMeantSo : ChangeOf → Type 0
IsMeantSo change = (change.enter ≡ true → is_some (fileset_of change.call) ≡ true)
    × (is_use change.call ≡ true → change.fid.fileset ≡ change.fileset)
    × (locks_nothing change.call ≡ false)

abbrev pub IsAskedHere : ServerId → List Doing → ℕ → Request → Type 0
IsAskedHere server past moves (Asks fetch) = Here server past fetch.fid.fileset moves
IsAskedHere server past moves (Changes change) = IsDecidedHere server past change.fileset moves × IsMeantSo change

-- The step takes a new request: its fileset is here, it isn't old, and none waits that can't wait beside it. `before`
-- are the doings before the step.
pub record IsNewRequest
    (server : ServerId) (before past : List Doing) (s : Step) (host : HostId) (moves : ℕ) (request : Request)
    : Type 0 where
  pub taken : TakenNow before s host moves (body_of request)
  pub here : IsAskedHere server before moves request
  pub fresh : IsOld past host request → ⊥
  pub alone : NoneQueued past host request

-- What the call table says on the kept filesets, with nothing locked or open. Those are the server's own alone: of a
-- place at another server it says that there is no such fileset.
abbrev pub kept_reply : Tree → HostId → Call → Reply
kept_reply tree host call = (answer_to tree host call).reply

-- whether a server can tell by itself that a move is refused so: not where the other server lacks room, of which it
-- keeps nothing
abbrev pub tells_alone : Refusal → Bool
tells_alone TooMany = false
tells_alone NoRoom = false
tells_alone _ = true

-- the call table refuses the Change on the kept filesets; one that enters a fileset, where that isn't there; a move, by
-- what the server can tell alone
abbrev pub RefusedOn : Tree → HostId → ChangeOf → Refusal → Type 0
RefusedOn tree host change refusal =
    (kept_reply tree host change.call ≡ Refused refusal) × (change.enter ≡ true → refusal ≡ NoFileset)
    × (moves_fileset change.call ≡ true → tells_alone refusal ≡ true)

abbrev pub NotRefused : Tree → HostId → ChangeOf → Type 0
NotRefused tree host change = (refusal : Refusal) → RefusedOn tree host change refusal → ⊥

-- what a lock or an open wants is on the file that its host found at its path
abbrev pub IsOnFound : List Need → ChangeOf → Type 0
IsOnFound needs change = is_use change.call ≡ true → (need : Need) → In need needs → need.fid ≡ change.fid

-- the want of a Change is still what its row of the call table gives, and its path names the file that the host found
abbrev pub IsOfRow : Tree → Wanted → ChangeOf → Type 0
IsOfRow tree w change = (w.needs ≡ row_needs tree w.host change) × IsOnFound w.needs change

-- what a want that meets a pinned token is refused with
abbrev pub refusal_of : Call → Refusal
refusal_of (Lock label place writing from len) = Locked
refusal_of (OpenFile label place kind) = OpenConflict
refusal_of _ = InUse

-- Why a Change that is written down has its reply.
pub data DecidedSo
    (server : ServerId) (tree : Tree) (past : List Doing) (w : Wanted) (c : ChangeOf) (reply : Reply) : Type 0 where
  -- the call table refuses it
  IsRefusedByTable : (refusal : Refusal) → RefusedOn tree w.host c refusal → reply ≡ Refused refusal
      → DecidedSo server tree past w c reply
  -- a token in its way is pinned
  MeetsPinned : NotRefused tree w.host c → IsOfRow tree w c → CanRefuse server past w
      → reply ≡ Refused (refusal_of c.call) → DecidedSo server tree past w c reply
  -- nothing is in its way, and it has its effect
  TakesEffect : has_effect c ≡ true → IsOfRow tree w c → CanGrant server past w
      → reply ≡ kept_reply tree w.host c.call → DecidedSo server tree past w c reply

-- The want is made anew: it could be decided, but its row gives another one now.
pub record IsAnew (server : ServerId) (tree : Tree) (past : List Doing) (old new : Wanted) : Type 0 where
  pub waits : IsQueued past old
  pub change : ChangeOf
  pub request : old.request ≡ Changes change
  pub same : record old { needs = new.needs } ≡ new
  pub effect : has_effect change ≡ true
  pub ready : CanDecide server past old
  pub accepted : NotRefused tree old.host change
  pub other : old.needs ≢ new.needs

-- The Change that is written down is one that waits, and its reply has a reason.
pub record IsWrittenSo (server : ServerId) (tree : Tree) (past : List Doing) (written : Written) : Type 0 where
  pub w : Wanted
  pub waits : IsQueued past w
  pub change : ChangeOf
  pub request : w.request ≡ Changes change
  pub host : written.answer.host ≡ w.host
  pub fileset : written.fileset ≡ change.fileset
  pub number : written.number ≡ change.number
  pub k : written.answer.k ≡ change.k
  pub call : written.answer.call ≡ change.call
  pub later : written.answer.first ≡ false
  pub so : DecidedSo server tree past w change written.answer.reply

-- one decision: a request makes its want, with what it needs now; or a Change is written down
abbrev pub MayDecide : ServerId → Tree → List Doing → List Doing → Step → Applied → Type 0
MayDecide server tree before past s (Wants w) = (w.needs ≡ needs_for tree w.host w.request)
    × (IsNewRequest server before past s w.host w.moves w.request ⊎ ((old : Wanted) × IsAnew server tree past old w))
MayDecide server tree before past s (Done written) = IsWrittenSo server tree past written
MayDecide server tree before past s _ = ⊥

-- all decisions of a step, one after the other
abbrev pub MayDecideAll : ServerId → Tree → List Doing → List Doing → Step → List Applied → Type 0
MayDecideAll server tree before past s [] = Unit {0}
MayDecideAll server tree before past s (x ∷ xs) = MayDecide server tree before past s x
    × MayDecideAll server (filesets_after s.cause tree x) before (appended (decisions_of x) past) s xs
