-- What a server may send, and all that it may do. All safety rests on it. `past` is its doings so far.
use Rattle.std.specs.Prelude.{IsTrue, List, None, Ok, Some, [], map, true, ℕ, ◌≡◌, ◌≤◌, ◌⊎◌}
use Rattle.base_types.specs.declared.ids.HostId.{HostId}
use Rattle.base_types.specs.declared.ids.ServerId.{ServerId}
use Rattle.tree_answers.specs.Finding.{fileset_named}
use Rattle.tree_answers.specs.declared.tree.Tree.{Tree}
use Rattle.tree_filesets.specs.declared.fileset.Fileset.{Fileset}
use Rattle.tree_laws.specs.Parts.{Part, cell_at}
use Rattle.tree_laws.specs.Parts.Part.{Traits}
use Rattle.token_types.specs.Conflicts.{need_of}
use Rattle.token_types.specs.declared.token.Need.{Need}
use Rattle.token_types.specs.declared.token.Token.{Token}
use Rattle.token_types.specs.declared.token.TokenId.{TokenId}
use Rattle.script_lines.specs.declared.script.Script.{Script}
use Rattle.message_types.specs.declared.asking.Change.{Change as ChangeOf}
use Rattle.message_types.specs.declared.asking.Fetch.{Fetch as FetchOf}
use Rattle.message_types.specs.declared.giving.Reclaim.{Reclaim as ReclaimOf}
use Rattle.message_types.specs.declared.giving.Reclaimed.{Reclaimed as ReclaimedOf}
use Rattle.message_types.specs.declared.message.Body.TheVariants.{Bye, Done, Grant, Hello, Reclaim, Reclaimed, Revoke}
use Rattle.message_types.specs.declared.telling.Done.{Done as DoneOf}
use Rattle.message_types.specs.declared.telling.DoneIs.TheVariants.{Again, Granted as IsGranted, Known}
use Rattle.message_types.specs.declared.telling.DoneIs.TheVariants.{Reply as HasReply}
use Rattle.message_types.specs.declared.telling.Grant.{Grant as GrantOf}
use Rattle.message_types.specs.declared.tokens.Revoke.{Revoke as RevokeOf}
use Rattle.need_host.specs.Questions.{fileset_of}
use Rattle.need_host.specs.Shows.{shows}
use Rattle.run_rules.specs.Doings.{Doing, Granted, HasGoneDown, HasReclaimed, HeardNow, InEpoch, IsLive}
use Rattle.run_rules.specs.Doings.{ListedNow, NoGrace, Pinned, SentNow, SentTo, TakenNow}
use Rattle.run_rules.specs.Doings.{after_admitting, after_cause, epoch, sending}
use Rattle.run_rules.specs.Doings.Doing.{Sent, WritesDown}
use Rattle.run_rules.specs.Kept.{filesets_kept, filesets_through}
use Rattle.run_rules.specs.Past.{EachInTurn, In, Once}
use Rattle.run_rules.specs.ServerDecides.{IsDecidedHere, IsOfRow, MayDecideAll, NotRefused, ServerApplies, by_cause}
use Rattle.run_rules.specs.ServerDecides.{decisions}
use Rattle.run_rules.specs.ServerTokens.{ServerStep}
use Rattle.run_rules.specs.Views.{part_told}
use Rattle.run_rules.specs.Wants.{CanDecide, CanGrant, IsInWay, IsQueued, is_use}
use Rattle.run_rules.specs.declared.applied.Admission.{Admission}
use Rattle.run_rules.specs.declared.applied.Request.TheVariants.{Change as Changes, Fetch as Asks}
use Rattle.run_rules.specs.declared.applied.Wanted.{Wanted}
use Rattle.run_rules.specs.declared.applied.Written.{Written}
use Rattle.run_rules.specs.declared.step.Cause.TheVariants.{End, Evict, Lapse}
use Rattle.run_rules.specs.declared.step.Step.{Step}

-- What a server says only where it was asked.
pub record OnlyAnswers (past : List Doing) (s : Step) : Type 0 where
  -- a Bye answers a Bye of a host that isn't down; where the host is live, one with which it goes away
  pub bye_only : (h : HostId) → SentNow s h Bye → HeardNow s h Bye × (HasGoneDown past h → ⊥)
      × (IsLive past h → (n : ℕ) × TakenNow past s h n Bye)
  -- a Reclaimed answers the Hello of a host that isn't down, and that isn't live since an older epoch: such a host has
  -- to claim first; or it answers a claim that the step admits, or one of a host that has reclaimed in this epoch
  pub reclaimed_only : (h : HostId) (answer : ReclaimedOf) → SentNow s h (Reclaimed answer)
      → (HeardNow s h Hello × (HasGoneDown past h → ⊥) × ((IsLive past h → ⊥) ⊎ ListedNow past h))
      ⊎ (((c : Admission) × In c s.admitted × (c.host ≡ h))
      ⊎ ((n : ℕ) × (claim : ReclaimOf) × TakenNow past s h n (Reclaim claim) × HasReclaimed past h))

-- # What is sent of what is decided. `tree` are the kept filesets once the step has decided

-- the tokens that an answer brings are what was needed: one for each need, in order
abbrev pub AreNeeds : List Need → List Token → Type 0
AreNeeds needs tokens = map need_of tokens ≡ needs

-- the object that a Grant is of is there
abbrev pub IsThere : Tree → GrantOf → Type 0
IsThere tree g = (cell_at tree g.bring.fid Traits).kept ≡ None → ⊥

-- a Grant of an object that isn't there brings and tells nothing
pub record IsEmptyGrant (g : GrantOf) : Type 0 where
  pub tokens : g.bring.tokens ≡ []
  pub status : g.status ≡ None
  pub pieces : g.pieces ≡ []
  pub entries : g.entries ≡ []

-- it tells what is kept of each part that a token which it brings shows
abbrev pub TellsKept : Tree → GrantOf → Type 0
TellsKept tree g = (t : Token) (part : Part) → In t g.bring.tokens → IsTrue (shows t.kind part)
    → part_told g part ≡ (cell_at tree g.bring.fid part).kept

-- A Grant answers a Fetch that waits and can be granted.
pub record GrantsSo (server : ServerId) (tree : Tree) (past : List Doing) (h : HostId) (n : ℕ) (g : GrantOf)
    : Type 0 where
  pub w : Wanted
  pub waits : IsQueued past w
  pub fetch : FetchOf
  pub request : w.request ≡ Asks fetch
  pub host : w.host ≡ h
  pub moves : w.moves ≡ n
  pub number : g.bring.number ≡ fetch.number
  pub fid : g.bring.fid ≡ fetch.fid
  pub free : CanGrant server past w
  pub brings : (IsThere tree g × AreNeeds fetch.needs g.bring.tokens) ⊎ ((IsThere tree g → ⊥) × IsEmptyGrant g)
  pub tells : TellsKept tree g

-- What a Done says of a Change that isn't written down.
pub data AnsweredSo
    (server : ServerId) (tree : Tree) (past : List Doing) (w : Wanted) (c : ChangeOf) (d : DoneOf) : Type 0 where
  -- the token of the host's lock or open call is granted
  TakesToken : is_use c.call ≡ true → NotRefused tree w.host c → IsOfRow tree w c → CanGrant server past w
      → d.outcome ≡ IsGranted → AreNeeds w.needs d.bring.tokens → AnsweredSo server tree past w c d
  -- its path names another file than the host resolved
  NamesOther : is_use c.call ≡ true → NotRefused tree w.host c → (IsOfRow tree w c → ⊥) → CanDecide server past w
      → d.outcome ≡ Again → d.bring.tokens ≡ [] → AnsweredSo server tree past w c d
  -- the fileset that it enters has this number
  IsEntered : (fileset : Fileset) (place : ServerId × List ℕ) → c.enter ≡ true → fileset_of c.call ≡ Some place
      → fileset_named tree place.0 place.1 ≡ Ok fileset → d.outcome ≡ Known fileset.id → d.bring.tokens ≡ []
      → AnsweredSo server tree past w c d

-- A Done answers a Change that waits.
pub record AnswersSo (server : ServerId) (tree : Tree) (past : List Doing) (h : HostId) (n : ℕ) (d : DoneOf)
    : Type 0 where
  pub w : Wanted
  pub waits : IsQueued past w
  pub change : ChangeOf
  pub request : w.request ≡ Changes change
  pub host : w.host ≡ h
  pub moves : w.moves ≡ n
  pub fileset : d.fileset ≡ change.fileset
  pub number : d.bring.number ≡ change.number
  pub so : AnsweredSo server tree past w change d

-- an earlier doing wrote the host's Change of this Done down, with its reply
abbrev pub HasWritten : List Doing → HostId → DoneOf → Type 0
HasWritten past h d =
    Once (λ before a. (w : Written) × (a ≡ WritesDown w) × (w.answer.host ≡ h) × (w.fileset ≡ d.fileset)
    × (w.number ≡ d.bring.number) × (d.outcome ≡ HasReply w.answer.reply)) past

-- no Change of a higher number of the host and the fileset was answered
abbrev pub IsLast : List Doing → HostId → DoneOf → Type 0
IsLast past h d = (e n : ℕ) (other : DoneOf) → SentTo past h e n (Done other) → other.fileset ≡ d.fileset
    → other.bring.number ≤ d.bring.number

-- Again is said in place of an earlier Granted of this epoch whose token isn't granted any more
abbrev pub WasGranted : ServerId → List Doing → HostId → DoneOf → Type 0
WasGranted server past h d =
    (old : DoneOf) × (n : ℕ) × SentTo past h (epoch past) n (Done old) × (old.outcome ≡ IsGranted)
    × (old.fileset ≡ d.fileset) × (old.bring.number ≡ d.bring.number)
    × ((t : Token) → In t old.bring.tokens → Granted server past t → ⊥)

-- Why a Done is sent: it has the reply of a Change that was written down; or it answers one that isn't; or it
-- repeats what was said in this epoch. A Change whose number is below the last one that was answered gets none.
pub data DoneFor (server : ServerId) (tree : Tree) (past : List Doing) (h : HostId) (n : ℕ) (d : DoneOf) : Type 0 where
  OfWritten : HasWritten past h d → d.bring.tokens ≡ [] → IsLast past h d → DoneFor server tree past h n d
  Answered : AnswersSo server tree past h n d → DoneFor server tree past h n d
  Repeated : SentTo past h (epoch past) n (Done d) → IsLast past h d → DoneFor server tree past h n d
  TakenBack : WasGranted server past h d → IsLast past h d → d.outcome ≡ Again → d.bring.tokens ≡ []
      → DoneFor server tree past h n d

-- a Revoke of this epoch named the token
abbrev pub HasRevoked : List Doing → Token → Type 0
HasRevoked past t =
    InEpoch (λ before a. (e n : ℕ) × (r : RevokeOf) × (a ≡ Sent t.host e n (Revoke r)) × In t.id r.ids) past

-- a granted token that isn't pinned is in the way of a want that waits, and the grace period is over
pub record IsAskedBack (server : ServerId) (past : List Doing) (t : Token) : Type 0 where
  pub over : NoGrace past
  pub granted : Granted server past t
  pub unpinned : Pinned server past t → ⊥
  pub w : Wanted
  pub waits : IsQueued past w
  pub blocks_it : IsInWay w t

-- It was asked back, and its host hasn't answered that for good: it is granted still, and isn't pinned, whether a want
-- is in its way or not.
pub record IsOwed (server : ServerId) (past : List Doing) (t : Token) : Type 0 where
  pub granted : Granted server past t
  pub unpinned : Pinned server past t → ⊥
  pub revoked : HasRevoked past t

-- For what a server sends what it sends next. What it may do with tokens by it is said by `ServerTokens`.
pub record MaySend (server : ServerId) (tree : Tree) (s : Step) (past : List Doing) (a : Doing) : Type 0 where
  -- a Grant is for a Fetch that waits
  pub grant_for : (h : HostId) (e n : ℕ) (g : GrantOf) → a ≡ Sent h e n (Grant g) → GrantsSo server tree past h n g
  -- a Done is for a Change that waits, or was decided
  pub done_for : (h : HostId) (e n : ℕ) (d : DoneOf) → a ≡ Sent h e n (Done d)
      → IsLive past h × IsDecidedHere server past d.fileset n × DoneFor server tree past h n d
  -- a token is asked back once, while it is in the way of a want; and again at each lapse while it is owed
  pub revoke_for : (h : HostId) (e n : ℕ) (r : RevokeOf) (i : TokenId) → a ≡ Sent h e n (Revoke r) → In i r.ids
      → (t : Token) × (t.id ≡ i) × (t.host ≡ h)
      × ((IsAskedBack server past t × (HasRevoked past t → ⊥)) ⊎ ((s.cause ≡ Lapse) × IsOwed server past t))

-- # All that a server may do, on a step and its own earlier steps

-- A server makes no host's steps.
pub record NoHostStep (s : Step) : Type 0 where
  pub causes : (s.cause ≡ Evict → ⊥) × (s.cause ≡ End → ⊥)
  pub does_none :
      (s.asked ≡ None) × (s.taken ≡ []) × (s.answers ≡ []) × (s.wrote ≡ None) × (s.begun ≡ []) × (s.made ≡ [])
      × (s.dropped ≡ [])

-- what the step applies, decides and sends, on the kept filesets before it
pub record ServerWorks (server : ServerId) (tree : Tree) (past : List Doing) (s : Step) : Type 0 where
  pub applies : ServerApplies server tree past s
  pub decides : MayDecideAll server (filesets_through s.cause (by_cause s.applied) tree) past
      (after_cause s.cause past) s
      (decisions s.applied)
  pub sends : EachInTurn (MaySend server (filesets_through s.cause s.applied tree) s) (sending s.sent)
      (after_admitting s past)

-- What a server may do: on this the laws of runs rest. `steps` are its own earlier steps, `past` its doings in them.
pub record ServerMay
    (script : Script) (start : Tree) (server : ServerId) (steps : List Step) (past : List Doing) (s : Step) : Type 0
  where
    pub tokens : ServerStep server past s
    pub no_host : NoHostStep s
    pub answers : OnlyAnswers past s
    pub works : ServerWorks server (filesets_kept start server steps) past s
