-- How the tables of a server's machine stand for what the server did. `past` are its doings.
use Rattle.std.specs.Prelude.{◌≡◌, ◌⊎◌, ℕ, ◌≤◌, ◌<◌, true, false, List, [], Some, is_some, map, length}
use Rattle.base_types.specs.declared.ids.Fid.{Fid}
use Rattle.base_types.specs.declared.ids.FilesetId.{FilesetId}
use Rattle.base_types.specs.declared.ids.HostId.{HostId}
use Rattle.base_types.specs.declared.ids.ServerId.{ServerId}
use Rattle.base_types.specs.declared.limits.TheConstants.{NEEDS_MAX}
use Rattle.message_types.specs.declared.asking.Change.{Change as ChangeOf}
use Rattle.message_types.specs.declared.giving.AppliedGive.{AppliedGive}
use Rattle.message_types.specs.declared.giving.Give.{Give}
use Rattle.message_types.specs.declared.giving.Reclaim.{Reclaim as ReclaimOf}
use Rattle.message_types.specs.declared.message.Body.{Body}
use Rattle.message_types.specs.declared.message.Body.TheVariants.{Done, GiveBack, Reclaim, Reclaimed}
use Rattle.message_types.specs.declared.telling.Done.{Done as DoneOf}
use Rattle.message_types.specs.declared.telling.DoneIs.TheVariants.{Granted as IsGranted, Reply as HasReply}
use Rattle.token_manager.specs.declared.grants.Grants.{Grants}
use Rattle.token_manager.specs.declared.want.Want.{Want as WantOf}
use Rattle.token_manager.specs.Managers.{can_decide}
use Rattle.token_table.specs.Marks.{is_pinned, is_revoked, note_at}
use Rattle.token_types.specs.Conflicts.{blocks}
use Rattle.token_types.specs.declared.token.Token.{Token}
use Rattle.token_types.specs.declared.token.TokenId.{TokenId}
use Rattle.run_rules.specs.Doings.{Doing, GivenUp, Granted, HasGoneAway, HasGoneDown, HasReclaimed, HasUsedStamp}
use Rattle.run_rules.specs.Doings.{IsApplied, IsDurable, IsLive, Issued, Listed, ListedNow, NoGrace, Pinned, Reserved}
use Rattle.run_rules.specs.Doings.{SentTo, StayStamp, TookNow, TookOf, epoch, slot_of}
use Rattle.run_rules.specs.Doings.Doing.{WritesDown}
use Rattle.run_rules.specs.Past.{In, Once}
use Rattle.run_rules.specs.ServerDecides.{IsAskedHere}
use Rattle.run_rules.specs.ServerMay.{HasRevoked, IsAskedBack}
use Rattle.run_rules.specs.ServerTokens.{HasTakenGives}
use Rattle.run_rules.specs.Tokens.{number_of}
use Rattle.run_rules.specs.Wants.{CanDecide, CannotBothWait, IsQueued, IsQueuedBefore, asker, body_of}
use Rattle.run_rules.specs.declared.applied.Request.TheVariants.{Change as Changes}
use Rattle.run_rules.specs.declared.applied.Wanted.{Wanted}
use Rattle.run_rules.specs.declared.applied.Written.{Written}
use Rattle.server_tables.specs.declared.recovering.Answered.{Answered}
use Rattle.server_tables.specs.declared.recovering.Claimed.{Claimed}
use Rattle.server_tables.specs.declared.tables.Tables.{Tables}
use Rattle.server_tables.specs.declared.recovering.GaveUp.{GaveUp}
use Rattle.server_tables.specs.declared.hosts.Hosts.{Hosts}
use Rattle.server_tables.specs.declared.tables.LastChange.{LastChange}
use Rattle.server_tables.specs.declared.tables.LastGive.{LastGive}
use Rattle.server_tables.specs.declared.pending.Pending.{Pending}

-- the list of hosts
pub record HostsStand (past : List Doing) (x : Hosts) : Type 0 where
  pub epoch_is : x.epoch ≡ epoch past
  -- nothing was sent in a later epoch
  pub sent_up_to : (h : HostId) (e n : ℕ) (b : Body) → SentTo past h e n b → e ≤ epoch past
  pub listed : (h : HostId) → In h x.listed → Listed past h
  pub listed_all : (h : HostId) → Listed past h → In h x.listed
  pub down : (h : HostId) → In h x.down → HasGoneDown past h
  pub down_all : (h : HostId) → HasGoneDown past h → In h x.down
  pub away : (h : HostId) → In h x.away → HasGoneAway past h
  pub away_all : (h : HostId) → HasGoneAway past h → In h x.away
  pub now : (h : HostId) → In h x.listed_now → ListedNow past h
  pub now_all : (h : HostId) → ListedNow past h → In h x.listed_now
  pub reclaimed : (h : HostId) → In h x.reclaimed → HasReclaimed past h
  pub reclaimed_all : (h : HostId) → HasReclaimed past h → In h x.reclaimed

abbrev pub tokens_of : Grants → List Token
tokens_of grants = grants.table.tokens

-- The granted tokens. Each act is applied in the step that decides it, so the exporter keeps none of its own.
pub record TokensStand (past : List Doing) (server : ServerId) (grants : Grants) : Type 0 where
  pub server_is : grants.table.server ≡ server
  pub epoch_is : grants.table.epoch ≡ epoch past
  pub granted : (t : Token) → In t (tokens_of grants) → Granted server past t
  pub granted_all : (t : Token) → Granted server past t → In t (tokens_of grants)
  pub pinned : (t : Token) → In t (tokens_of grants) → is_pinned grants.notes t.id ≡ true → Pinned server past t
  pub pinned_all : (t : Token) → Pinned server past t → is_pinned grants.notes t.id ≡ true
  pub here : (t : Token) → Granted server past t → HasGoneAway past t.host → ⊥
  pub live : (t : Token) → Granted server past t → IsLive past t.host
  pub known : (t : Token) → In t (tokens_of grants) → is_some (note_at grants.notes t.id) ≡ true
  pub issued : (t : Token) (k : StayStamp) → Issued past t k → t.id.epoch ≡ epoch past → t.id.seq ≤ grants.table.last
  -- none was issued in a later epoch
  pub issued_up_to : (t : Token) (k : StayStamp) → Issued past t k → t.id.epoch ≤ epoch past
  pub noted : (i : TokenId) → is_some (note_at grants.notes i) ≡ true
      → (t : Token) × In t (tokens_of grants) × (t.id ≡ i)
  pub old : (t : Token) → In t (tokens_of grants) → t.id.epoch ≡ epoch past → t.id.seq ≤ grants.table.last
  pub none_reserved : (t : Token) → Reserved past t → ⊥
  -- a number that was issued in this epoch is of that token alone
  pub one : (t u : Token) (k : StayStamp) → Issued past t k → t.id.epoch ≡ epoch past → Granted server past u
      → u.id ≡ t.id → u ≡ t

-- what was told and asked back
pub record StampsStand (past : List Doing) (grants : Grants) (stamp : ℕ) : Type 0 where
  pub told : (f : Fid) (x : ℕ) → HasUsedStamp past f x → x ≤ stamp
  pub revoked : (t : Token) → In t (tokens_of grants) → is_revoked grants.notes t.id ≡ true → HasRevoked past t
  pub revoked_all : (t : Token) → In t (tokens_of grants) → HasRevoked past t → is_revoked grants.notes t.id ≡ true
  -- what was asked back was granted in this epoch
  pub revoked_old : (t : Token) → HasRevoked past t → t.id.epoch ≡ epoch past → t.id.seq ≤ grants.table.last
  pub revoked_live : (t : Token) → HasRevoked past t → HasReclaimed past t.host

abbrev pub want_for : Pending → WantOf
want_for p = record { number = p.number; host = asker p.wanted; needs = p.wanted.needs }

-- the wants that wait, in the order in which they were made
pub record WantsStand (past : List Doing) (server : ServerId) (next : ℕ) (pendings : List Pending) : Type 0 where
  pub pending : (p : Pending) → In p pendings → IsQueued past p.wanted
  pub pending_all : (w : Wanted) → IsQueued past w → (p : Pending) × In p pendings × (p.wanted ≡ w)
  pub order : (p q : Pending) → In p pendings → In q pendings → p.number < q.number
      → IsQueuedBefore past p.wanted q.wanted
  pub order_all : (p q : Pending) → In p pendings → In q pendings → IsQueuedBefore past p.wanted q.wanted
      → p.number < q.number
  -- it is of a live host, was taken in this epoch, and is of a stay that is here
  pub live : (w : Wanted) → IsQueued past w → IsLive past w.host
  pub took : (w : Wanted) → IsQueued past w → TookNow past w.host w.moves (body_of w.request)
  pub here : (w : Wanted) → IsQueued past w → IsAskedHere server past w.moves w.request
  -- of a host and a number one waits
  pub once : (w v : Wanted) → IsQueued past w → IsQueued past v → w.host ≡ v.host
      → CannotBothWait w.request v.request → w ≡ v
  pub few : (p : Pending) → In p pendings → length p.wanted.needs ≤ NEEDS_MAX
  pub below : (p : Pending) → In p pendings → p.number < next

-- In a grace period the manager is asked nothing: the wants are asked in their order when it ends.
pub record QueueStands (past : List Doing) (queue : List WantOf) (pendings : List Pending) : Type 0 where
  pub calm : NoGrace past → queue ≡ map want_for pendings
  pub grace : (NoGrace past → ⊥) → queue ≡ []

-- the give-backs that were taken
pub record GivesStand (past : List Doing) (server : ServerId) (gives : List LastGive) : Type 0 where
  pub applied : (g : LastGive) → In g gives → IsApplied server past g.host g.give
  pub applied_all : (h : HostId) (n : AppliedGive) → IsApplied server past h n
      → (g : LastGive) × In g gives × (g.host ≡ h) × (g.give.fileset ≡ n.fileset) × (n.number ≤ g.give.number)

-- a Change was written down, with this in the host's answer
abbrev pub WroteThis : List Doing → Written → Type 0
WroteThis past written = Once (λ before a. a ≡ WritesDown written) past

-- what was answered last: no Change of a higher number of the host and the fileset was answered or written down
pub record IsLastChange (past : List Doing) (last : LastChange) : Type 0 where
  pub n : ℕ
  pub sent : SentTo past last.host last.epoch n (Done last.done)
  pub home : n ≡ 0
  pub of : last.done.fileset ≡ last.fileset
  pub top : (e k : ℕ) (d : DoneOf) → SentTo past last.host e k (Done d) → d.fileset ≡ last.fileset
      → d.bring.number ≤ last.done.bring.number
  -- where one was answered in this epoch, it was answered in it too, or was written down
  pub newest : (k : ℕ) (d : DoneOf) → SentTo past last.host (epoch past) k (Done d) → d.fileset ≡ last.fileset
      → (last.epoch ≡ epoch past)
      ⊎ ((w : Written) × (last.written ≡ Some w) × (last.done.bring.number ≤ w.number))
  pub wrote : (w : Written) → last.written ≡ Some w
      → WroteThis past w × (w.answer.host ≡ last.host) × (w.fileset ≡ last.fileset)
  pub wrote_all : (w : Written) → WroteThis past w → w.answer.host ≡ last.host → w.fileset ≡ last.fileset
      → (v : Written) × (last.written ≡ Some v) × (w.number ≤ v.number)
  -- one that was written down was answered with its reply, where no later one was answered
  pub reply : (w : Written) → last.written ≡ Some w → (w.number < last.done.bring.number)
      ⊎ ((w.number ≡ last.done.bring.number) × (last.done.outcome ≡ HasReply w.answer.reply)
      × (last.done.bring.tokens ≡ []) × (last.done.bring.stamp ≡ 0))
  -- one that brings a token says that a use is granted, and brings no other
  pub brings : (t : Token) → In t last.done.bring.tokens → (last.done.outcome ≡ IsGranted)
      × (t.id.epoch ≡ last.epoch)
      × ((u : Token) → In u last.done.bring.tokens → u ≡ t)

-- The Changes that were answered. A Change that waits is above the last one that was written down, and not below the
-- last one that was answered: an older one is dropped.
pub record ChangesStand (past : List Doing) (changes : List LastChange) : Type 0 where
  pub last : (c : LastChange) → In c changes → IsLastChange past c
  pub last_all : (h : HostId) (e n : ℕ) (d : DoneOf) → SentTo past h e n (Done d)
      → (c : LastChange) × In c changes × (c.host ≡ h) × (c.fileset ≡ d.fileset)
  pub answered : (w : Written) → WroteThis past w → (c : LastChange) × In c changes × (c.host ≡ w.answer.host)
      × (c.fileset ≡ w.fileset)
  pub fresh : (w : Wanted) (c : ChangeOf) → IsQueued past w → w.request ≡ Changes c
      → IsDurable past w.host c.fileset c.number → ⊥
  pub above : (w : Wanted) (c : ChangeOf) (e n : ℕ) (d : DoneOf) → IsQueued past w → w.request ≡ Changes c
      → SentTo past w.host e n (Done d) → d.fileset ≡ c.fileset → d.bring.number ≤ c.number

-- what claims are judged by
pub record RecoveryStands (past : List Doing) (server : ServerId) (claims : List Claimed) (takens : List LastGive)
    (ups : List GaveUp) : Type 0 where
  pub claim : (h : HostId) (n : ℕ) (claim : ReclaimOf) → TookNow past h n (Reclaim claim)
      → (HasReclaimed past h → ⊥) → IsLive past h → In (record { host = h; claim = claim }) claims
  pub claimed : (c : Claimed) → In c claims → (n : ℕ) × TookNow past c.host n (Reclaim c.claim)
  pub taken : (h : HostId) (g : Give) → TookOf server past h g.fid.fileset (GiveBack g) → (HasReclaimed past h → ⊥)
      → (HasGoneAway past h → ⊥) → In (record { host = h; give = number_of g }) takens
  pub taken_only : (l : LastGive) → In l takens
      → (g : Give) × TookOf server past l.host g.fid.fileset (GiveBack g) × (number_of g ≡ l.give)
  pub given_up : (h : HostId) (i : TokenId) → GivenUp server past h i → (HasReclaimed past h → ⊥)
      → (HasGoneAway past h → ⊥) → In (record { host = h; id = i }) ups
  pub given_up_only : (l : GaveUp) → In l ups → GivenUp server past l.host l.id

-- What was answered to those that have reclaimed. It stands at the end of each step: a claim is admitted before it is
-- answered.
pub record AnsweredStand (past : List Doing) (answers : List Answered) : Type 0 where
  pub answers_all : (h : HostId) → HasReclaimed past h → (a : Answered) × In a answers × (a.host ≡ h)
  pub answered : (a : Answered) → In a answers → (n : ℕ) × SentTo past a.host (epoch past) n (Reclaimed a.answer)

-- the tables stand for these doings
pub record Stands (past : List Doing) (x : Tables) : Type 0 where
  -- no fileset has moved
  pub slots : (f : FilesetId) → slot_of x.server past f ≡ slot_of x.server [] f
  pub hosts : HostsStand past x.hosts
  pub tokens : TokensStand past x.server x.tokens.grants
  pub stamps : StampsStand past x.tokens.grants x.stamp
  pub wants : WantsStand past x.server x.next x.pending
  pub queue : QueueStands past x.tokens.queue x.pending
  pub gives : GivesStand past x.server x.gives
  pub changes : ChangesStand past x.changes
  pub recovery : RecoveryStands past x.server x.recovering.claims x.recovering.taken x.recovering.given_up

-- So it is when a call begins: no want that waits could be decided, what is wanted is asked back, and no claim that
-- waits could be admitted.
pub record IsSettled (server : ServerId) (past : List Doing) : Type 0 where
  pub rested : (w : Wanted) → IsQueued past w → CanDecide server past w → ⊥
  pub asked : (t : Token) → IsAskedBack server past t → HasRevoked past t
  pub claims : (h : HostId) (n : ℕ) (claim : ReclaimOf) → TookNow past h n (Reclaim claim)
      → (HasReclaimed past h → ⊥) → IsLive past h → HasTakenGives server past h claim → ⊥

-- the same of the tables, out of a grace period
pub record IsCalm (grants : Grants) (queue : List WantOf) : Type 0 where
  pub none_ready : (w : WantOf) → In w queue → can_decide grants queue w ≡ false
  pub asked_back : (w : WantOf) (t : Token) → In w queue → In t (tokens_of grants) → blocks w.host w.needs t ≡ true
      → is_pinned grants.notes t.id ≡ false → is_revoked grants.notes t.id ≡ true
