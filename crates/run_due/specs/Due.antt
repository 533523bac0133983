-- A step that says nothing is refused where something is due.
use Rattle.std.specs.Prelude.{◌≡◌, ◌≢◌, ℕ, List, [], ◌∷◌}
use Rattle.base_types.specs.declared.ids.Fid.{Fid}
use Rattle.base_types.specs.declared.ids.HostId.{HostId}
use Rattle.base_types.specs.declared.ids.ServerId.{ServerId}
use Rattle.tree_calls.specs.declared.call.Call.{Call}
use Rattle.token_types.specs.declared.token.Token.{Token}
use Rattle.token_types.specs.declared.token.TokenId.{TokenId}
use Rattle.message_types.specs.declared.message.Body.{Body}
use Rattle.message_types.specs.declared.message.Body.TheVariants.{
  Hello,
  Change,
  Done,
  Revoke,
  GiveBack,
  Reclaim,
  Reclaimed,
  Down,
  Bye,
}
use Rattle.message_types.specs.declared.message.Message.{Message}
use Rattle.message_types.specs.declared.tokens.Revoke.{Revoke as RevokeOf}
use Rattle.message_types.specs.declared.giving.Give.{Give}
use Rattle.message_types.specs.declared.giving.Reclaim.{Reclaim as ReclaimOf}
use Rattle.message_types.specs.declared.giving.Reclaimed.{Reclaimed as ReclaimedOf}
use Rattle.message_types.specs.declared.asking.Change.{Change as ChangeOf}
use Rattle.message_types.specs.declared.telling.Done.{Done as DoneOf}
use Rattle.message_types.specs.declared.asking.Fetch.{Fetch as FetchOf}
use Rattle.run_rules.specs.declared.applied.Written.{Written}
use Rattle.run_rules.specs.Doings.{Doing, HasGoneDown, HasReclaimed, HeardNow, Here, IsLive, SentTo, TakenNow}
use Rattle.run_rules.specs.Doings.{after_step, epoch}
use Rattle.run_rules.specs.HostDue.{AnswersOf, HasDirty, IsNoGiveBack, IsUnanswered}
use Rattle.run_rules.specs.HostMay.{AwaitsReclaimed, LearnsRestart}
use Rattle.run_rules.specs.Messages.{About, Comes}
use Rattle.run_rules.specs.Past.{In}
use Rattle.run_rules.specs.ServerDecides.{IsDecidedHere}
use Rattle.run_rules.specs.ServerMay.{IsLast, IsOwed}
use Rattle.run_rules.specs.Tokens.{BeginsCall, Held, HoldsId, IsKnown, IsOutstanding, Made, TokenInUse}
use Rattle.run_rules.specs.Wants.{CanGrant, IsQueued}
use Rattle.run_rules.specs.declared.applied.Applied.TheVariants.{Done as IsDone}
use Rattle.run_rules.specs.declared.applied.Request.TheVariants.{Fetch as Asks}
use Rattle.run_rules.specs.declared.step.Cause.TheVariants.{Message as Came, Restart, Lapse, End}
use Rattle.run_rules.specs.declared.step.Step.{Step}
use Rattle.run_due.specs.Dutiful.{Silent, SilentAt}
use Rattle.run_rules.specs.declared.applied.Wanted.{Wanted}

-- A host is asked for a token that isn't in use, that nothing is dirty under, and that is in no give-back on its way.
pub record AskedForIdle (past : List Step) (s : Step) : Type 0 where
  pub r : RevokeOf
  pub i : TokenId
  pub fid : Fid
  pub about : About past s r.fid.fileset (Revoke r)
  pub named : In i r.ids
  pub answers : AnswersOf past r i fid
  pub unused : TokenInUse past i → ⊥
  pub clean : (t : Token) → Held past t → t.id ≡ i → HasDirty past s t → ⊥
  pub known : (g : Give) → Made past g → In i g.ids → IsKnown past g

-- or for one that is in use
pub record AskedForUsed (past : List Step) (s : Step) : Type 0 where
  pub r : RevokeOf
  pub i : TokenId
  pub about : About past s r.fid.fileset (Revoke r)
  pub named : In i r.ids
  pub held : HoldsId past i
  pub used : TokenInUse past i

-- or for one in a give-back that is outstanding
pub record AskedForGiven (past : List Step) (s : Step) : Type 0 where
  pub r : RevokeOf
  pub i : TokenId
  pub g : Give
  pub about : About past s r.fid.fileset (Revoke r)
  pub named : In i r.ids
  pub outstanding : IsOutstanding past g
  pub given : In i g.ids

-- A lapse comes, or the answer to a claim, while something is outstanding; or a server has restarted.
pub record LapsesOwing (past : List Step) (s : Step) : Type 0 where
  pub v : ServerId
  pub n : ℕ
  pub b : Body
  pub lapse : s.cause ≡ Lapse
  pub owed : IsUnanswered past v n b

pub record ReclaimedOwing (past : List Step) (s : Step) : Type 0 where
  pub v : ServerId
  pub n : ℕ
  pub b : Body
  pub answer : ReclaimedOf
  pub comes : Comes past s v (Reclaimed answer)
  pub other : IsNoGiveBack b
  pub owed : IsUnanswered past v n b
  pub owing : IsUnanswered (s ∷ past) v n b

-- it ends, and neither begins a call nor drops anything
pub record EndsIdly (past : List Step) (s : Step) : Type 0 where
  pub ends : s.cause ≡ End
  pub begins : (k : ℕ) (call : Call) → BeginsCall s k call → ⊥
  pub drops : s.dropped ≡ []

-- a claim waits for its answer at a lapse; a server that was greeted has restarted
abbrev pub LapsesClaimed : List Step → Step → Type 0
LapsesClaimed past s = (v : ServerId) × (s.cause ≡ Lapse) × AwaitsReclaimed past v

abbrev pub HearsRestart : List Step → Step → Type 0
HearsRestart past s = (v : ServerId) × LearnsRestart past s v

pub record HostsSpeak : Type 0 where
  pub idle : Silent AskedForIdle
  pub used : Silent AskedForUsed
  pub given : Silent AskedForGiven
  pub lapse : Silent LapsesOwing
  pub claim : Silent LapsesClaimed
  pub restarted : Silent HearsRestart
  pub reclaimed : Silent ReclaimedOwing
  pub ends : Silent EndsIdly

-- a host's Change comes again, the last of its fileset that was answered, which was answered in this epoch
pub record ComesAgain (v : ServerId) (past : List Doing) (s : Step) : Type 0 where
  pub h : HostId
  pub n : ℕ
  pub c : ChangeOf
  pub d : DoneOf
  pub m : ℕ
  pub taken : TakenNow past s h n (Change c)
  pub here : IsDecidedHere v past c.fileset n
  pub fileset : d.fileset ≡ c.fileset
  pub number : d.bring.number ≡ c.number
  pub last : IsLast past h d
  pub answered : SentTo past h (epoch past) m (Done d)

-- a host that isn't down says Hello, or a live one of the epoch Bye
abbrev pub HearsHello : ServerId → List Doing → Step → Type 0
HearsHello v past s = (h : HostId) × HeardNow s h Hello × (HasGoneDown past h → ⊥)

abbrev pub HearsBye : ServerId → List Doing → Step → Type 0
HearsBye v past s = (h : HostId) × (n : ℕ) × TakenNow past s h n Bye × (HasGoneDown past h → ⊥)

-- a live host speaks in another epoch
abbrev pub HearsLate : ServerId → List Doing → Step → Type 0
HearsLate v past s = (h : HostId) × (m : Message) × (s.cause ≡ Came m) × (m.host ≡ h) × IsLive past h
    × (m.epoch ≢ epoch past) × (m.body ≢ Hello) × (m.body ≢ Down)

-- the server restarts, or a lapse comes, with a live host, which hasn't reclaimed
abbrev pub RestartsKnown : ServerId → List Doing → Step → Type 0
RestartsKnown v past s = (h : HostId) × (line : ℕ) × (s.cause ≡ Restart line) × IsLive past h

abbrev pub LapsesKnown : ServerId → List Doing → Step → Type 0
LapsesKnown v past s = (h : HostId) × (s.cause ≡ Lapse) × IsLive past h × (HasReclaimed past h → ⊥)

-- a give-back is taken
abbrev pub TakesGive : ServerId → List Doing → Step → Type 0
TakesGive v past s = (h : HostId) × (n : ℕ) × (g : Give) × TakenNow past s h n (GiveBack g)
    × Here v past g.fid.fileset n

-- a Change is written down
abbrev pub WritesDown : ServerId → List Doing → Step → Type 0
WritesDown v past s = (w : Written) × In (IsDone w) s.applied

-- a Fetch waits, and can be granted
abbrev pub FetchWaits : ServerId → List Doing → Step → Type 0
FetchWaits v past s = (w : Wanted) × (f : FetchOf) × IsQueued (after_step s past) w × (w.request ≡ Asks f)
    × CanGrant v (after_step s past) w

-- a token that was asked back is owed still, at a lapse
abbrev pub LapsesOwed : ServerId → List Doing → Step → Type 0
LapsesOwed v past s = (t : Token) × (s.cause ≡ Lapse) × IsOwed v (after_step s past) t

-- a claim comes again
abbrev pub ClaimsAgain : ServerId → List Doing → Step → Type 0
ClaimsAgain v past s = (h : HostId) × (n : ℕ) × (claim : ReclaimOf) × TakenNow past s h n (Reclaim claim)
    × HasReclaimed past h

pub record ServersSpeak : Type 0 where
  pub hello : SilentAt HearsHello
  pub bye : SilentAt HearsBye
  pub late : SilentAt HearsLate
  pub restart : SilentAt RestartsKnown
  pub lapse : SilentAt LapsesKnown
  pub give : SilentAt TakesGive
  pub written : SilentAt WritesDown
  pub again : SilentAt ComesAgain
  pub fetch : SilentAt FetchWaits
  pub owed : SilentAt LapsesOwed
  pub claim : SilentAt ClaimsAgain
