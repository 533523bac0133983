-- What a host may not do, and what it may not leave undone.
use Rattle.std.specs.Prelude.{◌≡◌, ◌⊎◌, ℕ, List, [], ◌∷◌}
use Rattle.base_types.specs.declared.ids.HostId.{HostId}
use Rattle.base_types.specs.declared.ids.ServerId.{ServerId}
use Rattle.base_types.specs.declared.ids.FilesetId.{FilesetId}
use Rattle.tree_calls.specs.declared.call.Call.TheVariants.{Sync}
use Rattle.tree_calls.specs.declared.place.Place.{Place}
use Rattle.base_types.specs.declared.ids.Fid.{Fid}
use Rattle.token_types.specs.declared.token.Token.{Token}
use Rattle.message_types.specs.declared.message.Body.TheVariants.{Hello, Fetch, Change, Revoke, Reclaim, Bye}
use Rattle.message_types.specs.declared.asking.Fetch.{Fetch as FetchOf}
use Rattle.message_types.specs.declared.asking.Change.{Change as ChangeOf}
use Rattle.message_types.specs.declared.giving.Give.{Give}
use Rattle.message_types.specs.declared.giving.Reclaim.{Reclaim as ReclaimOf}
use Rattle.message_types.specs.declared.tokens.Revoke.{Revoke as RevokeOf}
use Rattle.script_lines.specs.declared.script.Script.{Script}
use Rattle.run_rules.specs.HostDue.{HasDirty, IsUnanswered}
use Rattle.run_rules.specs.Messages.{HasBye}
use Rattle.run_rules.specs.HostMay.{ClaimsAt, LearnsRestart}
use Rattle.run_rules.specs.HostTokens.{MayEvict}
use Rattle.run_rules.specs.Messages.{About, Asking, Changing, Comes, HasGreeted, HasSaid, HasStopped, IsWelcome, Says}
use Rattle.run_rules.specs.Messages.{Sends, epoch_at}
use Rattle.run_rules.specs.Past.{In}
use Rattle.run_rules.specs.Steps.{limit_of}
use Rattle.run_rules.specs.Tokens.{AtHand, Drops, FreesPinned, HasCall, Held, IsKnown, IsOpen, Made}
use Rattle.run_rules.specs.Tokens.{NoneOpen, NoneUsed, end_of}
use Rattle.run_rules.specs.Views.{FindsFile, IsDirtyUnder, Stance}
use Rattle.run_rules.specs.declared.applied.Why.TheVariants.{Ended}
use Rattle.run_rules.specs.declared.step.Asked.{Asked}
use Rattle.run_rules.specs.declared.step.Cause.TheVariants.{Evict, Flushed, Lapse, Restart}
use Rattle.run_rules.specs.declared.step.Step.{Step}
use Rattle.run_rules.specs.declared.step.Labelled.{Labelled}
use Rattle.message_types.specs.declared.message.Body.{Body}
use Rattle.message_types.specs.declared.message.Body.TheVariants.{GiveBack, Reclaimed}
use Rattle.message_types.specs.declared.giving.Reclaimed.{Reclaimed as ReclaimedOf}
use Rattle.run_rules.specs.declared.applied.Answer.{Answer}
use Rattle.run_rules.specs.declared.applied.Leave.{Leave}
use Rattle.run_rules.specs.declared.step.Cause.TheVariants.{End}
use Rattle.run_due.specs.Dutiful.{Never, NeverIn, SaysTwice}

-- an open call is left alone: nothing is asked, each give-back is known, and each server that was greeted welcomes
pub record LeftAlone (past : List Step) (s : Step) : Type 0 where
  pub call : Asked
  pub open_is : IsOpen (s ∷ past) call
  pub live : HasStopped (s ∷ past) → ⊥
  pub none_asked : (fs : FilesetId) (n : ℕ) → Asking (s ∷ past) fs n → ⊥
  pub none_changed : (v : ServerId) (fs : FilesetId) (n : ℕ) → Changing (s ∷ past) v fs n → ⊥
  pub none_given : (g : Give) → Made (s ∷ past) g → IsKnown (s ∷ past) g
  pub welcome : (v : ServerId) → HasGreeted (s ∷ past) v → IsWelcome (s ∷ past) v

-- a server is asked that hasn't welcomed the host
abbrev pub AsksEarly : List Step → Step → Type 0
AsksEarly past s = (v : ServerId) × (e : ℕ) × (n : ℕ) × (IsWelcome (s ∷ past) v → ⊥)
    × (((f : FetchOf) × Sends s v e n (Fetch f)) ⊎ ((c : ChangeOf) × Sends s v e n (Change c)))

-- a server is greeted a second time without a lapse, or when it has welcomed the host, or while no call is open
abbrev pub GreetsAgain : List Step → Step → Type 0
GreetsAgain past s = (v : ServerId) × (e : ℕ) × (n : ℕ) × Sends s v e n Hello
    × (((s.cause ≡ Lapse → ⊥) × HasGreeted past v)
    ⊎ (IsWelcome (s ∷ past) v ⊎ ((s.cause ≡ Lapse → ⊥) × NoneOpen (s ∷ past))))

-- a lapse sends something that isn't outstanding, and no claim
abbrev pub LapsesMore : List Step → Step → Type 0
LapsesMore past s = (v : ServerId) × (e : ℕ) × (n : ℕ) × (b : Body) × (s.cause ≡ Lapse) × Sends s v e n b
    × (IsUnanswered past v n b → ⊥) × ((claim : ReclaimOf) → b ≡ Reclaim claim → ⊥)

-- a lapse answers a call, or makes a give-back
abbrev pub LapsesBusily : List Step → Step → Type 0
LapsesBusily past s = (s.cause ≡ Lapse) × (((a : Answer) × In a s.answers) ⊎ ((g : Give) × In g s.made))

-- an outstanding Fetch is sent again where no lapse and no answer to a claim comes
abbrev pub FetchesAgain : List Step → Step → Type 0
FetchesAgain past s = (v : ServerId) × (e : ℕ) × (n : ℕ) × (f : FetchOf) × Sends s v e n (Fetch f)
    × IsUnanswered past v n (Fetch f) × (s.cause ≡ Lapse → ⊥)
    × ((answer : ReclaimedOf) → Comes past s v (Reclaimed answer) → ⊥)

-- a server has restarted, and a give-back that is outstanding there isn't sent again
abbrev pub KeepsGive : List Step → Step → Type 0
KeepsGive past s = (v : ServerId) × (n : ℕ) × (g : Give) × LearnsRestart past s v × IsUnanswered past v n (GiveBack g)
    × (Sends s v (epoch_at (s ∷ past) v) n (GiveBack g) → ⊥)

-- a server is sent a claim that hasn't restarted, at no lapse
abbrev pub ClaimsIdly : List Step → Step → Type 0
ClaimsIdly past s = (v : ServerId) × ClaimsAt s v × (LearnsRestart past s v → ⊥) × (s.cause ≡ Lapse → ⊥)

-- it is asked for a token under which something is dirty, and makes no give-back
pub record HoldsBack (past : List Step) (s : Step) : Type 0 where
  pub r : RevokeOf
  pub t : Token
  pub about : About past s r.fid.fileset (Revoke r)
  pub named : In t.id r.ids
  pub held : Held past t
  pub dirty : HasDirty past s t
  pub none : s.made ≡ []

-- a Sync of a file under whose token something is dirty makes no give-back
pub record SyncsNothing (script : Script) (host : HostId) (past : List Step) (s : Step) : Type 0 where
  pub k : ℕ
  pub place : Place
  pub fid : Fid
  pub t : Token
  pub turn : HasCall past s k (Sync place)
  pub finds : (stance : Stance script.roster host past s) → FindsFile stance place fid
  pub at : AtHand s past t
  pub file : t.fid ≡ fid
  pub dirty : IsDirtyUnder past s t
  pub none : s.made ≡ []

-- the last use of a pinned token is ended, and no give-back made
abbrev pub FreesNothing : List Step → Step → Type 0
FreesNothing past s =
    (k : ℕ) × (u : Labelled) × HasCall past s k (end_of u) × FreesPinned past u × (s.made ≡ [])

abbrev pub SaysByeHolding : List Step → Step → Type 0
SaysByeHolding past s =
    (v : ServerId) × Says s v Bye × (((t : Token) × Held (s ∷ past) t) ⊎ (HasGreeted past v → ⊥))

abbrev pub SaysByeAgain : List Step → Step → Type 0
SaysByeAgain past s = (v : ServerId) × Says s v Bye × HasSaid past v Bye × HasBye past v

-- an eviction drops nothing, or more than one token
abbrev pub EvictsOther : List Step → Step → Type 0
EvictsOther past s = (s.cause ≡ Evict)
    × ((s.dropped ≡ []) ⊎ ((l k : Leave) × (ls : List Leave) × (s.dropped ≡ l ∷ k ∷ ls)))

-- one goes where none may be evicted
abbrev pub EvictsEarly : Script → HostId → List Step → Step → Type 0
EvictsEarly script host past s = (s.cause ≡ Evict) × (MayEvict past (limit_of script.roster host) → ⊥)

-- a token is dropped that the host doesn't have
abbrev pub DropsOther : List Step → Step → Type 0
DropsOther past s = (l : Leave) × In l s.dropped × (AtHand s past l.token → ⊥)

-- at the end a token leaves while another one stays, or while a label is in use
abbrev pub EndsPartly : List Step → Step → Type 0
EndsPartly past s = (l : Leave) × (s.cause ≡ End) × In l s.dropped × (l.why ≡ Ended)
    × (((t : Token) × Held past t × (Drops s t → ⊥)) ⊎ (NoneUsed past → ⊥))

-- a give-back is sent that is known as applied
abbrev pub GivesKnown : List Step → Step → Type 0
GivesKnown past s = (v : ServerId) × (e : ℕ) × (n : ℕ) × (g : Give) × Sends s v e n (GiveBack g) × IsKnown (s ∷ past) g

-- a token is taken twice, or dropped twice, for whatever causes, or a give-back is made twice
abbrev pub ListsTwice : List Step → Step → Type 0
ListsTwice past s = ((t : Token) × (ts : List Token) × (s.taken ≡ t ∷ t ∷ ts))
    ⊎ (((l k : Leave) × (ls : List Leave) × (s.dropped ≡ l ∷ k ∷ ls) × (l.token ≡ k.token))
    ⊎ ((g : Give) × (gs : List Give) × (s.made ≡ g ∷ g ∷ gs)))

abbrev pub DoesServersWork : List Step → Step → Type 0
DoesServersWork past s = ((n : ℕ) × (s.cause ≡ Restart n)) ⊎ (s.cause ≡ Flushed)

pub record HostsDo : Type 0 where
  pub left_alone : Never LeftAlone
  pub early : Never AsksEarly
  pub greets : Never GreetsAgain
  pub twice : Never SaysTwice
  pub lapse_more : Never LapsesMore
  pub lapse_busy : Never LapsesBusily
  pub fetches_again : Never FetchesAgain
  pub keeps_give : Never KeepsGive
  pub claims_idly : Never ClaimsIdly
  pub holds_back : Never HoldsBack
  pub syncs : NeverIn SyncsNothing
  pub frees : Never FreesNothing
  pub evicts : Never EvictsOther
  pub evicts_early : NeverIn EvictsEarly
  pub drops : Never DropsOther
  pub ends_partly : Never EndsPartly
  pub bye : Never SaysByeHolding
  pub bye_again : Never SaysByeAgain
  pub gives_known : Never GivesKnown
  pub lists : Never ListsTwice
  pub servers_work : Never DoesServersWork
