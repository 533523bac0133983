-- What is due of a host: what it answers, gives back and sends again, and when; and that it does nothing twice. That
-- runs end rests on it, and no law of safety does. `past` is the host's own earlier steps.
use Rattle.std.specs.Prelude.{List, None, [], map, ℕ, ◌∷◌, ◌≡◌, ◌⊎◌}
use Rattle.base_types.specs.declared.ids.Fid.{Fid}
use Rattle.base_types.specs.declared.ids.HostId.{HostId}
use Rattle.base_types.specs.declared.ids.ServerId.{ServerId}
use Rattle.tree_calls.specs.declared.call.Call.{Call}
use Rattle.tree_calls.specs.declared.call.Call.TheVariants.{Sync}
use Rattle.tree_calls.specs.declared.place.Place.{Place}
use Rattle.tree_calls.specs.declared.roster.Roster.{Roster}
use Rattle.token_types.specs.declared.token.Token.{Token}
use Rattle.token_types.specs.declared.token.TokenId.{TokenId}
use Rattle.script_lines.specs.declared.script.Script.{Script}
use Rattle.message_types.specs.declared.giving.Give.{Give}
use Rattle.message_types.specs.declared.giving.Reclaim.{Reclaim as ReclaimOf}
use Rattle.message_types.specs.declared.giving.Reclaimed.{Reclaimed as ReclaimedOf}
use Rattle.message_types.specs.declared.message.Body.{Body}
use Rattle.message_types.specs.declared.message.Body.TheVariants.{Bye, Change, Fetch, GiveBack, Hello, Reclaim}
use Rattle.message_types.specs.declared.message.Body.TheVariants.{Reclaimed, Returned, Revoke}
use Rattle.message_types.specs.declared.tokens.Named.{Named}
use Rattle.message_types.specs.declared.tokens.Revoke.{Revoke as RevokeOf}
use Rattle.run_rules.specs.HostAsks.{GoesTo, HasChanged, HasFetched}
use Rattle.run_rules.specs.HostMay.{AwaitsReclaimed, ClaimsAt, LearnsRestart}
use Rattle.run_rules.specs.HostTokens.{MayEvict, OwnsUpdate}
use Rattle.run_rules.specs.Messages.{About, Asking, Changing, Comes, HasBye, HasGreeted, HasSaid, IsDecidedAt}
use Rattle.run_rules.specs.Messages.{IsWelcome, KeepsToken, Says, Sends, SendsTo, StaysAt, epoch_at, stay_of}
use Rattle.run_rules.specs.Past.{EachOnce, In}
use Rattle.run_rules.specs.Steps.{limit_of}
use Rattle.run_rules.specs.Tokens.{AtHand, BeginsCall, Drops, FreesPinned, GivesUse, HasCall, Held, HoldsId, IsKnown}
use Rattle.run_rules.specs.Tokens.{IsOpen, IsOutstanding, Made, Makes, NoneUsed, TokenInUse, end_of}
use Rattle.run_rules.specs.Views.{ByteIsDirty, FindsFile, IsDirtyUnder, LengthIsDirty, Stance}
use Rattle.run_rules.specs.declared.applied.Leave.{Leave}
use Rattle.run_rules.specs.declared.applied.Why.TheVariants.{Ended}
use Rattle.run_rules.specs.declared.step.Asked.{Asked}
use Rattle.run_rules.specs.declared.step.Cause.TheVariants.{End, Evict, Lapse}
use Rattle.run_rules.specs.declared.step.Labelled.{Labelled}
use Rattle.run_rules.specs.declared.step.Step.{Step}

-- The message is outstanding at a server, with so many moves. A claim is another matter: it is made anew each time.
abbrev pub IsUnanswered : List Step → ServerId → ℕ → Body → Type 0
IsUnanswered past server n Hello = HasGreeted past server × (IsWelcome past server → ⊥) × (n ≡ 0)
IsUnanswered past server n (Fetch f) =
    HasFetched past f × Asking past f.fid.fileset f.number × StaysAt past f.fid.fileset server n
IsUnanswered past server n (Change c) =
    HasChanged past server c × Changing past server c.fileset c.number × IsDecidedAt past c.fileset server n
IsUnanswered past server n (GiveBack g) = IsOutstanding past g × StaysAt past g.fid.fileset server n
IsUnanswered past server n Bye = HasSaid past server Bye × (HasBye past server → ⊥) × (n ≡ 0)
IsUnanswered past server n _ = ⊥

-- of its open call, from where the host stands
pub record CallsDue
    (roster : Roster) (host : HostId) (past : List Step) (s : Step) (stance : Stance roster host past s) : Type 0 where
  -- a Sync whose walk lacks no token gives back each token of its file under which something is dirty
  pub syncs : (k : ℕ) (place : Place) (fid : Fid) (t : Token) → HasCall past s k (Sync place)
      → FindsFile stance place fid → AtHand s past t → t.fid ≡ fid → IsDirtyUnder past s t → Makes s t.id
  -- the last use of a pinned token is ended by a give-back
  pub frees : (k : ℕ) (u : Labelled) → HasCall past s k (end_of u) → FreesPinned past u
      → (g : Give) × In g s.made × GivesUse g u
  -- a server is greeted once, before anything is asked of it, for an open call; and again at a lapse
  pub greets : (v : ServerId) (e n : ℕ) → Sends s v e n Hello → (IsWelcome (s ∷ past) v → ⊥)
      × (((s.cause ≡ Lapse) × HasGreeted past v)
      ⊎ ((HasGreeted past v → ⊥)
      × ((call : Asked) × IsOpen (s ∷ past) call × GoesTo roster host past s stance call.call v)))

-- a Returned of this file names the token
abbrev pub ReturnsOf : Step → Fid → TokenId → Type 0
ReturnsOf s fid id = (server : ServerId) × (epoch moves : ℕ) × (named : Named)
    × Sends s server epoch moves (Returned named) × (named.fid ≡ fid) × In id named.ids

-- of which file the host answers for a token that a Revoke names: its own, where the host holds it; else the Revoke's
abbrev pub AnswersOf : List Step → RevokeOf → TokenId → Fid → Type 0
AnswersOf past revoke id fid =
    ((token : Token) × Held past token × (token.id ≡ id) × (token.fid ≡ fid))
    ⊎ ((HoldsId past id → ⊥) × (revoke.fid ≡ fid))

-- no give-back: those are sent again where the server has restarted
abbrev pub IsNoGiveBack : Body → Type 0
IsNoGiveBack (GiveBack give) = ⊥
IsNoGiveBack _ = Unit {0}

-- a Revoke names a token of the give-back
abbrev pub AsksBack : List Step → Step → Give → Type 0
AsksBack past s give =
    (revoke : RevokeOf) × (id : TokenId) × About past s revoke.fid.fileset (Revoke revoke) × In id revoke.ids
    × In id give.ids

-- when what is outstanding is sent again, beside at a lapse
abbrev pub SendsAgain : List Step → Step → ServerId → Body → Type 0
SendsAgain past s v (GiveBack g) = LearnsRestart past s v ⊎ AsksBack past s g
SendsAgain past s v _ = (answer : ReclaimedOf) × Comes past s v (Reclaimed answer)

-- what is sent again, and when
pub record RepeatsDue (past : List Step) (s : Step) : Type 0 where
  -- at a lapse it sends again what is outstanding, and the claim that waits; all of it, and nothing else
  pub lapse_all : (v : ServerId) (n : ℕ) (b : Body) → s.cause ≡ Lapse → IsUnanswered past v n b
      → Sends s v (epoch_at past v) n b
  pub lapse_claims : (v : ServerId) → s.cause ≡ Lapse → AwaitsReclaimed past v → ClaimsAt s v
  pub lapse_only : (v : ServerId) (e n : ℕ) (b : Body) → s.cause ≡ Lapse → Sends s v e n b
      → IsUnanswered past v n b ⊎ (AwaitsReclaimed past v × ((claim : ReclaimOf) × (b ≡ Reclaim claim)))
  -- and it changes nothing
  pub lapse_quiet : s.cause ≡ Lapse
      → (s.asked ≡ None) × (s.answers ≡ []) × (s.taken ≡ []) × (s.dropped ≡ []) × (s.made ≡ [])
  -- where a server has restarted it sends its outstanding give-backs again, and a claim
  pub restarted_gives : (v : ServerId) (n : ℕ) (g : Give) → LearnsRestart past s v → IsUnanswered past v n (GiveBack g)
      → Sends s v (epoch_at (s ∷ past) v) n (GiveBack g)
  pub restarted_claims : (v : ServerId) → LearnsRestart past s v → ClaimsAt s v
  -- once its claim is answered it sends what else is still outstanding again
  pub reclaimed_all : (v : ServerId) (n : ℕ) (answer : ReclaimedOf) (b : Body) → Comes past s v (Reclaimed answer)
      → IsNoGiveBack b → IsUnanswered past v n b → IsUnanswered (s ∷ past) v n b → Sends s v (epoch_at (s ∷ past) v) n b
  -- at no other time is anything sent again that is outstanding, nor a Bye that was answered
  pub again_only : (v : ServerId) (e n : ℕ) (b : Body) → Sends s v e n b → IsUnanswered past v n b
      → (s.cause ≡ Lapse) ⊎ SendsAgain past s v b
  pub bye_again : (v : ServerId) → Says s v Bye → HasSaid past v Bye → HasBye past v → ⊥
  -- a give-back that is sent is outstanding then: none goes again once it is known as applied
  pub gives_only : (v : ServerId) (e n : ℕ) (g : Give) → Sends s v e n (GiveBack g) → IsOutstanding (s ∷ past) g

-- what leaves it
pub record LeavesDue (limit : ℕ) (past : List Step) (s : Step) : Type 0 where
  -- only what it has
  pub held : (l : Leave) → In l s.dropped → AtHand s past l.token
  -- it evicts one token, where it may evict
  pub evicts : s.cause ≡ Evict → MayEvict past limit × ((l : Leave) × (s.dropped ≡ l ∷ []))
  -- each step of its end does something
  pub ends : s.cause ≡ End → ((k : ℕ) × (call : Call) × BeginsCall s k call)
      ⊎ (((l : Leave) × In l s.dropped) ⊎ ((v : ServerId) × Says s v Bye))
  -- then what is held leaves at once, when no label is in use; but for a pinned token, that goes back with its last use
  pub ends_all : (l : Leave) → s.cause ≡ End → In l s.dropped → l.why ≡ Ended
      → NoneUsed past × ((t : Token) → Held past t → Drops s t)

-- What is dirty under the token leaves with it: a byte that no token for update covers after the step, or a length.
abbrev pub HasDirty : List Step → Step → Token → Type 0
HasDirty past s token =
    ((at : ℕ) × ByteIsDirty past token at × (OwnsUpdate (s ∷ past) token.fid at → ⊥))
    ⊎ LengthIsDirty past s token

-- of each token that a Revoke names
pub record RevokeDue (past : List Step) (s : Step) (revoke : RevokeOf) (i : TokenId) : Type 0 where
  -- a held token in use is kept
  pub keeps : HoldsId past i → TokenInUse past i → KeepsToken s i
  -- one under which something is dirty goes into a give-back
  pub gives : (t : Token) → Held past t → t.id ≡ i → HasDirty past s t → Makes s i
  -- one in a give-back that isn't known as applied is answered by that, where it is outstanding
  pub gives_again : (g : Give) → IsOutstanding past g → In i g.ids
      → SendsTo s (stay_of (s ∷ past) g.fid.fileset) (GiveBack g)
  -- all others are returned
  pub returns : (fid : Fid) → AnswersOf past revoke i fid → (TokenInUse past i → ⊥)
      → ((t : Token) → Held past t → t.id ≡ i → HasDirty past s t → ⊥)
      → ((g : Give) → Made past g → In i g.ids → IsKnown past g) → ReturnsOf s fid i

pub record HostDue (script : Script) (host : HostId) (past : List Step) (s : Step) : Type 0 where
  pub stance : Stance script.roster host past s
  pub calls : CallsDue script.roster host past s stance
  pub revokes : (r : RevokeOf) (i : TokenId) → About past s r.fid.fileset (Revoke r) → In i r.ids
      → RevokeDue past s r i
  pub repeats : RepeatsDue past s
  pub leaves : LeavesDue (limit_of script.roster host) past s
  -- each message is sent once, each token is taken and dropped once, and each give-back made once
  pub once : EachOnce s.sent
  pub once_taken : EachOnce s.taken
  pub once_dropped : EachOnce (map (λ l. l.token) s.dropped)
  pub once_made : EachOnce s.made
