-- What each message that a host sends owes to its rules: all that any rule asks of one sent message.
use Rattle.std.specs.Prelude.{[]}
use Rattle.run_rules.specs.HostMay.{HostMay}
use Rattle.base_types.specs.declared.ids.FilesetId.{FilesetId}
use Rattle.base_types.specs.declared.ids.HostId.{HostId}
use Rattle.base_types.specs.declared.ids.Node.TheVariants.{Host}
use Rattle.base_types.specs.declared.ids.ServerId.{ServerId}
use Rattle.message_types.specs.declared.asking.Change.{Change as ChangeOf}
use Rattle.message_types.specs.declared.asking.Fetch.{Fetch as FetchOf}
use Rattle.message_types.specs.declared.giving.Give.{Give}
use Rattle.message_types.specs.declared.giving.Reclaim.{Reclaim as ReclaimOf}
use Rattle.message_types.specs.declared.message.Body.{Body}
use Rattle.message_types.specs.declared.message.Body.TheVariants.{Bye, Change, Fetch, GiveBack, Hello, Kept, Reclaim}
use Rattle.message_types.specs.declared.message.Body.TheVariants.{Returned, Revoke}
use Rattle.message_types.specs.declared.message.Message.{Message}
use Rattle.message_types.specs.declared.telling.Bring.{Bring}
use Rattle.message_types.specs.declared.tokens.Named.{Named}
use Rattle.message_types.specs.declared.tokens.Revoke.{Revoke as RevokeOf}
use Rattle.run_rules.specs.HostAsks.{AwaitsGone, GoesTo, HasChanged, HasFetched, IsNewChange, IsNewFetch}
use Rattle.run_rules.specs.HostMay.{AwaitsReclaimed, DoesLine, HostAnswers, LearnsRestart, TakenBefore}
use Rattle.run_rules.specs.HostTokens.{Claims, HostGives, HostLeaves, HostTakes, MayEvict}
use Rattle.run_rules.specs.Messages.{About, Asking, Changing, HasGreeted, HasSaid, HasStopped, IsDecidedAt}
use Rattle.run_rules.specs.Messages.{IsWelcome, StaysAt, epoch_at}
use Rattle.run_rules.specs.Past.{In}
use Rattle.run_rules.specs.Steps.{IsNextLine, limit_of, lines_gone, lines_of, servers_of}
use Rattle.run_rules.specs.Tokens.{AtHand, BeginsCall, Drops, Held, HoldsId, IsKnown, IsOpen, LabelInUse, LeavesHost}
use Rattle.run_rules.specs.Tokens.{Made, NoneOpen, Owns, TokenInUse, Uses, calls_begun, end_of, number_of}
use Rattle.run_rules.specs.Views.{Stance}
use Rattle.run_rules.specs.declared.step.Asked.{Asked}
use Rattle.run_rules.specs.declared.step.Cause.TheVariants.{End, Flushed, Lapse, Line as LineOf, Restart}
use Rattle.run_rules.specs.declared.step.Labelled.{Labelled}
use Rattle.run_rules.specs.declared.step.Step.{Step}
use Rattle.script_lines.specs.declared.script.Line.{Line}
use Rattle.script_lines.specs.declared.script.Script.{Script}
use Rattle.std.specs.Prelude.{List, length, suc, ℕ, ◌<◌, ◌∷◌, ◌≡◌, ◌⊎◌}
use Rattle.token_types.specs.declared.token.Token.{Token}
use Rattle.token_types.specs.declared.token.TokenId.{TokenId}
use Rattle.tree_calls.specs.declared.call.Call.{Call}
use Rattle.tree_calls.specs.declared.roster.Roster.{Roster}

-- the ids that a Returned names: of tokens that it had, or that a Revoke names; in no open give-back, and not in use
pub record MayReturn (past : List Step) (s : Step) (i : TokenId) : Type 0 where
  pub from : ((t : Token) × AtHand s past t × (t.id ≡ i)) ⊎ ((r : RevokeOf) × About past s r.fid.fileset (Revoke r)
      × In i r.ids)
  pub free : (g : Give) → Made (s ∷ past) g → In i g.ids → IsKnown (s ∷ past) g
  pub idle : TokenInUse past i → ⊥

-- the ids that a Kept names
abbrev pub MayKeep : List Step → Step → TokenId → Type 0
MayKeep past s i =
    HoldsId (s ∷ past) i × TokenInUse (s ∷ past) i × ((r : RevokeOf) × About past s r.fid.fileset (Revoke r)
    × In i r.ids)

-- it goes to where its file's fileset is, and names tokens of the file alone of what the host had
pub record IsOnFile (past : List Step) (s : Step) (v : ServerId) (n : ℕ) (w : Named) : Type 0 where
  pub place : StaysAt (s ∷ past) w.fid.fileset v n
  pub file : (t : Token) → AtHand s past t → In t.id w.ids → t.fid ≡ w.fid

module _ (roster : Roster) (host : HostId) (past : List Step) (s : Step) (stance : Stance roster host past s) where
  pub record MayFetch (v : ServerId) (n : ℕ) (f : FetchOf) : Type 0 where
    pub place : StaysAt (s ∷ past) f.fid.fileset v n
    pub no_bye : (w : ServerId) → HasSaid past w Bye → ⊥
    pub why : (HasFetched past f × Asking past f.fid.fileset f.number) ⊎ IsNewFetch roster host past s stance f
    pub welcome : IsWelcome (s ∷ past) v

  pub record MayChange (v : ServerId) (n : ℕ) (c : ChangeOf) : Type 0 where
    pub place : IsDecidedAt (s ∷ past) c.fileset v n
    pub no_bye : (w : ServerId) → HasSaid past w Bye → ⊥
    pub why : (HasChanged past v c × Changing past v c.fileset c.number) ⊎ IsNewChange roster host past s stance v n c
    pub welcome : IsWelcome (s ∷ past) v

  pub record MayGive (v : ServerId) (n : ℕ) (g : Give) : Type 0 where
    pub made : Made (s ∷ past) g
    pub place : StaysAt (s ∷ past) g.fid.fileset v n
    pub first : (k : Give) → Made (s ∷ past) k → k.fid.fileset ≡ g.fid.fileset → k.number < g.number
        → IsKnown (s ∷ past) k

  pub record MayClaim (v : ServerId) (c : ReclaimOf) : Type 0 where
    pub claims : Claims (s ∷ past) v c
    pub why : LearnsRestart past s v ⊎ ((s.cause ≡ Lapse) × AwaitsReclaimed past v)

  pub record MayLeaveAll (v : ServerId) : Type 0 where
    pub greeted : HasGreeted past v
    pub none_held : (t : Token) → Held (s ∷ past) t → ⊥
    pub none_owned : (t : Token) → Owns (s ∷ past) t → ⊥
    pub why : (s.cause ≡ End) ⊎ HasSaid past v Bye
    pub known : (g : Give) → Made (s ∷ past) g → IsKnown (s ∷ past) g
    pub none_asked : (fs : FilesetId) (k : ℕ) → Asking (s ∷ past) fs k → ⊥
    pub none_changing : (w : ServerId) (fs : FilesetId) (k : ℕ) → Changing (s ∷ past) w fs k → ⊥

  -- what a message of each kind owes; a host sends no others
  abbrev pub MaySay : ServerId → ℕ → Body → Type 0
  MaySay v n Hello = Unit {0}
  MaySay v n (Fetch f) = MayFetch v n f
  MaySay v n (Change c) = MayChange v n c
  MaySay v n (Returned w) = IsOnFile past s v n w × ((i : TokenId) → In i w.ids → MayReturn past s i)
  MaySay v n (Kept w) = IsOnFile past s v n w × ((i : TokenId) → In i w.ids → MayKeep past s i)
  MaySay v n (GiveBack g) = MayGive v n g
  MaySay v n (Reclaim c) = MayClaim v c
  MaySay v n Bye = MayLeaveAll v
  MaySay v n _ = ⊥

  -- it carries the present epoch
  pub record MaySend (m : Message) : Type 0 where
    pub epoch_is : m.epoch ≡ epoch_at (s ∷ past) m.server
    pub says : MaySay m.server m.moves m.body

  -- the open call isn't left alone
  abbrev pub NotAlone : Asked → Type 0
  NotAlone call =
      ((fs : FilesetId) × (n : ℕ) × Asking (s ∷ past) fs n)
      ⊎ (((v : ServerId) × (fs : FilesetId) × (n : ℕ) × Changing (s ∷ past) v fs n)
      ⊎ (AwaitsGone roster host past s stance call.call
      ⊎ ((v : ServerId) × GoesTo roster host past s stance call.call v × HasGreeted (s ∷ past) v
      × (IsWelcome (s ∷ past) v → ⊥))))

  -- what a step that isn't the stop owes besides its answers, give-backs, leaves and lines
  pub record Moderate : Type 0 where
    pub live : HasStopped past → ⊥
    pub sends : (m : Message) → In m s.sent → MaySend m
    pub asks : (call : Asked) → IsOpen (s ∷ past) call → NotAlone call
    pub takes : (t : Token) → In t s.taken
        → (w : Bring) × Uses past s w × In t w.tokens × (t.fid ≡ w.fid) × (HoldsId past t.id → ⊥)
    pub drops : (t : Token) → AtHand s past t → LeavesHost s t.id → Drops s t
    pub drops_only : (t : Token) → Drops s t → LeavesHost s t.id
    -- give-backs
    pub makes : (g : Give) (i : TokenId) → In g s.made → In i g.ids
        → (t : Token) × AtHand s past t × (t.id ≡ i) × (t.fid ≡ g.fid)
    pub makes_once : (g k : Give) (i : TokenId) → In g s.made → In k s.made → In i g.ids → In i k.ids → g ≡ k
    pub makes_from : (g : Give) → In g s.made → 0 < g.number
    pub makes_apart : (g k : Give) → In g s.made → In k s.made → number_of g ≡ number_of k → g ≡ k
    pub makes_new : (g k : Give) → In g s.made → Made past k → k.fid.fileset ≡ g.fid.fileset → k.number < g.number
    -- one request is outstanding
    pub one_fetch : (fs gs : FilesetId) (n m : ℕ) → Asking (s ∷ past) fs n → Asking (s ∷ past) gs m
        → (fs ≡ gs) × (n ≡ m)
    pub one_change : (v w : ServerId) (fs gs : FilesetId) (n m : ℕ)
        → Changing (s ∷ past) v fs n → Changing (s ∷ past) w gs m → (fs ≡ gs) × (n ≡ m)
    pub one_of_both : (v : ServerId) (fs gs : FilesetId) (n m : ℕ)
        → Asking (s ∷ past) fs n → Changing (s ∷ past) v gs m → ⊥

-- what a step by a line, or at the end, owes to the lines, beside what it says
pub record LinesMay (lines : List Line) (limit : ℕ) (servers : List ServerId) (past : List Step) (s : Step) : Type 0
  where
    pub next : (n : ℕ) → s.cause ≡ LineOf n
        → (line : Line) × IsNextLine lines past n line × DoesLine servers past s line.deed
    pub free : (n : ℕ) → s.cause ≡ LineOf n → NoneOpen past × (MayEvict past limit → ⊥)
    pub begins : (k : ℕ) (call : Call) → BeginsCall s k call → ((n : ℕ) × (s.cause ≡ LineOf n)) ⊎ (s.cause ≡ End)
    pub no_server : ((n : ℕ) → s.cause ≡ Restart n → ⊥) × (s.cause ≡ Flushed → ⊥)
    pub applies_none : (s.applied ≡ []) × (s.admitted ≡ []) × (s.reserved ≡ [])
    pub after : s.cause ≡ End → (lines_gone past ≡ length lines) × NoneOpen past × (MayEvict past limit → ⊥)
    pub implied : (k : ℕ) (call : Call) → s.cause ≡ End → BeginsCall s k call → (k ≡ suc (calls_begun past))
        × ((u : Labelled) × LabelInUse past u × (call ≡ end_of u)
        × ((other : Labelled) → LabelInUse past other → TakenBefore past other u → ⊥))

-- what makes up all that a step which isn't the stop may do
abbrev pub MayAssembled : Type 0
MayAssembled =
    (script : Script) (host : HostId) (past : List Step) (s : Step) (stance : Stance script.roster host past s)
    → Moderate script.roster host past s stance → HostTakes past s
    → HostAnswers script.roster host past s stance → HostGives past s
    → HostLeaves script.roster host (limit_of script.roster host) past s
    → LinesMay (lines_of script (Host host)) (limit_of script.roster host) (servers_of script.roster) past s
    → HostMay script host past s
