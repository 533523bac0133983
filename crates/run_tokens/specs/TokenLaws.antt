-- What holds of tokens after each step of a run, and of each list of steps that meets the rules of tokens. `firsts` are
-- the epochs in which the servers start.
use Rattle.std.specs.Prelude.{List, [], true, ℕ, ◌<◌, ◌∷◌, ◌≡◌}
use Rattle.base_types.specs.declared.ids.FilesetId.{FilesetId}
use Rattle.base_types.specs.declared.ids.HostId.{HostId}
use Rattle.base_types.specs.declared.ids.Node.{Node}
use Rattle.base_types.specs.declared.ids.Node.TheVariants.{Host, Server}
use Rattle.base_types.specs.declared.ids.ServerId.{ServerId}
use Rattle.token_types.specs.Conflicts.{conflict}
use Rattle.token_types.specs.declared.token.Token.{Token}
use Rattle.token_types.specs.declared.token.TokenId.{TokenId}
use Rattle.message_types.specs.declared.giving.AppliedGive.{AppliedGive}
use Rattle.message_types.specs.declared.giving.Give.{Give}
use Rattle.message_types.specs.declared.giving.Reclaimed.{Reclaimed as ReclaimedOf}
use Rattle.message_types.specs.declared.message.Body.{Body}
use Rattle.message_types.specs.declared.message.Body.TheVariants.{GiveBack, Reclaimed}
use Rattle.message_types.specs.declared.message.Message.{Message}
use Rattle.run_rules.specs.Doings.{Doing, Granted, HasReclaimed, Here, IsApplied, Reserved, SentTo, TakesOf}
use Rattle.run_rules.specs.Doings.{WasWritten, doings_of}
use Rattle.run_rules.specs.Doings.Doing.{WritesDown}
use Rattle.run_rules.specs.HostTokens.{HostTokens}
use Rattle.run_rules.specs.Messages.{HasStopped, ReturnsToken}
use Rattle.run_rules.specs.Past.{Always, In, Once}
use Rattle.run_rules.specs.Runs.{CameToHost, CameToServer, IsFrom}
use Rattle.run_rules.specs.ServerTokens.{ServerStep}
use Rattle.run_rules.specs.Steps.{steps_of_host}
use Rattle.run_rules.specs.Tokens.{Held, LeavesHost, Made, number_of}
use Rattle.run_rules.specs.declared.applied.Written.{Written}
use Rattle.run_rules.specs.declared.step.Step.{Step}
use Rattle.run_tokens.specs.Unmoved.{MovesNone}

-- a Returned of an earlier step
abbrev pub HasReturnedToken : List Step → TokenId → Type 0
HasReturnedToken past id = Once (λ before step. ReturnsToken step id) past

-- the token left its host in an earlier step
abbrev pub HasLeftHost : List Step → TokenId → Type 0
HasLeftHost past id = Once (λ before step. LeavesHost step id) past

-- the server took this from the host, about a fileset that was here in the stay that it is of, in whatever epoch
abbrev pub TookEver : ServerId → List Doing → HostId → FilesetId → Body → Type 0
TookEver server past host fileset body = Once (λ before a. TakesOf server before a host fileset body) past

-- a step of a node meets its rules of tokens, and its cause was sent before
abbrev pub StepMay : (ServerId → ℕ) → Node → List Step → Step → Type 0
StepMay firsts (Host host) past s = HostTokens (steps_of_host host past) s × CameToHost firsts host past s
StepMay firsts (Server server) past s =
    ServerStep server (doings_of (firsts server) server past) s × CameToServer server past s

-- Each step meets the rules of its node, its cause was sent before, and it moves no fileset. `firsts` are the epochs in
-- which servers start.
abbrev pub IsTokenRun : (ServerId → ℕ) → List Step → Type 0
IsTokenRun firsts [] = (server : ServerId) → 0 < firsts server
IsTokenRun firsts (s ∷ past) =
    IsTokenRun firsts past × StepMay firsts s.node past s × ((m : Message) → In m s.sent → IsFrom s.node m)
    × MovesNone s

-- the doing applies the host's give-back: it takes it, and neither it nor a later one of its fileset was taken before
abbrev pub Applies : ServerId → List Doing → Doing → HostId → Give → Type 0
Applies server past a host give =
    TakesOf server past a host give.fid.fileset (GiveBack give) × (IsApplied server past host (number_of give) → ⊥)

-- an earlier doing applied a give-back of this number
abbrev pub WasApplied : ServerId → List Doing → HostId → AppliedGive → Type 0
WasApplied server past host number =
    Once (λ before a. (give : Give) × Applies server before a host give × (number_of give ≡ number)) past

-- no two tokens that hosts hold conflict, but for hosts that have stopped
abbrev pub NoConflict : List Step → Type 0
NoConflict past =
    (h k : HostId) (t u : Token) → (HasStopped (steps_of_host h past) → ⊥) → (HasStopped (steps_of_host k past) → ⊥)
    → Held (steps_of_host h past) t → Held (steps_of_host k past) u → conflict t u ≡ true → ⊥

-- no give-back of one number is applied twice, over all epochs
abbrev pub GivesOnce : ServerId → List Doing → Type 0
GivesOnce server past = Always (λ before a. (h : HostId) (g : Give) → Applies server before a h g
    → WasApplied server before h (number_of g) → ⊥) past

-- no Change of one number is written down twice, over all epochs
abbrev pub ChangesOnce : List Doing → Type 0
ChangesOnce past =
    Always (λ before a. (w : Written) → a ≡ WritesDown w → WasWritten before w.answer.host w.fileset w.number → ⊥) past

-- what holds of tokens
pub record TokensAreSafe (firsts : ServerId → ℕ) (past : List Step) : Type 0 where
  pub no_conflict : NoConflict past
  -- no two tokens that servers have granted conflict, in a grace period too
  pub grants_apart : (v w : ServerId) (t u : Token) → Granted v (doings_of (firsts v) v past) t
      → Granted w (doings_of (firsts w) w past) u → conflict t u ≡ true → ⊥
  -- a token is granted only at a server where its fileset is
  pub granted_here : (v : ServerId) (t : Token) → Granted v (doings_of (firsts v) v past) t
      → (moves : ℕ) × Here v (doings_of (firsts v) v past) t.fid.fileset moves
  -- what a host that hasn't stopped holds is granted, once it has reclaimed in the server's epoch
  pub held_granted : (h : HostId) (v : ServerId) (t : Token) → (HasStopped (steps_of_host h past) → ⊥)
      → Held (steps_of_host h past) t
      → t.id.server ≡ v → HasReclaimed (doings_of (firsts v) v past) h → Granted v (doings_of (firsts v) v past) t
  -- no claim is refused but for what its host no longer has: what a Reclaimed leaves out, its host doesn't hold
  pub none_refused : (h : HostId) (v : ServerId) (e n : ℕ) (r : ReclaimedOf) (t : Token)
      → SentTo (doings_of (firsts v) v past) h e n (Reclaimed r) → In t.id r.left_out → Held (steps_of_host h past) t
      → ⊥
  -- what an applied give-back names isn't granted: no claim brings it back
  pub given_ended : (h : HostId) (v : ServerId) (g : Give) (t : Token) → Made (steps_of_host h past) g → In t.id g.ids
      → t.host ≡ h → IsApplied v (doings_of (firsts v) v past) h (number_of g)
      → Granted v (doings_of (firsts v) v past) t → ⊥
  -- a give-back that counts as applied was taken: none is passed over
  pub none_passed : (h : HostId) (v : ServerId) (g : Give) → Made (steps_of_host h past) g
      → IsApplied v (doings_of (firsts v) v past) h (number_of g)
      → TookEver v (doings_of (firsts v) v past) h g.fid.fileset (GiveBack g)
  -- nothing takes effect twice
  pub once_each : (v : ServerId) → GivesOnce v (doings_of (firsts v) v past) × ChangesOnce (doings_of (firsts v) v past)
  -- what a server's exporter keeps conflicts with no token that the server has granted
  pub reserved_apart : (v : ServerId) (r t : Token) → Reserved (doings_of (firsts v) v past) r
      → Granted v (doings_of (firsts v) v past) t → conflict t r ≡ true → ⊥

-- after each step
abbrev pub AreAlwaysSafe : (ServerId → ℕ) → List Step → Type 0
AreAlwaysSafe firsts [] = TokensAreSafe firsts []
AreAlwaysSafe firsts (s ∷ past) = AreAlwaysSafe firsts past × TokensAreSafe firsts (s ∷ past)

-- of each list of steps that meets the rules of tokens
abbrev pub TokensNeverConflict : Type 0
TokensNeverConflict = (firsts : ServerId → ℕ) (past : List Step) → IsTokenRun firsts past → AreAlwaysSafe firsts past
