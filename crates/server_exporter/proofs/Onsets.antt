-- What is so once the cause of a step was taken, so that the rest of the step can be made.
use Rattle.std.proofs.Common.{◌≡◌, ◌≢◌, ◌⊎◌, ℕ, true, List, [], ◌∷◌, ◌++◌}
use Rattle.base_types.specs.declared.ids.HostId.{HostId}
use Rattle.base_types.specs.declared.ids.ServerId.{ServerId}
use Rattle.tree_answers.specs.declared.tree.Tree.{Tree}
use Rattle.message_types.specs.Soundness.{IsHost}
use Rattle.message_types.specs.declared.asking.Change.{Change as ChangeOf}
use Rattle.message_types.specs.declared.giving.AppliedGive.{AppliedGive}
use Rattle.message_types.specs.declared.giving.Give.{Give}
use Rattle.message_types.specs.declared.giving.Reclaim.{Reclaim as ReclaimOf}
use Rattle.message_types.specs.declared.giving.Reclaimed.{Reclaimed as ReclaimedOf}
use Rattle.message_types.specs.declared.message.Body.{Body}
use Rattle.message_types.specs.declared.message.Body.TheVariants.{Bye, Change, Done, Down, GiveBack, Gone, Grant, Hello}
use Rattle.message_types.specs.declared.message.Body.TheVariants.{Reclaim, Reclaimed, Restarted, Revoke}
use Rattle.message_types.specs.declared.message.Message.{Message}
use Rattle.message_types.specs.declared.telling.Done.{Done as DoneOf}
use Rattle.message_types.specs.declared.telling.Grant.{Grant as GrantOf}
use Rattle.message_types.specs.declared.tokens.Revoke.{Revoke as RevokeOf}
use Rattle.run_rules.specs.Doings.{Doing, HasGoneDown, HasReclaimed, HeardNow, Here, IsLive, ListedNow, SentTo}
use Rattle.run_rules.specs.Doings.{TakenNow}
use Rattle.run_rules.specs.Doings.{TookNow, after_cause, epoch}
use Rattle.run_rules.specs.Past.{In}
use Rattle.run_rules.specs.ServerDecides.{FirstDown, FirstGiven, IsDecidedHere, IsNewRequest, ended_by, stored_of}
use Rattle.run_rules.specs.ServerDue.{HearsOfRestart, IsOfChange, empty_reclaimed}
use Rattle.run_rules.specs.ServerMay.{HasWritten, IsLast}
use Rattle.run_rules.specs.Tokens.{number_of}
use Rattle.run_rules.specs.declared.applied.Applied.{Applied}
use Rattle.run_rules.specs.declared.applied.Applied.TheVariants.{Done as IsDone, IsDown as GoesDown, Wants}
use Rattle.run_rules.specs.declared.applied.Request.{Request}
use Rattle.run_rules.specs.declared.applied.Request.TheVariants.{Change as Changes}
use Rattle.run_rules.specs.declared.applied.Wanted.{Wanted}
use Rattle.run_rules.specs.declared.applied.Written.{Written}
use Rattle.run_rules.specs.declared.step.Cause.{Cause}
use Rattle.run_rules.specs.declared.step.Cause.TheVariants.{End, Evict, Lapse, Line, Message as Came, Restart}
use Rattle.run_rules.specs.declared.step.Step.{Step}
use Rattle.server_tables.specs.declared.pending.Pending.{Pending}
use Rattle.server_decides.specs.Deciding.{is_fresh}
use Rattle.server_decides.specs.Running.{Making}
use Rattle.server_exporter.proofs.Held.{IsHeld}
use Rattle.server_exporter.proofs.Words.{Origin}
use Rattle.server_exporter.specs.Machines.{AreTold}

-- one of some words says this to a host
abbrev pub SaysTo : List Message → HostId → Body → Type 0
SaysTo sent h b = (m : Message) × In m sent × (m.host ≡ h) × (m.body ≡ b)

-- What is said at once is what the rules want of the cause, and nothing else is.
pub record SaysAtOnce (server : ServerId) (past : List Doing) (s : Step) (sent : List Message) : Type 0 where
  pub hello_old : (h : HostId) → HeardNow s h Hello → IsLive past h → (ListedNow past h → ⊥) → SaysTo sent h Restarted
  pub hello : (h : HostId) → HeardNow s h Hello → (HasGoneDown past h → ⊥) → ((IsLive past h → ⊥) ⊎ ListedNow past h)
      → SaysTo sent h (Reclaimed empty_reclaimed)
  pub bye : (h : HostId) → HeardNow s h Bye → (HasGoneDown past h → ⊥)
      → (IsLive past h → ⊥) ⊎ ((n : ℕ) × TakenNow past s h n Bye) → SaysTo sent h Bye
  pub late : (h : HostId) (m : Message) → s.cause ≡ Came m → m.host ≡ h → IsLive past h → m.epoch ≢ epoch past
      → m.body ≢ Hello → m.body ≢ Down → SaysTo sent h Restarted
  pub restarted_only : (h : HostId) → SaysTo sent h Restarted → IsLive past h × HearsOfRestart past s h
  pub gone : (h : HostId) (n : ℕ) (g : Give) → TakenNow past s h n (GiveBack g) → Here server past g.fid.fileset n
      → SaysTo sent h (Gone (number_of g))
  pub gone_only : (h : HostId) (n : AppliedGive) → SaysTo sent h (Gone n)
      → (moves : ℕ) × (g : Give) × TakenNow past s h moves (GiveBack g) × (number_of g ≡ n)
  pub claim_again : (h : HostId) (n : ℕ) (claim : ReclaimOf) → TakenNow past s h n (Reclaim claim)
      → HasReclaimed past h → (answer : ReclaimedOf) × (k : ℕ) × SentTo past h (epoch past) k (Reclaimed answer)
      × SaysTo sent h (Reclaimed answer)
  pub bye_only : (h : HostId) → SaysTo sent h Bye → HeardNow s h Bye × (HasGoneDown past h → ⊥)
      × (IsLive past h → (n : ℕ) × TakenNow past s h n Bye)
  pub reclaimed_only : (h : HostId) (answer : ReclaimedOf) → SaysTo sent h (Reclaimed answer)
      → (HeardNow s h Hello × (HasGoneDown past h → ⊥) × ((IsLive past h → ⊥) ⊎ ListedNow past h))
      ⊎ ((n : ℕ) × (claim : ReclaimOf) × TakenNow past s h n (Reclaim claim) × HasReclaimed past h)
  pub repeats : (h : HostId) (n : ℕ) (c : ChangeOf) (d : DoneOf) → TakenNow past s h n (Change c)
      → IsDecidedHere server past c.fileset n → d.fileset ≡ c.fileset → d.bring.number ≡ c.number → IsLast past h d
      → HasWritten past h d ⊎ ((m : ℕ) × SentTo past h (epoch past) m (Done d))
      → (o : DoneOf) × SaysTo sent h (Done o) × (o.fileset ≡ c.fileset) × (o.bring.number ≡ c.number)
  pub dones_only : (h : HostId) (d : DoneOf) → SaysTo sent h (Done d)
      → (c : ChangeOf) × IsOfChange c d × ((n : ℕ) × TakenNow past s h n (Change c))
  pub no_grant : (h : HostId) (g : GrantOf) → SaysTo sent h (Grant g) → ⊥
  pub no_revoke : (h : HostId) (r : RevokeOf) → SaysTo sent h (Revoke r) → ⊥

-- a message, or that all is on the disk
pub record IsPlain (cause : Cause) : Type 0 where
  pub line : (n : ℕ) → cause ≡ Line n → ⊥
  pub restart : (n : ℕ) → cause ≡ Restart n → ⊥
  pub lapse : cause ≡ Lapse → ⊥
  pub evict : cause ≡ Evict → ⊥
  pub end : cause ≡ End → ⊥

pub record HasBegun (server : ServerId) (cause : Cause) (tree : Tree) (past : List Doing) (a : Making) : Type 0 where
  pub base : List Applied
  pub held : IsHeld server cause tree past base a
  pub plain : IsPlain cause
  pub told : AreTold server past
  -- hosts of the roster came on the list
  pub known : (h : HostId) → In h a.tables.hosts.listed → IsHost a.tables.roster h
  -- no Change was written down yet; each that waits was taken now, or waited before
  pub undone : (v : Written) → In (IsDone v) a.draft.applied → ⊥
  pub origin : (p : Pending) (c : ChangeOf) → In p a.tables.pending → p.wanted.request ≡ Changes c
      → Origin cause past a.draft p.wanted.host c
  -- what the cause applies
  pub given : (s : Step) → s.cause ≡ cause → (h : HostId) (g : Give) → FirstGiven server past s h g
      → base ≡ stored_of tree h g ++ ended_by h g
  pub down : (s : Step) → s.cause ≡ cause → (h : HostId) → FirstDown past s h → base ≡ GoesDown h ∷ []
  pub else_none : (s : Step) → s.cause ≡ cause → ((h : HostId) (g : Give) → FirstGiven server past s h g → ⊥)
      → ((h : HostId) → FirstDown past s h → ⊥) → base ≡ []
  pub at_once : (s : Step) → s.cause ≡ cause → SaysAtOnce server past s a.draft.sent
  -- a new request has made its want, which is the fresh one
  pub news : (s : Step) → s.cause ≡ cause → (h : HostId) (n : ℕ) (r : Request)
      → IsNewRequest server past (after_cause s.cause past) s h n r
      → (w : Wanted) × In (Wants w) a.draft.applied × (w.host ≡ h) × (w.request ≡ r)
  pub fresh : (s : Step) → s.cause ≡ cause → (p : Pending) → In p a.tables.pending
      → IsNewRequest server past (after_cause s.cause past) s p.wanted.host p.wanted.moves p.wanted.request
      → is_fresh a.draft.fresh p.number ≡ true
  -- a host that claims hasn't reclaimed by the cause
  pub never : (h : HostId) (n : ℕ) (claim : ReclaimOf) → TookNow (after_cause cause past) h n (Reclaim claim)
      → (HasReclaimed past h → ⊥) → HasReclaimed (after_cause cause past) h → ⊥
