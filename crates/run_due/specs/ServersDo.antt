-- What a server may not do, and what it may not leave undone.
use Rattle.std.specs.Prelude.{◌≡◌, ◌≢◌, ◌⊎◌, ℕ, true, List, []}
use Rattle.base_types.specs.declared.ids.HostId.{HostId}
use Rattle.base_types.specs.declared.ids.ServerId.{ServerId}
use Rattle.tree_answers.specs.declared.tree.Tree.{Tree}
use Rattle.token_types.specs.declared.token.Token.{Token}
use Rattle.token_types.specs.declared.token.TokenId.{TokenId}
use Rattle.message_types.specs.declared.message.Body.TheVariants.{Hello, Restarted, Gone, Revoke, Reclaim, Bye}
use Rattle.message_types.specs.declared.asking.Change.{Change as ChangeOf}
use Rattle.message_types.specs.declared.giving.AppliedGive.{AppliedGive}
use Rattle.message_types.specs.declared.giving.Reclaim.{Reclaim as ReclaimOf}
use Rattle.message_types.specs.declared.tokens.Revoke.{Revoke as RevokeOf}
use Rattle.script_lines.specs.declared.script.Script.{Script}
use Rattle.script_lines.specs.declared.script.Line.{Line}
use Rattle.run_rules.specs.Doings.{Doing, HasReclaimed, HeardNow, IsLive, ListedNow, SentNow}
use Rattle.run_rules.specs.Doings.{TookNow, after_cause, after_deciding, after_step, epoch}
use Rattle.run_rules.specs.Kept.{filesets_kept, filesets_through}
use Rattle.run_rules.specs.Past.{In}
use Rattle.run_rules.specs.ServerDecides.{IsNewRequest, IsOfRow, NotRefused, RefusedOn}
use Rattle.run_rules.specs.ServerMay.{HasRevoked, IsAskedBack}
use Rattle.run_rules.specs.ServerTokens.{HasTakenGives}
use Rattle.run_rules.specs.Steps.{IsBareStep, IsNextLine, lines_of}
use Rattle.run_rules.specs.Wants.{CanDecide, CanGrant, CanRefuse, IsQueued, has_effect, is_use}
use Rattle.run_rules.specs.declared.applied.Request.TheVariants.{Change as Changes}
use Rattle.run_rules.specs.declared.applied.Request.{Request}
use Rattle.run_rules.specs.declared.applied.Wanted.{Wanted}
use Rattle.run_rules.specs.declared.step.Cause.TheVariants.{Lapse, Line as LineOf, Message as Came}
use Rattle.run_rules.specs.declared.step.Cause.TheVariants.{Restart}
use Rattle.run_rules.specs.declared.step.Step.{Step}
use Rattle.tree_calls.specs.declared.reply.Refusal.{Refusal}
use Rattle.base_types.specs.declared.ids.Node.TheVariants.{Server}
use Rattle.message_types.specs.declared.message.Body.TheVariants.{Done, Reclaimed}
use Rattle.message_types.specs.declared.message.Message.{Message}
use Rattle.message_types.specs.declared.giving.Reclaimed.{Reclaimed as ReclaimedOf}
use Rattle.message_types.specs.declared.telling.Done.{Done as DoneOf}
use Rattle.script_lines.specs.declared.script.Deed.TheVariants.{Restart as Restarts}
use Rattle.run_due.specs.Dutiful.{NeverAt, NeverFrom, SaysTwice}

-- its kept filesets once the step has decided
abbrev pub kept_now : Tree → ServerId → List Step → Step → Tree
kept_now start v steps s = filesets_through s.cause s.applied (filesets_kept start v steps)

-- A Change waits after all decisions, though it could be decided: it is refused, or has an effect, or is a use that
-- meets a pinned token.
pub record LeavesUndecided
    (script : Script) (start : Tree) (v : ServerId) (steps : List Step) (past : List Doing) (s : Step) : Type 0 where
  pub w : Wanted
  pub c : ChangeOf
  pub waits : IsQueued (after_deciding s past) w
  pub request : w.request ≡ Changes c
  pub due : (CanDecide v (after_deciding s past) w
      × (((refusal : Refusal) × RefusedOn (kept_now start v steps s) w.host c refusal)
      ⊎ ((has_effect c ≡ true) × NotRefused (kept_now start v steps s) w.host c)))
      ⊎ (CanRefuse v (after_deciding s past) w × IsOfRow (kept_now start v steps s) w c
      × NotRefused (kept_now start v steps s) w.host c)

-- A lock, an open file or a fileset to enter, which nothing refuses, waits at the end of a step though it can be
-- granted; or a use whose path names another file now waits though it could be decided.
pub record LeavesUngranted
    (script : Script) (start : Tree) (v : ServerId) (steps : List Step) (past : List Doing) (s : Step) : Type 0 where
  pub w : Wanted
  pub c : ChangeOf
  pub waits : IsQueued (after_step s past) w
  pub request : w.request ≡ Changes c
  pub accepted : NotRefused (kept_now start v steps s) w.host c
  pub due : (CanGrant v (after_step s past) w × ((is_use c.call ≡ true) ⊎ (c.enter ≡ true)))
      ⊎ ((is_use c.call ≡ true) × CanDecide v (after_step s past) w × (IsOfRow (kept_now start v steps s) w c → ⊥))

-- a token in the way of a want hasn't been asked back at the end of a step
abbrev pub LeavesBlocked : ServerId → List Doing → Step → Type 0
LeavesBlocked v past s =
    (t : Token) × IsAskedBack v (after_step s past) t × (HasRevoked (after_step s past) t → ⊥)

-- two Revokes of a step name one token
abbrev pub RevokesTwice : ServerId → List Doing → Step → Type 0
RevokesTwice v past s = (h : HostId) × (r q : RevokeOf) × (i : TokenId) × SentNow s h (Revoke r)
    × SentNow s h (Revoke q) × In i r.ids × In i q.ids × (r ≢ q)

-- a new request makes no want
abbrev pub ForgetsRequest : ServerId → List Doing → Step → Type 0
ForgetsRequest v past s = (h : HostId) × (n : ℕ) × (r : Request)
    × IsNewRequest v past (after_cause s.cause past) s h n r × (s.applied ≡ [])

-- a claim that counts isn't admitted, or isn't answered
pub record LeavesClaim (v : ServerId) (past : List Doing) (s : Step) : Type 0 where
  pub h : HostId
  pub n : ℕ
  pub claim : ReclaimOf
  pub took : TookNow (after_cause s.cause past) h n (Reclaim claim)
  pub first : HasReclaimed past h → ⊥
  pub live : IsLive (after_cause s.cause past) h
  pub whole : HasTakenGives v (after_cause s.cause past) h claim
  pub none : (s.admitted ≡ []) ⊎ (s.sent ≡ [])

-- a live host that came on the list in an older epoch says Hello, and isn't told of the restart
abbrev pub WelcomesOld : ServerId → List Doing → Step → Type 0
WelcomesOld v past s = (h : HostId) × HeardNow s h Hello × IsLive past h × (ListedNow past h → ⊥)
    × (SentNow s h Restarted → ⊥)

-- somebody is told of a restart who isn't live
abbrev pub TellsStranger : ServerId → List Doing → Step → Type 0
TellsStranger v past s = (h : HostId) × SentNow s h Restarted × (IsLive past h → ⊥)

-- a host is told of a restart that speaks in the present epoch, and says no Hello; or at a lapse, though it has
-- reclaimed
abbrev pub TellsAgain : ServerId → List Doing → Step → Type 0
TellsAgain v past s = (h : HostId) × SentNow s h Restarted
    × (((m : Message) × (s.cause ≡ Came m) × (m.epoch ≡ epoch past) × (m.body ≢ Hello))
    ⊎ ((s.cause ≡ Lapse) × HasReclaimed past h))

-- at a lapse it answers what didn't come: a give-back, a claim or a greeting, a Bye, a Change
abbrev pub GivesUnasked : ServerId → List Doing → Step → Type 0
GivesUnasked v past s = (h : HostId) × (n : AppliedGive) × SentNow s h (Gone n) × (s.cause ≡ Lapse)

abbrev pub WelcomesUnasked : ServerId → List Doing → Step → Type 0
WelcomesUnasked v past s =
    (h : HostId) × (answer : ReclaimedOf) × SentNow s h (Reclaimed answer) × (s.cause ≡ Lapse) × (s.admitted ≡ [])

abbrev pub EndsUnasked : ServerId → List Doing → Step → Type 0
EndsUnasked v past s = (h : HostId) × SentNow s h Bye × (s.cause ≡ Lapse)

abbrev pub SettlesUnasked : ServerId → List Doing → Step → Type 0
SettlesUnasked v past s = (h : HostId) × (d : DoneOf) × SentNow s h (Done d) × (s.cause ≡ Lapse)
    × ((w : Wanted) → IsQueued past w → ⊥)

-- a line that is no restart does something; another line than `restart` restarts
abbrev pub LineDoes : ServerId → List Doing → Step → Type 0
LineDoes v past s = (n : ℕ) × (s.cause ≡ LineOf n) × (IsBareStep s → ⊥)

abbrev pub RestartsByOther : Script → Tree → ServerId → List Step → List Doing → Step → Type 0
RestartsByOther script start v steps past s = (n : ℕ) × (s.cause ≡ Restart n)
    × ((line : Line) → IsNextLine (lines_of script (Server v)) steps n line → line.deed ≡ Restarts → ⊥)

pub record ServersDo : Type 0 where
  pub news : NeverAt ForgetsRequest
  pub undecided : NeverFrom LeavesUndecided
  pub ungranted : NeverFrom LeavesUngranted
  pub blocked : NeverAt LeavesBlocked
  pub revokes_twice : NeverAt RevokesTwice
  pub claims : NeverAt LeavesClaim
  pub welcomes_old : NeverAt WelcomesOld
  pub twice : NeverAt (λ v past s. SaysTwice past s)
  pub restarted : NeverAt TellsStranger
  pub restarted_again : NeverAt TellsAgain
  pub gones : NeverAt GivesUnasked
  pub reclaimed : NeverAt WelcomesUnasked
  pub byes : NeverAt EndsUnasked
  pub dones : NeverAt SettlesUnasked
  pub lines : NeverAt LineDoes
  pub restarts : NeverFrom RestartsByOther
