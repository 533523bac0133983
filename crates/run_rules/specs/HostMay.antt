-- What a host may do: how it answers calls, how its lines go, and all that stood before. All safety rests on it. `past`
-- is the host's own earlier steps.
use Rattle.std.specs.Prelude.{Bool, List, None, Some, [], false, length, suc, true, ℕ, ◌∷◌, ◌≡◌, ◌≤◌, ◌⊎◌}
use Rattle.base_types.specs.declared.ids.Fid.{Fid}
use Rattle.base_types.specs.declared.ids.FilesetId.{FilesetId}
use Rattle.base_types.specs.declared.ids.HostId.{HostId}
use Rattle.base_types.specs.declared.ids.Node.TheVariants.{Host}
use Rattle.base_types.specs.declared.ids.OpenKind.{OpenKind}
use Rattle.base_types.specs.declared.ids.ServerId.{ServerId}
use Rattle.base_types.specs.declared.span.Span.{Span}
use Rattle.tree_calls.specs.declared.call.Call.{Call}
use Rattle.tree_calls.specs.declared.call.Call.TheVariants.{Lock, OpenFile}
use Rattle.tree_calls.specs.declared.reply.Reply.{Reply}
use Rattle.tree_calls.specs.declared.reply.Reply.TheVariants.{Ok as Fine}
use Rattle.tree_calls.specs.declared.roster.Roster.{Roster}
use Rattle.token_types.specs.declared.token.Kind.TheVariants.{Lock as LockToken, Opening}
use Rattle.token_types.specs.declared.token.Token.{Token}
use Rattle.script_lines.specs.declared.script.Deed.{Deed}
use Rattle.script_lines.specs.declared.script.Deed.TheVariants.{Await, Call as MakesCall, Raise, Restart as Restarts}
use Rattle.script_lines.specs.declared.script.Deed.TheVariants.{Stop}
use Rattle.script_lines.specs.declared.script.Line.{Line}
use Rattle.script_lines.specs.declared.script.Script.{Script}
use Rattle.message_types.specs.declared.giving.Reclaim.{Reclaim as ReclaimOf}
use Rattle.message_types.specs.declared.giving.Reclaimed.{Reclaimed as ReclaimedOf}
use Rattle.message_types.specs.declared.message.Body.TheVariants.{Bye, Down, Reclaim, Reclaimed, Restarted}
use Rattle.need_host.specs.Calls.{reply_now}
use Rattle.need_host.specs.Calls.Verdict.{Locks, Opens, Writes}
use Rattle.run_rules.specs.HostAsks.{HostAsks}
use Rattle.run_rules.specs.HostTokens.{HostGives, HostLeaves, HostRevoked, HostTakes, HostTokens, MayEvict}
use Rattle.run_rules.specs.Messages.{Asking, Changing, Comes, ComesIn, HasGreeted, HasSaid, RaisesEpoch, Says, Sends}
use Rattle.run_rules.specs.Messages.{Stops}
use Rattle.run_rules.specs.Past.{In, Since}
use Rattle.run_rules.specs.Steps.{IsBareStep, IsNextLine, limit_of, lines_gone, lines_of, servers_of}
use Rattle.run_rules.specs.Tokens.{AtHand, BeginsCall, CallGoesOn, Drops, HasCall, Held, LabelInUse, NoneOpen}
use Rattle.run_rules.specs.Tokens.{calls_begun, end_of}
use Rattle.run_rules.specs.Views.{IsCoveredIn, Stance, verdict_in}
use Rattle.run_rules.specs.declared.applied.Answer.{Answer}
use Rattle.run_rules.specs.declared.step.Asked.{Asked}
use Rattle.run_rules.specs.declared.step.Cause.TheVariants.{End, Flushed, Lapse, Line as LineOf, Restart}
use Rattle.run_rules.specs.declared.step.Labelled.{Labelled}
use Rattle.run_rules.specs.declared.step.Step.{Step}

-- # How calls are answered: on the view, under the tokens that the host has

-- the host can answer the call by itself, with this reply
pub record CanAnswer
    (roster : Roster) (host : HostId) (past : List Step) (s : Step) (stance : Stance roster host past s)
    (call : Call) (reply : Reply) : Type 0 where
  pub covered : IsCoveredIn stance call
  pub settled : reply_now (verdict_in stance call) ≡ Some reply

-- the label and the token are those of a lock or open call
abbrev pub IsExact : Call → Labelled → Type 0
IsExact (Lock label place writing from len) usage =
    (usage.label ≡ label) × ((span : Span) × (usage.token.kind ≡ LockToken writing span))
IsExact (OpenFile label place kind) usage = (usage.label ≡ label) × (usage.token.kind ≡ Opening kind)
IsExact _ usage = ⊥

-- How a step answers the call that it begins, or that goes on.
pub record HostAnswers
    (roster : Roster) (host : HostId) (past : List Step) (s : Step) (stance : Stance roster host past s) : Type 0 where
  -- it answers exactly where it can, and the reply is the call table's on the view
  pub answers : (a : Answer) → In a s.answers
      → (a.host ≡ host) × HasCall past s a.k a.call × CanAnswer roster host past s stance a.call a.reply
  pub answers_all : (k : ℕ) (call : Call) (reply : Reply) → HasCall past s k call
      → CanAnswer roster host past s stance call reply → (a : Answer) × In a s.answers × (a.k ≡ k)
  -- it is the first step of the call, or the call went on; a call that is answered at once isn't left open
  pub first : (a : Answer) → In a s.answers → (a.first ≡ true) ⊎ ((a.first ≡ false) × CallGoesOn past s a.k a.call)
  pub asked : (a : Answer) (c : Asked) → In a s.answers → s.asked ≡ Some c → ⊥
  -- at most one call, and no request is outstanding then
  pub answers_one : length s.answers ≤ 1
  pub answers_alone : (a : Answer) (fileset : FilesetId) (n : ℕ) → In a s.answers → Asking (s ∷ past) fileset n → ⊥
  pub answers_settled : (a : Answer) (v : ServerId) (fileset : FilesetId) (n : ℕ) → In a s.answers
      → Changing (s ∷ past) v fileset n → ⊥
  -- such a step keeps what the host has: nothing leaves it, and nothing is given back
  pub keeps : (a : Answer) → In a s.answers → (s.dropped ≡ []) × (s.made ≡ [])
  -- a call that is answered in the step that begins it is answered in silence
  pub quiet : (a : Answer) → In a s.answers → a.first ≡ true → s.sent ≡ []
  -- an answered Write changes the file that its walk found, and nothing else does
  pub writes : (a : Answer) (fid : Fid) (from : ℕ) (bytes : List ℕ) → In a s.answers
      → verdict_in stance a.call ≡ Writes fid from bytes → s.wrote ≡ Some fid
  pub writes_only : (fid : Fid) → s.wrote ≡ Some fid
      → (a : Answer) × (from : ℕ) × (bytes : List ℕ) × In a s.answers
      × (verdict_in stance a.call ≡ Writes fid from bytes)
  -- an answered Lock or OpenFile takes its label, with the exact token on the file that its walk found
  pub locks : (a : Answer) (fid : Fid) (writing : Bool) (span : Span) → In a s.answers
      → verdict_in stance a.call ≡ Locks fid writing span
      → (u : Labelled) × In u s.begun × IsExact a.call u × (u.token.fid ≡ fid) × (u.token.kind ≡ LockToken writing span)
  pub opens : (a : Answer) (fid : Fid) (kind : OpenKind) → In a s.answers → verdict_in stance a.call ≡ Opens fid kind
      → (u : Labelled) × In u s.begun × IsExact a.call u × (u.token.fid ≡ fid)
  pub begins : (u : Labelled) → In u s.begun
      → (a : Answer) × In a s.answers × (a.reply ≡ Fine) × IsExact a.call u × AtHand s past u.token
  pub begins_one : (u w : Labelled) → In u s.begun → In w s.begun → u ≡ w

-- # Claims

-- the host's claim waits: it was sent in the present epoch, and no Reclaimed has come since
abbrev pub AwaitsReclaimed : List Step → ServerId → Type 0
AwaitsReclaimed [] server = ⊥
AwaitsReclaimed (s ∷ past) server =
    (((e n : ℕ) × (claim : ReclaimOf) × Sends s server e n (Reclaim claim))
    ⊎ (AwaitsReclaimed past server × (RaisesEpoch past s server → ⊥)))
    × ((answer : ReclaimedOf) → Comes past s server (Reclaimed answer) → ⊥)

-- the step learns that a server it has greeted restarted: a Restarted comes, of a higher epoch than the host's
abbrev pub LearnsRestart : List Step → Step → ServerId → Type 0
LearnsRestart past s v = HasGreeted past v × RaisesEpoch past s v × ((e n : ℕ) × ComesIn s v e n Restarted)

-- the step sends the server a claim
abbrev pub ClaimsAt : Step → ServerId → Type 0
ClaimsAt s v = (e n : ℕ) × (claim : ReclaimOf) × Sends s v e n (Reclaim claim)

pub record HostResends (past : List Step) (s : Step) : Type 0 where
  -- it claims where a server has restarted, and again at a lapse while the claim waits
  pub claims_only : (v : ServerId) → ClaimsAt s v
      → LearnsRestart past s v ⊎ ((s.cause ≡ Lapse) × AwaitsReclaimed past v)

-- # Lines, and the end

-- What a line makes a host do. A call has the next number. A stop says Down to each server and drops what is held, and
-- in it no call is begun or answered, and nothing is given back.
abbrev pub DoesLine : List ServerId → List Step → Step → Deed → Type 0
DoesLine servers past s (MakesCall call) = BeginsCall s (suc (calls_begun past)) call
DoesLine servers past s (Raise flag) = IsBareStep s
DoesLine servers past s (Await flag) = IsBareStep s
DoesLine servers past s Stop = ((v : ServerId) → In v servers → Says s v Down) × ((t : Token) → Held past t → Drops s t)
    × (s.asked ≡ None) × (s.answers ≡ []) × (s.made ≡ [])
DoesLine servers past s Restarts = ⊥

pub record HostLines (lines : List Line) (servers : List ServerId) (limit : ℕ) (past : List Step) (s : Step)
    : Type 0 where
  -- its lines go in order, once each, only while no call is open and nothing may be evicted
  pub next : (n : ℕ) → s.cause ≡ LineOf n
      → (line : Line) × IsNextLine lines past n line × DoesLine servers past s line.deed
  pub free : (n : ℕ) → s.cause ≡ LineOf n → NoneOpen past × (MayEvict past limit → ⊥)
  -- calls begin by lines, and implied ones at the end; a Down is of the line `stop`
  pub begins : (k : ℕ) (call : Call) → BeginsCall s k call → ((n : ℕ) × (s.cause ≡ LineOf n)) ⊎ (s.cause ≡ End)
  pub stops : Stops s
      → (n : ℕ) × (line : Line) × (s.cause ≡ LineOf n) × IsNextLine lines past n line × (line.deed ≡ Stop)
  -- it makes no server's steps
  pub no_server : ((n : ℕ) → s.cause ≡ Restart n → ⊥) × (s.cause ≡ Flushed → ⊥)
  pub applies_none : (s.applied ≡ []) × (s.admitted ≡ []) × (s.reserved ≡ [])

-- of two labels in use the first was taken before the other: while it was in use the other was last taken
abbrev pub TakenBefore : List Step → Labelled → Labelled → Type 0
TakenBefore past u other = Since (λ before s. In other s.begun × LabelInUse before u) (λ before s. In u s.begun) past

-- When its lines have gone a host ends the use of its labels, in the order in which they were taken, by implied
-- calls; then it gives back and returns all that it holds; then it says Bye to each server that it greeted.
pub record HostEnds (lines : List Line) (limit : ℕ) (past : List Step) (s : Step) : Type 0 where
  pub after : s.cause ≡ End → (lines_gone past ≡ length lines) × NoneOpen past × (MayEvict past limit → ⊥)
  -- an implied call has the next number, and ends the use of the label that was taken first
  pub implied : (k : ℕ) (call : Call) → s.cause ≡ End → BeginsCall s k call → (k ≡ suc (calls_begun past))
      × ((u : Labelled) × LabelInUse past u × (call ≡ end_of u)
      × ((other : Labelled) → LabelInUse past other → TakenBefore past other u → ⊥))
  -- a Bye goes to a server that was greeted, when nothing is held, and again at a lapse or when the server has
  -- restarted
  pub bye : (v : ServerId) → Says s v Bye
      → HasGreeted past v × ((t : Token) → Held (s ∷ past) t → ⊥) × ((s.cause ≡ End) ⊎ HasSaid past v Bye)

pub record HostMay (script : Script) (host : HostId) (past : List Step) (s : Step) : Type 0 where
  pub tokens : HostTokens past s
  pub takes : HostTakes past s
  pub stance : Stance script.roster host past s
  pub answers : HostAnswers script.roster host past s stance
  pub asks : HostAsks script.roster host past s stance
  pub gives : HostGives past s
  pub revoked : HostRevoked past s
  pub resends : HostResends past s
  pub leaves : HostLeaves script.roster host (limit_of script.roster host) past s
  pub lines : HostLines (lines_of script (Host host)) (servers_of script.roster) (limit_of script.roster host) past s
  pub ends : HostEnds (lines_of script (Host host)) (limit_of script.roster host) past s
