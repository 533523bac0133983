-- What a run promises of its hosts' caches: calls are answered from cache exactly where tokens cover their need, and
-- tokens leave with cause. Lists of steps have the newest first.
use Rattle.std.specs.Prelude.{List, Some, [], true, ℕ, ◌∷◌, ◌≡◌}
use Rattle.base_types.specs.declared.ids.HostId.{HostId}
use Rattle.base_types.specs.declared.ids.Node.TheVariants.{Host}
use Rattle.tree_answers.specs.declared.tree.Tree.{Tree}
use Rattle.tree_calls.specs.declared.call.Call.{Call}
use Rattle.tree_calls.specs.declared.reply.Reply.{Reply}
use Rattle.need_host.specs.Calls.{reply_now}
use Rattle.tree_calls.specs.declared.roster.Roster.{Roster}
use Rattle.need_host.specs.Looks.{IsCovered, View, outcome, tree_view}
use Rattle.run_rules.specs.HostTokens.{HostLeaves}
use Rattle.run_rules.specs.Past.{Always, In}
use Rattle.run_tokens.specs.Pasts.{tree_at}
use Rattle.run_rules.specs.Steps.{limit_of, steps_of_host}
use Rattle.run_rules.specs.Tokens.{BeginsCall}
use Rattle.run_rules.specs.Views.{Stance, look_of}
use Rattle.run_rules.specs.declared.applied.Answer.{Answer}
use Rattle.run_rules.specs.declared.step.Step.{Step}
use Rattle.run_tokens.specs.TokenLaws.{NoConflict}

-- from where the host stands in the step, it can answer the call by itself on what a tree shows. `past` are its own
-- earlier steps
pub record CoveredOn (roster : Roster) (host : HostId) (past : List Step) (s : Step) (shown : View) (call : Call)
    : Type 0 where
  pub stance : Stance roster host past s
  pub reply : Reply
  pub covered : IsCovered stance.held shown (look_of stance call)
  pub settled : reply_now (outcome shown (look_of stance call)) ≡ Some reply

-- the step that begins a call answers it exactly where it can; it then sends nothing, and takes and drops no token
pub record CachedOn (roster : Roster) (host : HostId) (past : List Step) (s : Step) (shown : View) : Type 0 where
  pub covered : (k : ℕ) (call : Call) → BeginsCall s k call → CoveredOn roster host past s shown call
      → (a : Answer) × In a s.answers × (a.k ≡ k) × (a.first ≡ true)
  pub first : (a : Answer) → In a s.answers → a.first ≡ true
      → BeginsCall s a.k a.call × CoveredOn roster host past s shown a.call
  pub quiet : (a : Answer) → In a s.answers → a.first ≡ true → (s.sent ≡ []) × (s.taken ≡ []) × (s.dropped ≡ [])

-- it does so on the tree before the step, which all steps before it have left
abbrev pub CachedAt : Tree → HostId → List Step → Step → Type 0
CachedAt start host past s =
    CachedOn start.roster host (steps_of_host host past) s (tree_view (tree_at start past))

-- so it is in each step of a host
abbrev pub CachedExactly : Tree → List Step → Type 0
CachedExactly start past = Always (λ before s. (host : HostId) → s.node ≡ Host host → CachedAt start host before s) past

-- in each step what leaves a host does so with cause
abbrev pub DroppedWithCause : Tree → List Step → Type 0
DroppedWithCause start past = Always (λ before s. (host : HostId) → s.node ≡ Host host
    → HostLeaves start.roster host (limit_of start.roster host) (steps_of_host host before) s) past

-- after each step no two hosts that haven't stopped hold conflicting tokens
abbrev pub NeverInConflict : List Step → Type 0
NeverInConflict [] = NoConflict []
NeverInConflict (s ∷ past) = NeverInConflict past × NoConflict (s ∷ past)
