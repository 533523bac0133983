-- What the rules of hosts say of each step of a run.
use Rattle.std.proofs.Common.{◌≡◌, ℕ, List, [], ◌∷◌, sym, subst}
use Rattle.base_types.specs.declared.ids.HostId.{HostId}
use Rattle.base_types.specs.declared.ids.Node.{Node}
use Rattle.base_types.specs.declared.ids.Node.TheVariants.{Host}
use Rattle.base_types.specs.declared.ids.ServerId.{ServerId}
use Rattle.tree_calls.specs.declared.roster.Roster.{Roster}
use Rattle.tree_answers.specs.declared.tree.Tree.{Tree}
use Rattle.script_lines.specs.declared.script.Script.{Script}
use Rattle.run_rules.specs.HostMay.{HostMay}
use Rattle.run_rules.specs.HostTokens.{HostLeaves}
use Rattle.run_rules.specs.Runs.{StepMeets, StepsMeet}
use Rattle.run_rules.specs.Steps.{limit_of, steps_of_host}
use Rattle.run_tokens.specs.CacheLaws.{DroppedWithCause}
use Rattle.run_contents.proofs.Calls.{begins_free, begins_next, one_open, open_last}
use Rattle.run_contents.proofs.Runs.{own_run}
use Rattle.run_contents.specs.Calls.{CallsInOrder, OneIsOpen}
use Rattle.run_contents.specs.Steps.{HostRun}
use Rattle.run_rules.specs.declared.step.Step.{Step}

module _ (script : Script) (start : Tree) (firsts : ServerId → ℕ) where
  meets : (past : List Step) (s : Step) (host : HostId) → StepMeets script start firsts s.node past s
      → s.node ≡ Host host → HostMay script host (steps_of_host host past) s
  meets past s host m is = (subst (λ (n : Node). StepMeets script start firsts n past s) is m).0

  pub dropped : (past : List Step) → StepsMeet script start firsts past → start.roster ≡ script.roster
      → DroppedWithCause start past
  dropped [] run roster = tt
  dropped (s ∷ past) run roster = (
    dropped past run.0 roster,
    λ host is. subst (λ (r : Roster). HostLeaves r host (limit_of r host) (steps_of_host host past) s) (sym roster)
        (meets past s host run.1.0 is).leaves,
  )

  pub in_order : (past : List Step) → StepsMeet script start firsts past → CallsInOrder past
  in_order [] run = tt
  in_order (s ∷ past) run = (
    in_order past run.0,
    λ host is k call b.
        let m = meets past s host run.1.0 is in
        (begins_free script host (steps_of_host host past) s m k call b, begins_next script host (steps_of_host host past) s m k call b),
  )

  pub one_is_open : (past : List Step) → StepsMeet script start firsts past → OneIsOpen past
  one_is_open [] run = tt
  one_is_open (s ∷ past) run = (
    one_is_open past run.0,
    λ host is a b p q.
        let all : HostRun script host (s ∷ steps_of_host host past) =
        (own_run script start firsts past run.0 host, meets past s host run.1.0 is) in
        (one_open script host (s ∷ steps_of_host host past) all a b p q, open_last script host (s ∷ steps_of_host host past) all a p),
  )
