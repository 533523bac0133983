-- In a run each host's steps meet the rules of contents.
use Rattle.std.proofs.Common.{ℕ, List, [], ◌∷◌}
use Rattle.base_types.specs.declared.ids.HostId.{HostId}
use Rattle.base_types.specs.declared.ids.Node.{Node}
use Rattle.base_types.specs.declared.ids.Node.TheVariants.{Host, Server}
use Rattle.base_types.specs.declared.ids.ServerId.{ServerId}
use Rattle.tree_answers.specs.declared.tree.Tree.{Tree}
use Rattle.script_lines.specs.declared.script.Script.{Script}
use Rattle.run_rules.specs.Doings.{doings_of}
use Rattle.run_rules.specs.Runs.{StepMeets, StepsMeet, firsts_of, past_of}
use Rattle.run_rules.specs.Steps.{steps_of_host}
use Rattle.run_parts.specs.Contents.{Contents, HostShows}
use Rattle.run_contents.proofs.Answers.{writes', writes_below', writes_file', writes_kept', writes_only'}
use Rattle.run_contents.proofs.Asks.{fetches_so}
use Rattle.run_contents.proofs.Gives.{gives_show}
use Rattle.run_contents.proofs.Grants.{bring_needs}
use Rattle.run_contents.proofs.Runs.{own_run}
use Rattle.run_contents.proofs.Sends.{show_nothing}
use Rattle.run_contents.proofs.Servers.{heard, sensible}
use Rattle.run_contents.proofs.Stays.{takes_stay}
use Rattle.run_contents.proofs.Takes.{takes_show}
use Rattle.run_contents.proofs.Writes.{writes_grow}
use Rattle.run_contents.specs.Laws.{AtNode, EachOwn, HoldsInRuns}
use Rattle.run_contents.specs.Steps.{IsOfJournal}
use Rattle.run_rules.specs.declared.step.Step.{Step}

module _ (script : Script) (start : Tree) (firsts : ServerId → ℕ) (c : Contents) (same : IsOfJournal c) where
  pub host_shows : (h : HostId) (past : List Step) (s : Step) → StepsMeet script start firsts past
      → StepMeets script start firsts (Host h) past s → HostShows c (steps_of_host h past) s
  host_shows h past s steps m =
      let A = steps_of_host h past in
      let run = own_run script start firsts past steps h in
      record {
        takes = takes_show c same script h A s run m.0;
        gives = gives_show c same script h A s run m.0;
        grown = writes_grow c same script h A s run m.0;
        takes_stay = λ t i l. takes_stay script h A s run m.0 (λ v. doings_of (firsts v) v past)
            (sensible firsts past (bring_needs script start firsts past steps)
            (show_nothing script start firsts past steps))
            (λ x cause. (m.1 x cause).2) (λ v e n b i. heard h e n b script start firsts past steps v i) t i l;
        writes = writes' c same script h A s run m.0;
        writes_file = writes_file' c same script h A s run m.0;
        writes_only = writes_only' c same script h A s run m.0;
        writes_kept = writes_kept' c same script h A s run m.0;
        writes_below = writes_below' c same script h A s run m.0;
        fetches = fetches_so c same script h A s run m.0;
      }

  at_node : (n : Node) (past : List Step) (s : Step) → StepsMeet script start firsts past
      → StepMeets script start firsts n past s → AtNode (HostShows c) n past s
  at_node (Host h) past s steps m = host_shows h past s steps m
  at_node (Server v) past s steps m = tt

  pub each_shows : (past : List Step) → StepsMeet script start firsts past → EachOwn (HostShows c) past
  each_shows [] steps = tt
  each_shows (s ∷ past) steps = (each_shows past steps.0, at_node s.node past s steps.0 steps.1.0)

pub hosts_show : HoldsInRuns HostShows
hosts_show c script journal same run =
    each_shows script run.start (firsts_of journal) c same (past_of journal) run.steps
