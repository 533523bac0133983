-- The run that is worked out, by the laws.
use Rattle.std.proofs.Common.{subst, ◌∷◌, ◌≡◌}
use Rattle.std.specs.Prelude.{[]}
use Rattle.tree_answers.specs.declared.tree.Tree.{Tree}
use Rattle.run_examples.proofs.Ended.{is_whole}
use Rattle.run_examples.specs.Journal.{journal, script, start}
use Rattle.run_rules.specs.Runs.{IsRun, IsValid, firsts_of, past_of}
use Rattle.run_tokens.specs.Pasts.{IsLegalPast, tree_at}
use Rattle.run_tokens.specs.CacheLaws.{CachedExactly}
use Rattle.run_history.proofs.EndedLaw.{ended_runs_may_be_followed}
use Rattle.run_history.proofs.Law.{caches_are_exact, histories_make_the_tree, runs_are_legal}
use Rattle.run_history.specs.Past.{IsThroughout}
use Rattle.run_history.specs.Worked.{IsCarried}
use Rattle.run_parts.specs.Contents.{Contents}
use Rattle.run_contents.specs.Instance.{IsOfRun}

run : IsRun script journal
run = is_whole.run

same_start : run.start ≡ start
same_start = let q : start ∷ [] ≡ run.start ∷ [] = run.starts in cc

pub is_carried : IsCarried
is_carried = record {
  legal = subst (λ (t : Tree). IsLegalPast t (past_of journal)) same_start (runs_are_legal script journal run);
  tree = subst (λ (t : Tree). (c : Contents) → IsOfRun t (firsts_of journal) c
      → IsThroughout t (firsts_of journal) c (past_of journal))
      same_start (histories_make_the_tree script journal run);
  cached = subst (λ (t : Tree). CachedExactly t (past_of journal)) same_start (caches_are_exact script journal run);
  left = subst (λ (t : Tree). IsValid (tree_at t (past_of journal))) same_start
      (ended_runs_may_be_followed script journal run is_whole.ended).0;
}
