use Rattle.run_rules.specs.Runs.{firsts_of, past_of}
use Rattle.run_parts.proofs.LabelLaw.{locked_granted, locks_apart, pinned_locked}
use Rattle.run_contents.proofs.Uses.{run_tokens, run_uses}
use Rattle.run_contents.proofs.laws.labels_are_coherent.Goals as goal

pub returns : goal.returns
returns c = record {
  granted = λ script journal run.
      locked_granted (firsts_of journal) (past_of journal) (run_tokens script journal run) (run_uses script journal run);
  apart = λ script journal run.
      locks_apart (firsts_of journal) (past_of journal) (run_tokens script journal run) (run_uses script journal run);
  pinned = λ script journal run.
      pinned_locked (firsts_of journal) (past_of journal) (run_tokens script journal run) (run_uses script journal run);
}
