-- What the laws say of the run that is worked out.
use Rattle.run_examples.specs.Journal.{journal, start}
use Rattle.run_rules.specs.Runs.{IsValid, firsts_of, past_of}
use Rattle.run_tokens.specs.Pasts.{IsLegalPast, tree_at}
use Rattle.run_tokens.specs.CacheLaws.{CachedExactly}
use Rattle.run_history.specs.Past.{IsThroughout}
use Rattle.run_parts.specs.Contents.{Contents}
use Rattle.run_contents.specs.Instance.{IsOfRun}

pub record IsCarried : Type 0 where
  pub legal : IsLegalPast start (past_of journal)
  pub tree : (c : Contents) → IsOfRun start (firsts_of journal) c
      → IsThroughout start (firsts_of journal) c (past_of journal)
  pub cached : CachedExactly start (past_of journal)
  -- it is ended, so another run may start from its tree
  pub left : IsValid (tree_at start (past_of journal))
