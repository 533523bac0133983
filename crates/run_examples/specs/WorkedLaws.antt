-- What is so of the run.
use Rattle.tree_calls.specs.declared.reply.Reply.TheVariants.{Bytes}
use Rattle.tree_answers.specs.Answers.{answer_to}
use Rattle.tree_answers.specs.Histories.{IsHistory, after_history, lost_in}
use Rattle.run_examples.specs.Steps.{other}
use Rattle.run_examples.specs.Journal.{entries, journal, reads, script, start}
use Rattle.std.specs.Prelude.{[], codes, ◌≡◌}
use Rattle.run_rules.specs.Plans.{IsPlanned}
use Rattle.run_rules.specs.Runs.{IsDutiful, IsEnded, IsRun, history_of}

pub record IsWhole : Type 0 where
  -- all rules admit it, and what is due is done; it keeps to the plan of its script; and it is ended
  pub run : IsRun script journal
  pub dutiful : IsDutiful script journal
  pub planned : IsPlanned script journal
  pub ended : IsEnded script journal
  -- its history is this one
  pub history : history_of journal.steps ≡ entries
  -- each reply and each store is what the tree says at that point, and nothing is lost
  pub legal : IsHistory start entries
  pub lost : lost_in start entries ≡ []
  -- at the end the file has what was written, and nothing is locked
  pub kept : (answer_to (after_history start entries) other reads).reply ≡ Bytes (codes "ab")
  pub free : (after_history start entries).locks ≡ []
