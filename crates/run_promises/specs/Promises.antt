-- What a run of a script by hosts and servers promises.
use Rattle.std.specs.Prelude.{List, [], length, ◌∷◌, ◌≡◌}
use Rattle.base_types.specs.declared.ids.HostId.{HostId}
use Rattle.base_types.specs.declared.ids.Node.TheVariants.{Host}
use Rattle.tree_answers.specs.Histories.{IsHistory, after_history}
use Rattle.tree_answers.specs.declared.tree.Tree.{Tree}
use Rattle.script_lines.specs.Asks.{call_lines}
use Rattle.script_lines.specs.Sound.{IsSound}
use Rattle.script_lines.specs.declared.script.Script.{Script}
use Rattle.script_output.specs.Reports.{answers_to}
use Rattle.token_types.specs.declared.token.Token.{Token}
use Rattle.run_rules.specs.Past.{Always}
use Rattle.run_rules.specs.Runs.{FlagsMet, IsDutiful, IsEnded, IsRun, IsValid, TakesPart, history_of, past_of}
use Rattle.run_rules.specs.Steps.{steps_of_host}
use Rattle.run_rules.specs.Tokens.{Drops}
use Rattle.run_rules.specs.declared.journal.Journal.{Journal}
use Rattle.run_rules.specs.declared.step.Step.{Step}
use Rattle.run_tokens.specs.CacheLaws.{CachedExactly, NeverInConflict}
use Rattle.run_answered.specs.Answered.{IsAnswered}
use Rattle.run_answered.specs.Printed.{TellsReplies}
use Rattle.run_leaving.specs.Leaving.{LeavesBy}
use Rattle.run_dump.specs.Shown.{IsDumped}

-- a journal is a run of a script, in which what is due is done, and which is ended
pub record HasRun (script : Script) (journal : Journal) : Type 0 where
  pub run : IsRun script journal
  pub dutiful : IsDutiful script journal
  pub ended : IsEnded script journal

-- the tree that the history of a journal leaves
abbrev pub last_tree : Tree → Journal → Tree
last_tree start journal = after_history start (history_of journal.steps)

-- what leaves a host in a step does so with cause; `past` are all earlier steps
abbrev pub LeavesWithCause : Script → List Step → Step → Type 0
LeavesWithCause script past s =
    (host : HostId) → s.node ≡ Host host → (t : Token) → Drops s t
    → LeavesBy script.roster host (steps_of_host host past) s t

-- What is true of each run of a script, in words on its history, its tree, its tokens and its output.
pub record Promises (script : Script) (journal : Journal) (start : Tree) : Type 0 where
  -- the history is legal on one file tree
  pub legal : IsHistory start (history_of journal.steps)
  -- each host's calls are answered once, numbered from 1: those of its lines, in their order, and then those that end
  -- what it has in use
  pub answered : (host : HostId) → TakesPart script (Host host) → IsAnswered script (history_of journal.steps) host
  -- what is printed of a host are the replies to the calls of its lines, and there is one for each such line
  pub told : (host : HostId) → TakesPart script (Host host) → TellsReplies script (history_of journal.steps) host
  pub lines : (host : HostId) → TakesPart script (Host host)
      → length (answers_to script (history_of journal.steps) host.0) ≡ call_lines script host.0
  -- a line that awaits a flag goes after the one that raises it, and the setup host's lines go first
  pub met : Always (FlagsMet script) (past_of journal)
  -- a call is answered from cache exactly where the host's tokens cover what it looks at
  pub cached : CachedExactly start (past_of journal)
  -- a token leaves a host with cause
  pub caused : Always (LeavesWithCause script) (past_of journal)
  -- no two hosts that haven't stopped hold conflicting tokens, after each step
  pub apart : NeverInConflict (past_of journal)
  -- what is printed of filesets shows the tree that the history leaves
  pub shown : IsDumped script start (history_of journal.steps)
  -- and another run may start from that tree
  pub left : IsValid (last_tree start journal)

-- Each run keeps them.
abbrev pub PromisesAreKept : Type 0
PromisesAreKept =
    (script : Script) (journal : Journal) (start : Tree) → IsSound script → HasRun script journal
    → journal.start ≡ start ∷ [] → Promises script journal start
