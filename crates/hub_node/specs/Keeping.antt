-- What a node keeps to with each step that it makes, and with all that it has made.
use Rattle.std.specs.Prelude.{List, ℕ, true, ◌++◌, ◌+◌, ◌≡◌, ◌≤◌}
use Rattle.base_types.specs.declared.ids.Node.{Node}
use Rattle.message_types.specs.Soundness.{IsSound}
use Rattle.message_types.specs.declared.message.Message.{Message}
use Rattle.script_lines.specs.Sound.{same_node}
use Rattle.script_lines.specs.declared.script.Deed.TheVariants.{Await}
use Rattle.script_lines.specs.declared.script.Line.{Line}
use Rattle.run_rules.specs.Past.{Always, EachInTurn, In, appended}
use Rattle.run_rules.specs.Runs.{IsFrom, IsLine}
use Rattle.run_rules.specs.Steps.{lines_of}
use Rattle.run_rules.specs.declared.step.Cause.TheVariants.{Line as LineOf}
use Rattle.run_rules.specs.declared.step.Step.{Step}
use Rattle.hub_board.specs.Follows.{setup_node}
use Rattle.hub_board.specs.Hubs.{may_begin}
use Rattle.hub_laws.specs.Beginnings.{Rests, WasBegun}
use Rattle.hub_laws.specs.Keeping.{LineGoes, Round, WasTold, lapses_given, lapses_taken, messages_given, messages_taken}
use Rattle.hub_laws.specs.Keeping.{steps_in}
use Rattle.hub_laws.specs.Taking.{Embeds}
use Rattle.hub_node.specs.Nodes.{Beginning, Knows, OwnMeets, Part}

-- A step is the node's own, and so is what it sends, which is sound; its line is the node's next, and awaits no flag of
-- which the node wasn't told in these rounds; a host's lines wait for the setup host, which greets nobody once it is
-- done.
pub record StepKeeps (run : Beginning) (node : Node) (past : List Round) (own : List Step) (s : Step) : Type 0 where
  pub own_is : s.node ≡ node
  pub line : LineGoes (lines_of run.script node) own s
  pub awaits : (n : ℕ) (line : Line) (flag : List ℕ) → s.cause ≡ LineOf n → IsLine run.script node n line
      → line.deed ≡ Await flag → WasTold past flag
  pub sends : (m : Message) → In m s.sent → IsFrom node m × IsSound run.script.roster m
  pub waits : may_begin node ≡ true → (n : ℕ) → s.cause ≡ LineOf n → WasBegun past
  pub rests : same_node node setup_node ≡ true → Rests run.script own s

-- A node has kept to what it was given: so has each of the steps that it made since it handed any in; messages and
-- lapses that are causes of its steps were given, and so were, beside them, some that it may take still; and all its
-- steps meet its rules, those of a server where it is known what its store keeps.
pub record HasKeptOn (tells : Type 0) (part : Part) (past : List Round) (made : List Step) (came : List Message)
    (lapses : ℕ) : Type 0 where
  pub steps : EachInTurn (StepKeeps part.run part.node past) made (steps_in past)
  pub all_own : (s : Step) → In s (appended made (steps_in past)) → s.node ≡ part.node
  pub messages : Embeds (came ++ messages_taken (appended made (steps_in past))) (messages_given past)
  pub lapsed : lapses + lapses_taken (appended made (steps_in past)) ≤ lapses_given past
  pub meets : Knows tells part.node → Always (OwnMeets part.run part.node) (appended made (steps_in past))
