-- Where a host stands in a run, as a node.
use Rattle.std.specs.Prelude.{List, Some, [], false, length, true, ℕ, ◌∷◌, ◌++◌, ◌≡◌, ◌≤◌, ◌⊎◌}
use Rattle.base_types.specs.declared.ids.HostId.{HostId}
use Rattle.base_types.specs.declared.ids.Node.{Node}
use Rattle.base_types.specs.declared.ids.Node.TheVariants.{Host, Server}
use Rattle.host_manager.specs.Spoken.{IsFree, tables_of}
use Rattle.host_node.specs.Between.{Holds, IsToldOf}
use Rattle.host_node.specs.declared.between.Spoken.{Spoken}
use Rattle.host_node.specs.declared.host.HostNode.{HostNode}
use Rattle.host_tables.specs.Machine.{IsParted}
use Rattle.host_manager.specs.Running.{IsAskable, IsRunning}
use Rattle.hub_board.specs.Hubs.{may_begin}
use Rattle.hub_board.specs.declared.given.Given.{Given}
use Rattle.hub_laws.specs.Beginnings.{WasBegun}
use Rattle.hub_laws.specs.Keeping.{Round, WasTold, steps_in}
use Rattle.hub_node.specs.Keeping.{HasKeptOn}
use Rattle.hub_node.specs.Lines.{next_of}
use Rattle.hub_node.specs.Nodes.{Part}
use Rattle.message_types.specs.declared.message.Message.{Message}
use Rattle.run_rules.specs.Messages.{HasStopped}
use Rattle.run_rules.specs.Past.{In, appended}
use Rattle.run_rules.specs.Steps.{lines_gone, lines_of}
use Rattle.run_rules.specs.declared.step.Step.{Step}
use Rattle.script_lines.specs.Sound.{IsSound}
use Rattle.script_lines.specs.declared.script.Deed.TheVariants.{Call as MakesCall}
use Rattle.script_lines.specs.declared.script.Line.{Line}
use Rattle.script_lines.specs.declared.script.Script.{Script}
use Rattle.tree_calls.specs.declared.call.Call.{Call}

-- the host that a node is
abbrev pub host_of : Node → HostId
host_of (Host host) = host
host_of (Server server) = record { 0 = 0 }

-- a script that hosts can play: each call of its lines is at declared servers, and within the limits
pub record IsPlayable (script : Script) : Type 0 where
  pub sound : IsSound script
  pub askable : (line : Line) → In line script.setup ⊎ In line script.lines → IsAskable script.roster line.deed

-- it makes no step any more: it has stopped, or its lines have gone, and each server that it greeted has said Bye
abbrev pub IsOver : HostNode → Type 0
IsOver n = (n.stopped ≡ true)
    ⊎ ((length n.lines.lines ≤ n.lines.gone) × IsParted (tables_of n.manager).sites)

-- Its machine runs on the steps that it has made, until it stops; its lines are those of its part, as many have gone,
-- and it was told of what it knows. Of what was given, this may be taken still.
pub record StandsSo (part : Part) (n : HostNode) (past : List Round) (made : List Step) (came : List Message)
    (lapses : ℕ) : Type 0 where
  pub node : part.node ≡ Host (host_of part.node)
  pub script : IsPlayable part.run.script
  pub kept : HasKeptOn (Unit {0}) part past made came lapses
  pub host : n.stopped ≡ false → (tables_of n.manager).host ≡ host_of part.node
  pub runs : n.stopped ≡ false → IsRunning part.run.script (tables_of n.manager) (appended made (steps_in past))
  pub stopped : n.stopped ≡ true → HasStopped (appended made (steps_in past))
  pub lines : n.lines.lines ≡ lines_of part.run.script part.node
  pub gone : n.lines.gone ≡ lines_gone (appended made (steps_in past))
  pub within : n.lines.gone ≤ length n.lines.lines
  pub told : (flag : List ℕ) → n.lines.told ≡ Some flag → WasTold past flag
  pub begun : n.begun ≡ true → may_begin part.node ≡ true → WasBegun past

-- so it is in a turn, where no call that was answered between turns waits
pub record IsInTurn (part : Part) (n : HostNode) (past : List Round) (made : List Step) (came : List Message)
    (lapses : ℕ) : Type 0 where
  pub so : StandsSo part n past made came lapses
  pub none : Holds n.between n.lines.lines (host_of part.node) []

-- and between turns: the steps of calls that were answered since wait
pub record Stands (part : Part) (n : HostNode) (past : List Round) (made : List Step) : Type 0 where
  pub waiting : List Step
  pub holds : Holds n.between n.lines.lines (host_of part.node) waiting
  pub idle : n.stopped ≡ true → waiting ≡ []
  pub so : StandsSo part n past (made ++ waiting) [] 0

-- so it stands once a call was made between turns: its step waits behind these, and this is told of it
pub record HasSpoken (part : Part) (n : HostNode) (past : List Round) (made waiting : List Step) (spoken : Spoken)
    (out : List ℕ) : Type 0 where
  pub stands : Stands part n past made
  pub step : Step
  pub waits : stands.waiting ≡ waiting ++ step ∷ []
  pub told : IsToldOf step spoken out

-- the newest round gave this
abbrev pub WasGiven : List Round → Given → Type 0
WasGiven past given = (r : Round) × In r past × (r.given ≡ Some given)

-- the call is that of the host's next line, and can be made now
pub record CanCall (n : HostNode) (call : Call) : Type 0 where
  pub begun : n.begun ≡ true
  pub live : n.stopped ≡ false
  pub free : IsFree (tables_of n.manager)
  pub line : Line
  pub next : next_of n.lines ≡ Some line
  pub makes : line.deed ≡ MakesCall call
