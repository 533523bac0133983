-- Steps of a server that take a message.
use Rattle.std.specs.Prelude.{ℕ, List}
use Rattle.base_types.specs.declared.ids.HostId.{HostId}
use Rattle.base_types.specs.declared.ids.ServerId.{ServerId}
use Rattle.base_types.specs.declared.ids.Node.TheVariants.{Server}
use Rattle.tree_answers.specs.declared.tree.Tree.{Tree}
use Rattle.message_types.specs.declared.message.Body.{Body}
use Rattle.message_types.specs.declared.message.Direction.TheVariants.{ToHost}
use Rattle.message_types.specs.declared.message.Message.{Message}
use Rattle.script_lines.specs.declared.script.Script.{Script}
use Rattle.run_rules.specs.Doings.{Doing, after_step}
use Rattle.run_rules.specs.Kept.{filesets_kept}
use Rattle.run_tokens.specs.ServerRest.{ServerMeets}
use Rattle.run_rules.specs.Steps.{bare}
use Rattle.run_rules.specs.declared.step.Cause.TheVariants.{Message as Came}
use Rattle.run_rules.specs.declared.step.Step.{Step}
use Rattle.server_tables.specs.declared.tables.Tables.{Tables}
use Rattle.server_tables.specs.Standing.{AnsweredStand, IsSettled, Stands}

-- it takes a message and sends these, and nothing else
abbrev pub taking : ServerId → Message → List Message → Step
taking server m sent = record (bare (Server server) (Came m)) { sent = sent }

-- it sends a host a message
abbrev pub to_host : ServerId → HostId → ℕ → ℕ → Body → Message
to_host server host epoch moves body =
    record { direction = ToHost; host = host; server = server; epoch = epoch; moves = moves; body = body }

-- The step meets the rules of a server whose tables were so, and that keeps a tree of which this holds.
unfoldable pub Meets : (Tree → Type 0) → Tables → Step → Type 0
Meets Keeps x step = (script : Script) (start : Tree) (steps : List Step) (past : List Doing) → Stands past x
    → AnsweredStand past x.recovering.answers → IsSettled x.server past → Keeps (filesets_kept start x.server steps)
    → ServerMeets script start x.server steps past step

-- The tables stand for the doings with the step.
unfoldable pub Follows : Tables → Step → Tables → Type 0
Follows x step y =
    (past : List Doing) → Stands past x → AnsweredStand past x.recovering.answers → IsSettled x.server past
    → Stands (after_step step past) y × AnsweredStand (after_step step past) y.recovering.answers
    × IsSettled x.server (after_step step past)
