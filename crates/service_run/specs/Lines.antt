-- The lines that are written where nothing runs.
use Rattle.std.specs.Prelude.{ℕ, List, [], ◌∷◌, ◌++◌, ◌&&◌, Bool, Option, None, Some, codes, decimal, filter, nat_lt}
use Rattle.std.specs.Prelude.{slice_index_or}
use Rattle.base_types.specs.declared.ids.Node.{Node}
use Rattle.base_types.specs.declared.ids.Node.TheVariants.{Host, Server}
use Rattle.service_hosts.specs.Runs.{setup_node}
use Rattle.service_hosts.specs.Runs.{nodes_of}
use Rattle.script_lines.specs.Sound.{same_node}
use Rattle.script_lines.specs.declared.script.Line.{Line}
use Rattle.script_lines.specs.declared.script.Script.{Script}
use Rattle.script_words.specs.declared.fault.BadWhy.{BadWhy}
use Rattle.script_words.specs.declared.fault.BadWhy.TheVariants.{
  Long,
  Text,
  Word,
  Number,
  BadName,
  BadList,
  Undeclared,
  Repeated,
  Order,
  Stopped,
  Disks,
  Lines,
}
use Rattle.script_reader.specs.declared.refused.ScriptRefused.{ScriptRefused}
use Rattle.script_reader.specs.declared.refused.ScriptRefused.TheVariants.{BadLine, Stuck, Memory}

-- the words that the program takes
unfoldable pub usage_line : List ℕ
usage_line =
    codes "usage: dfs_run run [--journal FILE] [--json] [--workers N] [DISK ...]"
    ++ codes " | gen SEED HOSTS CALLS [--workers N] | check DISK [DISK ...] [--workers N]\n"

unfoldable pub input_line : List ℕ
input_line = codes "refused: read fault\n"

-- the line where disk K is no aggregate that can be run, and the place in bytes that shows it
unfoldable pub no_aggregate_line : ℕ → ℕ → List ℕ
no_aggregate_line k place =
    codes "refused: disk " ++ decimal k ++ codes " is no aggregate at " ++ decimal place ++ codes "\n"

-- the word for why a line is refused
unfoldable pub why_text : BadWhy → List ℕ
why_text Long = codes "long"
why_text Text = codes "text"
why_text Word = codes "word"
why_text Number = codes "number"
why_text BadName = codes "name"
why_text BadList = codes "list"
why_text Undeclared = codes "undeclared"
why_text Repeated = codes "repeated"
why_text Order = codes "order"
why_text Stopped = codes "stopped"
why_text Disks = codes "disks"
why_text Lines = codes "lines"

-- why a script is refused: the line and the cause
unfoldable pub refusal_text : ScriptRefused → List ℕ
refusal_text (BadLine number why) = codes "line " ++ decimal number ++ codes ": " ++ why_text why
refusal_text (Stuck number) = codes "line " ++ decimal number ++ codes ": stuck"
refusal_text Memory = codes "memory ran out"

unfoldable pub refusal_line : ScriptRefused → List ℕ
refusal_line refusal = codes "refused: " ++ refusal_text refusal ++ codes "\n"

-- whether a line is a node's and went, where this is the number of the node's next line, if one is left
abbrev pub has_gone : Node → Option ℕ → Line → Bool
has_gone node None line = same_node line.node node
has_gone node (Some next) line = same_node line.node node && nat_lt line.number next

abbrev pub last_number : List Line → Option ℕ
last_number [] = None
last_number (line ∷ []) = Some line.number
last_number (line ∷ other ∷ lines) = last_number (other ∷ lines)

-- the number of the last of these lines that a node went
abbrev pub last_gone : Node → Option ℕ → List Line → Option ℕ
last_gone node next lines = last_number (filter (has_gone node next) lines)

abbrev pub node_word : Node → List ℕ
node_word (Host host) = codes "c" ++ decimal host.0
node_word (Server server) = codes "s" ++ decimal server.0

abbrev pub behind_word : Option ℕ → List ℕ
behind_word None = []
behind_word (Some number) = codes " behind line " ++ decimal number

-- the line where hosts and servers came to no end: a node that isn't done, by its place, and the last of its lines that
-- went, where this is the number of its next, if one is left
unfoldable pub stuck_line : Script → ℕ → Option ℕ → List ℕ
stuck_line script place next =
    let node = slice_index_or (nodes_of script) place setup_node in
    codes "stuck: " ++ node_word node ++ behind_word (last_gone node next (script.setup ++ script.lines)) ++ codes "\n"
