use Rattle.std.specs.Prelude.{
  ℕ,
  ◌==◌,
  Bool,
  false,
  if◌then◌else◌,
  List,
  [],
  ◌∷◌,
  ◌++◌,
  length,
  None,
  is_some,
  Result,
  Ok,
}
use Rattle.base_types.specs.declared.ids.HostId.{HostId}
use Rattle.base_types.specs.declared.ids.Node.{Node}
use Rattle.base_types.specs.declared.ids.Node.TheVariants.{Host, Server}
use Rattle.script_words.specs.Outcome.{◌>>=◌, found, unless}
use Rattle.script_words.specs.Words.{words_of_line}
use Rattle.script_words.specs.Fields.{word_at, node_of}
use Rattle.script_lines.specs.Context.{node_declared, has_stopped}
use Rattle.script_lines.specs.Deeds.{deed_of}
use Rattle.script_lines.specs.Headers.{header_of, header_line}
use Rattle.script_lines.specs.declared.context.Context.{Context}
use Rattle.script_lines.specs.declared.script.Line.{Line}
use Rattle.script_lines.specs.declared.script.Deed.{Deed}
use Rattle.script_lines.specs.declared.script.Deed.TheVariants.{Raise, Stop}
use Rattle.script_words.specs.declared.fault.BadWhy.{BadWhy}
use Rattle.script_words.specs.declared.fault.BadWhy.TheVariants.{Word, Order, Stopped}

-- before the first line
abbrev pub nothing_said : Context
nothing_said =
    record {
      script = record {
        servers = 0;
        roster = record { users = []; hosts = []; capacity = [] };
        setup = [];
        plan = [];
        net = None;
        lines = [];
      };
      begun = false;
      capped = [];
      placed = [];
      raised = [];
      stopped = [];
    }

-- whether a line of this node was its last
abbrev pub node_stopped : List HostId → Node → Bool
node_stopped stopped (Host host) = has_stopped stopped host
node_stopped stopped (Server server) = false

-- the node of a line, which stands first in it
unfoldable pub node_at : Context → List (List ℕ) → Result Node BadWhy
node_at context words = do
  word ← word_at words 0
  _ ← unless (is_some (header_of word)) Order
  named ← found Word (node_of word)
  node ← node_declared context.script named
  _ ← unless (node_stopped context.stopped node) Stopped
  Ok node

-- a host has stopped
abbrev pub stopped_by : Context → Node → Context
stopped_by context (Host host) = record context { stopped = context.stopped ++ host ∷ [] }
stopped_by context (Server server) = context

-- what a deed changes for later lines
abbrev pub noted : Context → Node → Deed → Context
noted context node (Raise flag) = record context { raised = context.raised ++ flag ∷ [] }
noted context node Stop = stopped_by context node
noted context node _ = context

-- the script with a line more
abbrev pub with_line : Context → Line → Context
with_line context line = record context { script = record context.script { lines = context.script.lines ++ line ∷ [] } }

-- a line
abbrev pub line_of : ℕ → Node → Deed → Line
line_of number node deed = record { number = number; node = node; deed = deed }

-- a line after `begin`: its node, then its deed
unfoldable pub deed_line : Context → ℕ → ℕ → List (List ℕ) → Result Context BadWhy
deed_line context disks number words = do
  node ← node_at context words
  deed ← deed_of context.script disks context.placed context.raised node words
  Ok (with_line (noted context node deed) (line_of number node deed))

-- a line without words changes nothing
unfoldable pub taken : Context → ℕ → ℕ → List (List ℕ) → Result Context BadWhy
taken context disks number words =
    if length words == 0 then Ok context
    else (if context.begun then deed_line context disks number words else header_line context disks number words)

-- what has been said after a line
unfoldable pub line_judged : Context → ℕ → ℕ → List ℕ → Result Context BadWhy
line_judged context disks number line = do
  words ← words_of_line line
  taken context disks number words
