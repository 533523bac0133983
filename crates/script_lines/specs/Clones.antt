use Rattle.std.specs.Prelude.{
  ◌≡◌,
  ℕ,
  zero,
  suc,
  ◌&&◌,
  Bool,
  true,
  false,
  if◌then◌else◌,
  List,
  [],
  ◌∷◌,
  ◌++◌,
  length,
  Option,
  Some,
  None,
  is_some,
  Result,
  Ok,
  Err,
  codes,
}
use Rattle.std.specs.List.{find}
use Rattle.base_types.specs.Name.{is_name, same_name}
use Rattle.base_types.specs.declared.ids.ServerId.{ServerId}
use Rattle.base_types.specs.declared.ids.Node.{Node}
use Rattle.base_types.specs.declared.ids.Node.TheVariants.{Host}
use Rattle.script_words.specs.Words.{words_of_line}
use Rattle.script_words.specs.Fields.{is_word, node_of}
use Rattle.script_lines.specs.Context.{find_placed, server_of}
use Rattle.script_lines.specs.declared.context.Context.{Context}
use Rattle.script_lines.specs.declared.context.Placed.{Placed}
use Rattle.script_lines.specs.declared.clones.CloneLine.{CloneLine}
use Rattle.script_words.specs.declared.fault.BadWhy.{BadWhy}

-- whether a word is the node of a host
abbrev pub is_host : Option Node → Bool
is_host (Some (Host host)) = true
is_host _ = false

-- a name, where it is one
abbrev pub name_if : List ℕ → Option (List ℕ)
name_if bytes = if is_name bytes then Some bytes else None

-- a clone of a source
abbrev pub clone_by : Option (List ℕ) → Option (List ℕ) → Option CloneLine
clone_by (Some source) (Some new) = Some (record { source = source; new = new })
clone_by _ _ = None

-- the clone that four words ask for, whatever else is wrong with them
unfoldable pub clone_of : List (List ℕ) → Option CloneLine
clone_of (node ∷ verb ∷ source ∷ new ∷ []) =
    if is_host (node_of node) && is_word verb (codes "clone") then clone_by (name_if source) (name_if new) else None
clone_of _ = None

-- the clone of a line whose words can be read
abbrev pub clone_said : Result (List (List ℕ)) BadWhy → Option CloneLine
clone_said (Ok words) = clone_of words
clone_said (Err why) = None

-- the clone that a line asks for
unfoldable pub clone_in : List ℕ → Option CloneLine
clone_in line = clone_said (words_of_line line)

-- a line that clones no fileset
abbrev pub ClonesNothing : List ℕ → Type 0
ClonesNothing line = clone_in line ≡ None

-- these clones and one more
abbrev pub with_clone : List CloneLine → Option CloneLine → List CloneLine
with_clone clones None = clones
with_clone clones (Some clone) = clones ++ clone ∷ []

-- the clones of lines, after these
abbrev pub clones_from : List CloneLine → List (List ℕ) → List CloneLine
clones_from clones [] = clones
clones_from clones (line ∷ lines) = clones_from (with_clone clones (clone_in line)) lines

-- the server where it is placed, else another
abbrev pub found_server : Option Placed → Option ServerId → Option ServerId
found_server (Some found) other = Some found.server
found_server None other = other

-- the server of the source
abbrev pub by_source : Option CloneLine → (List ℕ → Option ServerId) → Option ServerId
by_source None server = None
by_source (Some clone) server = server clone.source

-- whether a clone is of this name, and its source has a server
abbrev pub places : (List ℕ → Option ServerId) → List ℕ → CloneLine → Bool
places server name clone = same_name clone.new name && is_some (server clone.source)

-- the server of a name by at most so many steps: that of its header, else that of the source of the first clone of it
-- whose source has one by fewer steps
abbrev pub place_by : ℕ → List Placed → List CloneLine → List ℕ → Option ServerId
place_by zero placed clones name = server_of placed name
place_by (suc steps) placed clones name =
    found_server (find_placed placed name)
    (by_source (find (places (λ source. place_by steps placed clones source) name) clones)
    (λ source. place_by steps placed clones source))

-- more steps than a script has lines
unfoldable pub most_steps : ℕ
most_steps = 16384

-- the server of a name
abbrev pub clone_place : List Placed → List CloneLine → List ℕ → Option ServerId
clone_place placed clones name = place_by most_steps placed clones name

-- one more that is placed
abbrev pub placed_also : List Placed → List ℕ → Option ServerId → List Placed
placed_also placed name None = placed
placed_also placed name (Some server) = placed ++ record { name = name; server = server } ∷ []

-- these, and the name of each clone that has a server
abbrev pub placed_from : (List ℕ → Option ServerId) → List Placed → List CloneLine → List Placed
placed_from server placed [] = placed
placed_from server placed (clone ∷ clones) = placed_from server (placed_also placed clone.new (server clone.new)) clones

-- the names that clones place, each where its source is placed
abbrev pub placed_by : List Placed → List CloneLine → List Placed
placed_by placed clones = placed_from (clone_place placed clones) [] clones

-- the names of all clones among these lines are placed
unfoldable pub with_clones : Context → List (List ℕ) → Context
with_clones context lines =
    record context { placed = context.placed ++ placed_by context.placed (clones_from [] lines) }
