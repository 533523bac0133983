use Rattle.std.specs.Prelude.{
  ℕ,
  Bool,
  true,
  false,
  not,
  if◌then◌else◌,
  List,
  [],
  ◌∷◌,
  ◌++◌,
  Option,
  Some,
  None,
  Result,
  Ok,
  codes,
}
use Rattle.base_types.specs.declared.ids.Node.{Node}
use Rattle.base_types.specs.declared.ids.Node.TheVariants.{Host, Server}
use Rattle.script_words.specs.Outcome.{◌>>=◌, found, unless}
use Rattle.script_words.specs.Fields.{word_at, end_at, label_at, number_at, is_word, node_of}
use Rattle.script_words.specs.Terms.{kind_of}
use Rattle.script_lines.specs.Context.{node_declared}
use Rattle.script_lines.specs.declared.context.Context.{Context}
use Rattle.script_lines.specs.declared.script.TheConstants.{NUMBER_MAX}
use Rattle.script_lines.specs.declared.script.Script.{Script}
use Rattle.script_lines.specs.declared.script.PlanLine.{PlanLine}
use Rattle.script_lines.specs.declared.script.PlanDeed.{PlanDeed}
use Rattle.script_lines.specs.declared.script.PlanDeed.TheVariants.{Drop, Hold, Again}
use Rattle.script_words.specs.declared.fault.BadWhy.{BadWhy}
use Rattle.script_words.specs.declared.fault.BadWhy.TheVariants.{Word}

-- what befalls a message
unfoldable pub plan_deed_of : List ℕ → Option PlanDeed
plan_deed_of word =
    if is_word word (codes "drop") then Some Drop
    else (if is_word word (codes "hold") then Some Hold
    else (if is_word word (codes "again") then Some Again else None))

-- a node at a place, declared or not
unfoldable pub node_named : List (List ℕ) → ℕ → Result Node BadWhy
node_named words i = do
  word ← word_at words i
  found Word (node_of word)

-- whether these are one host and one server
abbrev pub is_pair : Node → Node → Bool
is_pair (Host _) (Server _) = true
is_pair (Server _) (Host _) = true
is_pair _ _ = false

-- who receives: with the sender one host and one server, and then declared
unfoldable pub receiver_at : Script → Node → List (List ℕ) → Result Node BadWhy
receiver_at script from words = do
  to ← node_named words 3
  _ ← unless (not (is_pair from to)) Word
  node_declared script to

-- a message that is dropped has no flag
abbrev pub is_drop : PlanDeed → Bool
is_drop Drop = true
is_drop Hold = false
is_drop Again = false

-- a message is held, or comes again, until a flag
unfoldable pub flag_at : PlanDeed → List (List ℕ) → Result (Option (List ℕ)) BadWhy
flag_at deed words =
    if is_drop deed then end_at words 6 >>= (λ _. Ok None)
    else label_at words 6 >>= (λ flag. end_at words 7 >>= (λ _. Ok (Some flag)))

-- a line of the plan
abbrev pub plan_of : PlanDeed → Node → Node → ℕ → ℕ → Option (List ℕ) → PlanLine
plan_of deed from to kind n flag = record { deed = deed; from = from; to = to; kind = kind; n = n; flag = flag }

-- what the words after `plan` say, from left to right
unfoldable pub plan_at : Script → List (List ℕ) → Result PlanLine BadWhy
plan_at script words = do
  deed_word ← word_at words 1
  deed ← found Word (plan_deed_of deed_word)
  from_node ← node_named words 2
  from ← node_declared script from_node
  to ← receiver_at script from words
  kind_word ← word_at words 4
  kind ← found Word (kind_of kind_word)
  n ← number_at 1 NUMBER_MAX words 5
  flag ← flag_at deed words
  Ok (plan_of deed from to kind n flag)

-- the plan with a line more
abbrev pub with_plan : Context → PlanLine → Context
with_plan context line = record context { script = record context.script { plan = context.script.plan ++ line ∷ [] } }

-- a `plan` line
unfoldable pub plan_line : Context → List (List ℕ) → Result Context BadWhy
plan_line context words = do
  line ← plan_at context.script words
  Ok (with_plan context line)
