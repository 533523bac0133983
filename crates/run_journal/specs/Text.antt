-- A journal as JSON Lines.
use Rattle.std.specs.Prelude.{ℕ, List, [], ◌∷◌, ◌++◌, flat_map, codes}
use Rattle.json.specs.Json.{Json, object, no_members, member}
use Rattle.json.specs.Print.{print}
use Rattle.json.specs.Tree.{json_tokens}
use Rattle.run_rules.specs.declared.journal.Journal.{Journal}
use Rattle.run_rules.specs.declared.step.Step.{Step}
use Rattle.message_json.specs.Values.{whole, list}
use Rattle.run_journal.specs.Steps.{step_json}
use Rattle.run_journal.specs.Trees.{tree_json}

-- a line: the JSON without spaces, and a line feed
unfoldable pub line_text : Json → List ℕ
line_text json = print (json_tokens json) ++ 10 ∷ []

-- the first line: the number of this form, the tree at the start, with the roster, and the first epochs
unfoldable pub head_json : Journal → Json
head_json journal = object
    (member (codes "version") (whole 1)
    (member (codes "start") (list tree_json journal.start)
    (member (codes "epochs") (list whole journal.epochs) no_members)))

-- the line of a step
abbrev pub step_text : Step → List ℕ
step_text step = line_text (step_json step)

-- the text: the first line, and then one for each step
unfoldable pub journal_text : Journal → List ℕ
journal_text journal = line_text (head_json journal) ++ flat_map step_text journal.steps
