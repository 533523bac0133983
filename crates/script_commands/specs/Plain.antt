-- What is asked of the words before `clap` reads them. The grammar doesn't rest on it: `Command` says what words mean.
use Rattle.std.specs.Prelude.{ℕ, ◌||◌, ◌==◌, Bool, false, not, if◌then◌else◌, List, [], ◌∷◌, drop}
use Rattle.std.specs.List.{list_all}
use Rattle.script_commands.specs.Parts.{joined, is_json, is_workers}

-- whether a word begins with a dash
abbrev pub is_dashed : List ℕ → Bool
is_dashed [] = false
is_dashed (byte ∷ _) = byte == 45

-- an option of the grammar, whose value is no option, or a word that isn't one
abbrev pub is_plain : List ℕ → Bool
is_plain word = if is_workers word then not (is_dashed (drop 10 word)) else (is_json word || not (is_dashed word))

-- whether all words are, each with its value where it is a `--workers`
unfoldable pub are_plain : List (List ℕ) → Bool
are_plain words = list_all is_plain (joined words)
