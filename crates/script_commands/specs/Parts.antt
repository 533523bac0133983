use Rattle.std.specs.Prelude.{ℕ, ◌||◌, Bool, not, if◌then◌else◌, List, [], ◌∷◌, ◌++◌, map, filter, take, drop, codes}
use Rattle.script_words.specs.Fields.{is_word}
use Rattle.script_commands.specs.declared.parts.Parts.{Parts}

-- `--workers N` says what `--workers=N` says
abbrev pub joined : List (List ℕ) → List (List ℕ)
joined [] = []
joined (word ∷ []) = word ∷ []
joined (word ∷ next ∷ words) =
    if is_word word (codes "--workers") then (codes "--workers=" ++ next) ∷ joined words
    else word ∷ joined (next ∷ words)

-- the options
abbrev pub is_json : List ℕ → Bool
is_json word = is_word word (codes "--json")

abbrev pub is_workers : List ℕ → Bool
is_workers word = is_word (take 10 word) (codes "--workers=")

-- the words after the first one, told apart
unfoldable pub parts_of : List (List ℕ) → Parts
parts_of words =
    record {
      json = filter is_json (joined words);
      workers = map (drop 10) (filter is_workers (joined words));
      others = filter (λ word. not (is_json word || is_workers word)) (joined words);
    }
