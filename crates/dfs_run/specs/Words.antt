-- Which words ask for a journal.
use Rattle.std.specs.Prelude.{
  ℕ,
  Bool,
  false,
  ◌&&◌,
  if◌then◌else◌,
  List,
  ◌∷◌,
  ◌++◌,
  take,
  drop,
  Option,
  None,
  slice_get,
  codes,
}
use Rattle.script_words.specs.Fields.{is_word}
use Rattle.script_commands.specs.Disks.{is_disk_name}

-- whether words are `run --journal FILE ..`; FILE is as the name of a disk
abbrev pub asks_for_journal : List (List ℕ) → Bool
asks_for_journal (first ∷ option ∷ file ∷ words) =
    is_word first (codes "run") && is_word option (codes "--journal") && is_disk_name file
asks_for_journal _ = false

-- FILE of them
abbrev pub journal_name : List (List ℕ) → Option (List ℕ)
journal_name words = if asks_for_journal words then slice_get words 2 else None

-- and the words of the run, without `--journal FILE`
abbrev pub run_words : List (List ℕ) → List (List ℕ)
run_words words = if asks_for_journal words then take 1 words ++ drop 3 words else words
