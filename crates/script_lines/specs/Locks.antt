-- The words behind the place that a host locks or opens.
use Rattle.std.specs.Prelude.{ℕ, Bool, List, Result, Ok}
use Rattle.base_types.specs.declared.ids.OpenKind.{OpenKind}
use Rattle.script_words.specs.Outcome.{◌>>=◌, found}
use Rattle.script_words.specs.Fields.{word_at, end_at, number_at}
use Rattle.script_words.specs.Terms.{lock_mode_of, open_kind_of}
use Rattle.script_lines.specs.declared.deeds.LockPart.{LockPart}
use Rattle.script_lines.specs.declared.script.TheConstants.{NUMBER_MAX}
use Rattle.script_words.specs.declared.fault.BadWhy.{BadWhy}
use Rattle.script_words.specs.declared.fault.BadWhy.TheVariants.{Word}

-- what a lock covers
abbrev pub part_of : Bool → ℕ → ℕ → LockPart
part_of writing from len = record { writing = writing; from = from; len = len }

-- the end of a line that locks
unfoldable pub lock_part : List (List ℕ) → Result LockPart BadWhy
lock_part words = do
  mode ← word_at words 4
  writing ← found Word (lock_mode_of mode)
  from ← number_at 0 NUMBER_MAX words 5
  len ← number_at 1 NUMBER_MAX words 6
  _ ← end_at words 7
  Ok (part_of writing from len)

-- the end of a line that opens a file
unfoldable pub last_kind : List (List ℕ) → Result OpenKind BadWhy
last_kind words = do
  word ← word_at words 4
  kind ← found Word (open_kind_of word)
  _ ← end_at words 5
  Ok kind
