-- Names of disks.
use Rattle.std.specs.Prelude.{
  ℕ,
  ◌==◌,
  ◌&&◌,
  Bool,
  false,
  not,
  nat_le,
  if◌then◌else◌,
  List,
  [],
  ◌∷◌,
  length,
  Result,
  Ok,
  Err,
}
use Rattle.std.specs.List.{list_all}
use Rattle.script_words.specs.declared.fault.BadWhy.{BadWhy}
use Rattle.script_words.specs.declared.fault.BadWhy.TheVariants.{Word}
use Rattle.script_commands.specs.declared.command.TheConstants.{DISKS_MAX}

-- a word that isn't empty and begins with no dash
abbrev pub is_disk_name : List ℕ → Bool
is_disk_name [] = false
is_disk_name (byte ∷ _) = not (byte == 45)

-- how many they are, where they are names of disks, at least so many and at most 4
unfoldable pub disks_at : ℕ → List (List ℕ) → Result ℕ BadWhy
disks_at least names =
    if nat_le least (length names) && nat_le (length names) DISKS_MAX && list_all is_disk_name names
    then Ok (length names) else Err Word
