use Rattle.std.specs.Prelude.{
  ℕ,
  ◌^◌,
  ◌-◌,
  ◌≤◌,
  ◌==◌,
  if◌then◌else◌,
  List,
  [],
  ◌∷◌,
  length,
  drop,
  Option,
  option_map,
  Result,
  Ok,
  Err,
  codes,
}
use Rattle.std.specs.Result.{result_ok}
use Rattle.base_types.specs.declared.limits.TheConstants.{HOSTS_MAX, WORKERS_MAX}
use Rattle.script_words.specs.Outcome.{◌>>=◌}
use Rattle.script_words.specs.Fields.{is_word, number_at, end_at}
use Rattle.script_words.specs.declared.fault.BadWhy.{BadWhy}
use Rattle.script_words.specs.declared.fault.BadWhy.TheVariants.{Word}
use Rattle.script_generator.specs.declared.script.TheConstants.{CALLS_MAX}
use Rattle.script_commands.specs.declared.parts.Parts.{Parts}
use Rattle.script_commands.specs.declared.command.TheConstants.{DISKS_MAX}
use Rattle.script_commands.specs.declared.command.Command.{Command}
use Rattle.script_commands.specs.declared.command.Command.TheVariants.{Play, Check}
use Rattle.script_commands.specs.declared.command.Play.{Play as PlayOf}
use Rattle.script_commands.specs.declared.command.Play.TheVariants.{Run, Gen}
use Rattle.script_commands.specs.Disks.{disks_at}
use Rattle.script_commands.specs.Parts.{parts_of}

-- how many workers there are: one, where nothing is said
unfoldable pub workers_of : List (List ℕ) → Result ℕ BadWhy
workers_of [] = Ok 1
workers_of said = do
  _ ← end_at said 1
  number_at 1 WORKERS_MAX said 0

-- `run DISK ..` with at most one `--json`
unfoldable pub run_of : Parts → Result Command BadWhy
run_of parts = do
  _ ← end_at parts.json 1
  disks ← disks_at 0 parts.others
  workers ← workers_of parts.workers
  Ok (Play (Run (length parts.json == 1) workers disks))

-- `gen SEED HOSTS CALLS`
unfoldable pub gen_of : Parts → Result Command BadWhy
gen_of parts = do
  _ ← end_at parts.json 0
  _ ← end_at parts.others 3
  seed ← number_at 0 (2 ^ 64 - 1) parts.others 0
  hosts ← number_at 1 HOSTS_MAX parts.others 1
  calls ← number_at 1 CALLS_MAX parts.others 2
  workers ← workers_of parts.workers
  Ok (Play (Gen seed hosts calls workers))

-- `check DISK ..`
unfoldable pub check_of : Parts → Result Command BadWhy
check_of parts = do
  _ ← end_at parts.json 0
  _ ← disks_at 1 parts.others
  workers ← workers_of parts.workers
  Ok (Check workers)

-- `run`, `gen` or `check` comes first
unfoldable pub read : List (List ℕ) → Result Command BadWhy
read [] = Err Word
read (first ∷ words) =
    if is_word first (codes "run") then run_of (parts_of words)
    else (if is_word first (codes "gen") then gen_of (parts_of words)
    else (if is_word first (codes "check") then check_of (parts_of words) else Err Word))

-- the command that words ask for, where they are in the grammar
abbrev pub command_of : List (List ℕ) → Option Command
command_of words = result_ok (read words)

-- what the numbers of a command keep
abbrev pub IsPlayWithin : PlayOf → Type 0
IsPlayWithin (Run json workers disks) = (1 ≤ workers) × (workers ≤ WORKERS_MAX) × (disks ≤ DISKS_MAX)
IsPlayWithin (Gen seed hosts calls workers) =
    (1 ≤ hosts) × (hosts ≤ HOSTS_MAX) × (1 ≤ calls) × (calls ≤ CALLS_MAX) × (1 ≤ workers) × (workers ≤ WORKERS_MAX)

abbrev pub IsWithin : Command → Type 0
IsWithin (Play play) = IsPlayWithin play
IsWithin (Check workers) = (1 ≤ workers) × (workers ≤ WORKERS_MAX)

-- the names of the disks that words name, where they are in the grammar
abbrev pub names_for : List (List ℕ) → Command → List (List ℕ)
names_for words (Play (Gen seed hosts calls workers)) = []
names_for words (Play (Run json workers disks)) = (parts_of (drop 1 words)).others
names_for words (Check workers) = (parts_of (drop 1 words)).others

abbrev pub disk_names : List (List ℕ) → Option (List (List ℕ))
disk_names words = option_map (names_for words) (command_of words)
