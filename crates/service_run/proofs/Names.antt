-- The disks that the words of a run name.
use Rattle.std.proofs.Common.{◌≡◌, ℕ, Bool, true, false, if◌then◌else◌, List, [], ◌∷◌, length, drop, Option, Some, Result, Ok, Err, refl, subst, ◌∙◌, codes}
use Rattle.std.specs.Prelude.{nat_le, ◌&&◌, ◌==◌, ◌^◌, ◌-◌}
use Rattle.std.specs.List.{list_all}
use Rattle.std.specs.Result.{result_ok}
use Rattle.script_words.specs.Fields.{is_word, number_at, end_at}
use Rattle.script_words.specs.Outcome.{◌>>=◌}
use Rattle.script_words.specs.declared.fault.BadWhy.{BadWhy}
use Rattle.script_words.specs.declared.fault.BadWhy.TheVariants.{Word}
use Rattle.base_types.specs.declared.limits.TheConstants.{HOSTS_MAX}
use Rattle.script_generator.specs.declared.script.TheConstants.{CALLS_MAX}
use Rattle.script_commands.specs.Command.{command_of, names_for, disk_names, read, run_of, gen_of, check_of, workers_of}
use Rattle.script_commands.specs.Disks.{disks_at, is_disk_name}
use Rattle.script_commands.specs.declared.command.TheConstants.{DISKS_MAX}
use Rattle.script_commands.specs.Parts.{parts_of}
use Rattle.script_commands.specs.declared.command.Command.{Command}
use Rattle.script_commands.specs.declared.command.Command.TheVariants.{Play as Plays, Check}
use Rattle.script_commands.specs.declared.command.Play.{Play}
use Rattle.script_commands.specs.declared.command.Play.TheVariants.{Run, Gen}
use Rattle.service_run.specs.Checks.{AreNamed}
use Rattle.service_run.specs.Scripts.{disks_of}

-- what holds behind a step that was passed
behind : {A : Type 0} (P : Command → Type 0) (command : Command) (step : Result A BadWhy) (next : A → Result Command BadWhy) → ((value : A) → step ≡ Ok value → next value ≡ Ok command → P command)
    → (step >>= next) ≡ Ok command → P command
behind P command (Ok value) next so h = so value refl h
behind P command (Err why) next so h = absurd (cc)

disks_count : (least : ℕ) (names : List (List ℕ)) (count : ℕ) → disks_at least names ≡ Ok count → length names ≡ count
unfolding disks_at
disks_count least names count h = by (nat_le least (length names) && nat_le (length names) DISKS_MAX && list_all is_disk_name names) h
  where
    by : (v : Bool) → (let given : Result ℕ BadWhy = if v then Ok (length names) else Err Word in given ≡ Ok count) → length names ≡ count
    by true e = cc
    by false e = absurd (cc)

-- how many disks a command that is read runs over
abbrev runs_over : Command → ℕ → Type 0
runs_over (Plays (Run json workers disks)) count = count ≡ disks
runs_over (Plays (Gen seed hosts calls workers)) count = Unit {0}
runs_over (Check workers) count = Unit {0}

run_over : (words : List (List ℕ)) (command : Command) → run_of (parts_of words) ≡ Ok command → runs_over command (length (parts_of words).others)
unfolding run_of
run_over words command h =
    let P : Command → Type 0 = λ c. runs_over c (length (parts_of words).others) in
    behind P command (end_at (parts_of words).json 1) _ (λ none ended. behind P command (disks_at 0 (parts_of words).others) _ (λ disks is. behind P command (workers_of (parts_of words).workers) _ (λ workers said e.
    (let made : Plays (Run (length (parts_of words).json == 1) workers disks) ≡ command = cc in
    subst P made (disks_count 0 (parts_of words).others disks is))))) h

gen_over : (words : List (List ℕ)) (command : Command) (count : ℕ) → gen_of (parts_of words) ≡ Ok command → runs_over command count
unfolding gen_of
gen_over words command count h =
    let P : Command → Type 0 = λ c. runs_over c count in
    behind P command (end_at (parts_of words).json 0) _ (λ none ended. behind P command (end_at (parts_of words).others 3) _ (λ no over. behind P command (number_at 0 (2 ^ 64 - 1) (parts_of words).others 0) _ (λ seed a.
    behind P command (number_at 1 HOSTS_MAX (parts_of words).others 1) _ (λ hosts b. behind P command (number_at 1 CALLS_MAX (parts_of words).others 2) _ (λ calls c. behind P command (workers_of (parts_of words).workers) _ (λ workers said e.
    (let made : Plays (Gen seed hosts calls workers) ≡ command = cc in
    subst P made tt))))))) h

check_over : (words : List (List ℕ)) (command : Command) (count : ℕ) → check_of (parts_of words) ≡ Ok command → runs_over command count
unfolding check_of
check_over words command count h =
    let P : Command → Type 0 = λ c. runs_over c count in
    behind P command (end_at (parts_of words).json 0) _ (λ none ended. behind P command (disks_at 1 (parts_of words).others) _ (λ disks is. behind P command (workers_of (parts_of words).workers) _ (λ workers said e.
    (let made : Check workers ≡ command = cc in
    subst P made tt)))) h

read_over : (words : List (List ℕ)) (command : Command) → read words ≡ Ok command → runs_over command (length (parts_of (drop 1 words)).others)
unfolding read
read_over [] command h = absurd (cc)
read_over (first ∷ words) command h = one (is_word first (codes "run")) h
  where
    three : (v : Bool) → (if v then check_of (parts_of words) else Err Word) ≡ Ok command → runs_over command (length (parts_of words).others)
    three true e = check_over words command _ e
    three false e = absurd (cc)

    two : (v : Bool) → (if v then gen_of (parts_of words) else (if is_word first (codes "check") then check_of (parts_of words) else Err Word)) ≡ Ok command → runs_over command (length (parts_of words).others)
    two true e = gen_over words command _ e
    two false e = three (is_word first (codes "check")) e

    one : (v : Bool)
        → (if v then run_of (parts_of words) else (if is_word first (codes "gen") then gen_of (parts_of words) else (if is_word first (codes "check") then check_of (parts_of words) else Err Word))) ≡ Ok command
        → runs_over command (length (parts_of words).others)
    one true e = run_over words command e
    one false e = two (is_word first (codes "gen")) e

was_ok : (result : Result Command BadWhy) (command : Command) → result_ok result ≡ Some command → result ≡ Ok command
was_ok (Ok c) command h = cc
was_ok (Err why) command h = absurd (cc)

names_count : (words : List (List ℕ)) (play : Play) → read words ≡ Ok (Plays play) → length (names_for words (Plays play)) ≡ disks_of play
names_count words (Run json workers disks) h = read_over words (Plays (Run json workers disks)) h
names_count words (Gen seed hosts calls workers) h = refl

-- as many as it runs over
pub named_disks : (words : List (List ℕ)) (play : Play) (count : ℕ) → command_of words ≡ Some (Plays play) → AreNamed (disk_names words) count → count ≡ disks_of play
named_disks words play count is named =
    (let names : disk_names words ≡ Some (names_for words (Plays play)) = rw is refl in
    let there : count ≡ length (names_for words (Plays play)) = subst (λ (o : Option (List (List ℕ))). AreNamed o count) names named in
    there ∙ names_count words play (was_ok (read words) (Plays play) is))
