use Rattle.std.proofs.Common.{Some, Result, Ok, Err, ◌||◌, slice_get, filter, ◌≡◌, ℕ, ◌+◌, ◌<◌, ◌-◌, ◌^◌, ◌&&◌, Bool, true, false, not, if◌then◌else◌, List, [], ◌∷◌, drop, map, length, get_or, drop-cons, add-one, None, refl, arith, codes}
use Rattle.std.proofs.lemmas.Grind.{common_steps}
use Rattle.std.specs.List.{list_all}
use Rattle.std.specs.Result.{result_ok}
use Rattle.base_types.specs.declared.limits.TheConstants.{HOSTS_MAX, WORKERS_MAX}
use Rattle.script_words.specs.Outcome.{◌>>=◌}
use Rattle.script_words.specs.Fields.{is_word, number_up_to, number_at, end_at}
use Rattle.script_words.specs.declared.fault.BadWhy.{BadWhy}
use Rattle.script_words.specs.declared.fault.BadWhy.TheVariants.{Word}
use Rattle.script_generator.specs.declared.script.TheConstants.{CALLS_MAX}
use Rattle.script_commands.specs.declared.parts.Parts.{Parts}
use Rattle.script_commands.specs.Parts.{joined, is_json, is_workers, parts_of}
use Rattle.script_commands.specs.Plain.{is_dashed, is_plain, are_plain}
use Rattle.script_commands.specs.Command.{workers_of, run_of, gen_of, check_of, read}
use Rattle.script_commands.specs.Disks.{is_disk_name, disks_at}
use Rattle.script_commands.proofs.Steps.{joined_other}

pub plain_value : (value : List ℕ) (rest : List (List ℕ)) → are_plain (codes "--workers" ∷ value ∷ rest) ≡ (not (is_dashed value) && are_plain rest)
unfolding are_plain is_word
plain_value value rest = refl

pub plain_first : (word : List ℕ) (rest : List (List ℕ)) → is_word word (codes "--workers") ≡ false → are_plain (word ∷ rest) ≡ (is_plain word && are_plain rest)
unfolding are_plain
plain_first word rest h = rw (joined_other word rest h) refl

pub plain_none : are_plain [] ≡ true
unfolding are_plain
plain_none = refl

pub plain_name : are_plain (codes "--workers" ∷ []) ≡ false
unfolding are_plain is_word
plain_name = refl

-- the words that are still to come, where the last one was `--workers`, and where it was not
abbrev pub awaited : Bool → List (List ℕ) → List (List ℕ)
awaited true words = codes "--workers" ∷ words
awaited false words = words

-- the text of the next word, and those after it
pub texts_next : {X : Type 0} (text : X → List ℕ) (words : List X) (i : ℕ) (word : X) → i < length words → word ≡ get_or words i word → map text (drop i words) ≡ text word ∷ map text (drop (i + 1) words)
texts_next text words i word h e = rw (add-one, drop-cons words i word) (rw (← e) refl)

-- no word that begins with a dash is a number
dashed_no_number : (most : ℕ) (word : List ℕ) → is_dashed word ≡ true → number_up_to most word ≡ None
unfolding number_up_to
dashed_no_number most [] h = cc
dashed_no_number most (x ∷ []) h = grind (arith, common_steps)
dashed_no_number most (x ∷ y ∷ word) h = grind (arith, common_steps)

-- what follows a step that is refused is refused, and so is what ends in one
fails_first : {A B : Type 0} (read : Result A BadWhy) (next : A → Result B BadWhy) → result_ok read ≡ None → result_ok (read >>= next) ≡ None
fails_first (Ok value) next h = cc
fails_first (Err why) next h = refl

fails_later : {A B : Type 0} (read : Result A BadWhy) (next : A → Result B BadWhy) → ((value : A) → result_ok (next value) ≡ None) → result_ok (read >>= next) ≡ None
fails_later (Ok value) next h = h value
fails_later (Err why) next h = refl

-- whether no word begins with a dash
abbrev none_dashed : List (List ℕ) → Bool
none_dashed words = list_all (λ word. not (is_dashed word)) words

dashed_fails : (least most : ℕ) (words : List (List ℕ)) (i : ℕ) (word : List ℕ) → slice_get words i ≡ Some word → is_dashed word ≡ true → result_ok (number_at least most words i) ≡ None
unfolding number_at
dashed_fails least most words i word e h = rw (e, dashed_no_number most word h) refl

missing_fails : (least most : ℕ) (words : List (List ℕ)) (i : ℕ) → slice_get words i ≡ None → result_ok (number_at least most words i) ≡ None
unfolding number_at
missing_fails least most words i e = rw e refl

true_not : (b : Bool) → not b ≡ false → b ≡ true
true_not true h = refl
true_not false h = cc

workers_fail : (workers : List (List ℕ)) → none_dashed workers ≡ false → result_ok (workers_of workers) ≡ None
unfolding workers_of
workers_fail [] h = cc
workers_fail (word ∷ []) h = fails_later (end_at (word ∷ []) 1) _ (λ _. dashed_fails 1 WORKERS_MAX (word ∷ []) 0 word refl (grind (arith, common_steps)))
workers_fail (word ∷ next ∷ words) h = fails_first (end_at (word ∷ next ∷ words) 1) _ (grind (arith, common_steps))

-- no word that begins with a dash is the name of a disk
names_dashed : (words : List (List ℕ)) → none_dashed words ≡ false → list_all is_disk_name words ≡ false
names_dashed [] h = cc
names_dashed ([] ∷ words) h = refl
names_dashed ((x ∷ word) ∷ words) h = grind (arith, common_steps, names_dashed words)

disks_fail : (least : ℕ) (words : List (List ℕ)) → none_dashed words ≡ false → result_ok (disks_at least words) ≡ None
unfolding disks_at
disks_fail least [] h = cc
disks_fail least (word ∷ words) h = let no = names_dashed (word ∷ words) h in grind (arith, common_steps, no)

run_without : (parts : Parts) → none_dashed parts.workers ≡ false → result_ok (run_of parts) ≡ None
unfolding run_of
run_without parts h = fails_later (end_at parts.json 1) _ (λ _. fails_later (disks_at 0 parts.others) _ (λ _. fails_first (workers_of parts.workers) _ (workers_fail parts.workers h)))

run_others : (parts : Parts) → none_dashed parts.others ≡ false → result_ok (run_of parts) ≡ None
unfolding run_of
run_others parts h = fails_later (end_at parts.json 1) _ (λ _. fails_first (disks_at 0 parts.others) _ (disks_fail 0 parts.others h))

run_fails : (parts : Parts) → (none_dashed parts.workers && none_dashed parts.others) ≡ false → result_ok (run_of parts) ≡ None
run_fails parts h = elim (none_dashed parts.workers) as (λ t. none_dashed parts.workers ≡ t → result_ok (run_of parts) ≡ None) [
  | true ↦ λ w. run_others parts (rw w at h)
  | false ↦ λ w. run_without parts w
] refl

gen_without : (parts : Parts) → none_dashed parts.workers ≡ false → result_ok (gen_of parts) ≡ None
unfolding gen_of
gen_without parts h = fails_later (end_at parts.json 0) _ (λ _. fails_later (end_at parts.others 3) _ (λ _. fails_later (number_at 0 (2 ^ 64 - 1) parts.others 0) _ (λ _. fails_later (number_at 1 HOSTS_MAX parts.others 1) _ (λ _. fails_later (number_at 1 CALLS_MAX parts.others 2) _ (λ _. fails_first (workers_of parts.workers) _ (workers_fail parts.workers h))))))

gen_seed : (parts : Parts) → result_ok (number_at 0 (2 ^ 64 - 1) parts.others 0) ≡ None → result_ok (gen_of parts) ≡ None
unfolding gen_of
gen_seed parts h = fails_later (end_at parts.json 0) _ (λ _. fails_later (end_at parts.others 3) _ (λ _. fails_first (number_at 0 (2 ^ 64 - 1) parts.others 0) _ h))

gen_hosts : (parts : Parts) → result_ok (number_at 1 HOSTS_MAX parts.others 1) ≡ None → result_ok (gen_of parts) ≡ None
unfolding gen_of
gen_hosts parts h = fails_later (end_at parts.json 0) _ (λ _. fails_later (end_at parts.others 3) _ (λ _. fails_later (number_at 0 (2 ^ 64 - 1) parts.others 0) _ (λ _. fails_first (number_at 1 HOSTS_MAX parts.others 1) _ h)))

gen_calls : (parts : Parts) → result_ok (number_at 1 CALLS_MAX parts.others 2) ≡ None → result_ok (gen_of parts) ≡ None
unfolding gen_of
gen_calls parts h = fails_later (end_at parts.json 0) _ (λ _. fails_later (end_at parts.others 3) _ (λ _. fails_later (number_at 0 (2 ^ 64 - 1) parts.others 0) _ (λ _. fails_later (number_at 1 HOSTS_MAX parts.others 1) _ (λ _. fails_first (number_at 1 CALLS_MAX parts.others 2) _ h))))

gen_end : (parts : Parts) → result_ok (end_at parts.others 3) ≡ None → result_ok (gen_of parts) ≡ None
unfolding gen_of
gen_end parts h = fails_later (end_at parts.json 0) _ (λ _. fails_first (end_at parts.others 3) _ h)

gen_three : (parts : Parts) (a b c : List ℕ) → parts.others ≡ a ∷ b ∷ c ∷ [] → none_dashed (a ∷ b ∷ c ∷ []) ≡ false → result_ok (gen_of parts) ≡ None
gen_three parts a b c e h =
    elim (is_dashed a) as (λ t. is_dashed a ≡ t → result_ok (gen_of parts) ≡ None) [
      | true ↦ λ d. gen_seed parts (dashed_fails 0 (2 ^ 64 - 1) parts.others 0 a (rw e refl) d)
      | false ↦ λ da. elim (is_dashed b) as (λ t. is_dashed b ≡ t → result_ok (gen_of parts) ≡ None) [
        | true ↦ λ d. gen_hosts parts (dashed_fails 1 HOSTS_MAX parts.others 1 b (rw e refl) d)
        | false ↦ λ db. elim (is_dashed c) as (λ t. is_dashed c ≡ t → result_ok (gen_of parts) ≡ None) [
          | true ↦ λ d. gen_calls parts (dashed_fails 1 CALLS_MAX parts.others 2 c (rw e refl) d)
          | false ↦ λ dc. let bad : true ≡ false = rw (da, db, dc) at h in cc
        ] refl
      ] refl
    ] refl

gen_fails : (parts : Parts) → (none_dashed parts.workers && none_dashed parts.others) ≡ false → result_ok (gen_of parts) ≡ None
gen_fails parts h = go parts.others refl
  where
    go : (others : List (List ℕ)) → parts.others ≡ others → result_ok (gen_of parts) ≡ None
    go [] e = gen_seed parts (missing_fails 0 (2 ^ 64 - 1) parts.others 0 (rw e refl))
    go (a ∷ []) e = gen_hosts parts (missing_fails 1 HOSTS_MAX parts.others 1 (rw e refl))
    go (a ∷ b ∷ []) e = gen_calls parts (missing_fails 1 CALLS_MAX parts.others 2 (rw e refl))
    go (a ∷ b ∷ c ∷ []) e = elim (none_dashed parts.workers) as (λ t. none_dashed parts.workers ≡ t → result_ok (gen_of parts) ≡ None) [
      | true ↦ λ w. gen_three parts a b c e (rw (w, e) at h)
      | false ↦ λ w. gen_without parts w
    ] refl
    go (a ∷ b ∷ c ∷ d ∷ words) e = gen_end parts (rw e (grind (arith, common_steps)))

check_without : (parts : Parts) → none_dashed parts.workers ≡ false → result_ok (check_of parts) ≡ None
unfolding check_of
check_without parts h = fails_later (end_at parts.json 0) _ (λ _. fails_later (disks_at 1 parts.others) _ (λ _. fails_first (workers_of parts.workers) _ (workers_fail parts.workers h)))

check_others : (parts : Parts) → none_dashed parts.others ≡ false → result_ok (check_of parts) ≡ None
unfolding check_of
check_others parts h = fails_later (end_at parts.json 0) _ (λ _. fails_first (disks_at 1 parts.others) _ (disks_fail 1 parts.others h))

check_fails : (parts : Parts) → (none_dashed parts.workers && none_dashed parts.others) ≡ false → result_ok (check_of parts) ≡ None
check_fails parts h = elim (none_dashed parts.workers) as (λ t. none_dashed parts.workers ≡ t → result_ok (check_of parts) ≡ None) [
  | true ↦ λ w. check_others parts (rw w at h)
  | false ↦ λ w. check_without parts w
] refl

-- words that are not plain have a dash before a value or before another word
parts_dashed : (words : List (List ℕ)) → list_all is_plain words ≡ false → (none_dashed (map (drop 10) (filter is_workers words)) && none_dashed (filter (λ word. not (is_json word || is_workers word)) words)) ≡ false
parts_dashed [] h = cc
parts_dashed (word ∷ words) h = grind (arith, common_steps, parts_dashed words)

-- words that are not plain are not in the grammar
pub not_plain : (first : List ℕ) (words : List (List ℕ)) → are_plain words ≡ false → result_ok (read (first ∷ words)) ≡ None
unfolding are_plain parts_of read
not_plain first words h =
    let dashed = parts_dashed (joined words) h in
    elim (is_word first (codes "run")) as (λ t. result_ok (if t then run_of (parts_of words) else (if is_word first (codes "gen") then gen_of (parts_of words) else (if is_word first (codes "check") then check_of (parts_of words) else Err Word))) ≡ None) [
      | true ↦ run_fails (parts_of words) dashed
      | false ↦ elim (is_word first (codes "gen")) as (λ t. result_ok (if t then gen_of (parts_of words) else (if is_word first (codes "check") then check_of (parts_of words) else Err Word)) ≡ None) [
        | true ↦ gen_fails (parts_of words) dashed
        | false ↦ elim (is_word first (codes "check")) as (λ t. result_ok (if t then check_of (parts_of words) else Err Word) ≡ None) [
          | true ↦ check_fails (parts_of words) dashed
          | false ↦ refl
        ]
      ]
    ]
