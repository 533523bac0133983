-- Words that ask for a journal.
use Rattle.std.proofs.Common.{◌≡◌, ℕ, ◌<◌, true, false, List, [], ◌∷◌, length, map, Some, None, refl, arith}
use Rattle.std.specs.Prelude.{String, slice_index_or}
use Rattle.std.specs.List.{remove}
use Rattle.std.specs.String.{string_bytes}
use Rattle.dfs_run.specs.Words.{asks_for_journal, journal_name, run_words}

pub long : {Z : Type 0} (words : List (String Z)) → asks_for_journal (map string_bytes words) ≡ true → 2 < length words
long [] h = cc
long (a ∷ []) h = cc
long (a ∷ b ∷ []) h = cc
long (a ∷ b ∷ c ∷ words) h = omega arith

pub name_is : {Z : Type 0} (words : List (String Z)) (d : String Z) → asks_for_journal (map string_bytes words) ≡ true
    → Some (string_bytes (slice_index_or (remove words 1) 1 d)) ≡ journal_name (map string_bytes words)
name_is [] d h = cc
name_is (a ∷ []) d h = cc
name_is (a ∷ b ∷ []) d h = cc
name_is (a ∷ b ∷ c ∷ words) d h = rw h refl

pub rest_is : {Z : Type 0} (words : List (String Z)) → asks_for_journal (map string_bytes words) ≡ true
    → map string_bytes (remove (remove words 1) 1) ≡ run_words (map string_bytes words)
rest_is [] h = cc
rest_is (a ∷ []) h = cc
rest_is (a ∷ b ∷ []) h = cc
rest_is (a ∷ b ∷ c ∷ words) h = rw h refl

-- where they ask for none
pub no_name : (words : List (List ℕ)) → asks_for_journal words ≡ false → None ≡ journal_name words
no_name words h = rw h refl

pub all_stay : (words : List (List ℕ)) → asks_for_journal words ≡ false → words ≡ run_words words
all_stay words h = rw h refl
