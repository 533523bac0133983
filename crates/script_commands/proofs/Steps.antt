use Rattle.std.proofs.Common.{◌≡◌, ℕ, Bool, true, false, not, ◌||◌, cond, filter, List, [], ◌∷◌, ◌++◌, take, drop, refl, sym, arith, codes, append_assoc, append-nil}
use Rattle.std.specs.Cmp.Lexicographic.{same_text}
use Rattle.std.proofs.lemmas.Grind.{common_steps}
use Rattle.std.proofs.lemmas.List.{map-append}
use Rattle.base_types.specs.Name.{same_name}
use Rattle.script_words.specs.Fields.{is_word}
use Rattle.script_commands.specs.declared.parts.Parts.{Parts}
use Rattle.script_commands.specs.Parts.{joined, is_json, is_workers, parts_of}

-- parts and further ones
abbrev pub with_parts : Parts → Parts → Parts
with_parts parts more =
    record {
      json = parts.json ++ more.json;
      workers = parts.workers ++ more.workers;
      others = parts.others ++ more.others;
    }

workers_no_json : (word : List ℕ) → is_workers word ≡ true → is_json word ≡ false
unfolding is_word
workers_no_json [] h = refl
workers_no_json (a ∷ []) h = grind (arith, common_steps)
workers_no_json (a ∷ b ∷ []) h = grind (arith, common_steps)
workers_no_json (a ∷ b ∷ c ∷ word) h = grind (arith, common_steps)

-- what a word by itself adds
pub add_workers : (a : Parts) (word : List ℕ) → same_name (take 10 word) (codes "--workers=") ≡ true → with_parts a (parts_of (word ∷ [])) ≡ record { json = a.json; workers = a.workers ++ drop 10 word ∷ []; others = a.others }
unfolding parts_of is_word
add_workers a word h = simp (workers_no_json word h, h, append-nil)

pub add_json : (a : Parts) (word : List ℕ) → same_name (take 10 word) (codes "--workers=") ≡ false → is_word word (codes "--json") ≡ true → with_parts a (parts_of (word ∷ [])) ≡ record { json = a.json ++ word ∷ []; workers = a.workers; others = a.others }
unfolding parts_of is_word
add_json a word h k = simp (h, k, append-nil)

pub add_other : (a : Parts) (word : List ℕ) → same_name (take 10 word) (codes "--workers=") ≡ false → is_word word (codes "--json") ≡ false → with_parts a (parts_of (word ∷ [])) ≡ record { json = a.json; workers = a.workers; others = a.others ++ word ∷ [] }
unfolding parts_of is_word
add_other a word h k = simp (h, k, append-nil)

filter_first : (test : List ℕ → Bool) (word : List ℕ) (rest : List (List ℕ)) → filter test (word ∷ rest) ≡ filter test (word ∷ []) ++ filter test rest
filter_first test word rest = elim (test word) as (λ v. cond v (word ∷ filter test rest) (filter test rest) ≡ cond v (word ∷ []) [] ++ filter test rest) [ true ↦ refl | false ↦ refl ]

pub joined_other : (word : List ℕ) (rest : List (List ℕ)) → is_word word (codes "--workers") ≡ false → joined (word ∷ rest) ≡ word ∷ joined rest
joined_other word [] h = refl
joined_other word (next ∷ rest) h = rw h refl

pub parts_first : (a : Parts) (word : List ℕ) (rest : List (List ℕ)) → is_word word (codes "--workers") ≡ false → with_parts (with_parts a (parts_of (word ∷ []))) (parts_of rest) ≡ with_parts a (parts_of (word ∷ rest))
unfolding parts_of
parts_first a word rest h =
    rw (joined_other word rest h, filter_first is_json word (joined rest), filter_first is_workers word (joined rest), filter_first (λ w. not (is_json w || is_workers w)) word (joined rest)) (simp (append_assoc, map-append))

pub parts_pair : (a : Parts) (value : List ℕ) (rest : List (List ℕ)) → with_parts (record { json = a.json; workers = a.workers ++ value ∷ []; others = a.others }) (parts_of rest) ≡ with_parts a (parts_of (codes "--workers" ∷ value ∷ rest))
unfolding parts_of is_word
parts_pair a value rest = simp append_assoc

pub parts_none : (a : Parts) → with_parts a (parts_of []) ≡ a
unfolding parts_of
parts_none a = simp append-nil

-- a word that is another is the same text
pub is_text : (word text : List ℕ) → is_word word text ≡ true → word ≡ text
unfolding is_word
is_text word text h = same_text word text (sym h)
