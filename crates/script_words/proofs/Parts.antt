-- Parts of bytes between separators, one by one.
use Rattle.std.proofs.Common.{◌≡◌, ℕ, suc, ◌+◌, ◌<◌, ◌≤◌, ◌==◌, List, [], ◌∷◌, ◌++◌, length, take, drop, Bool, true, false, cond, Ok, subst, refl, sym, ap, ◌∙◌, arith, append_assoc, append-nil}
use Rattle.std.proofs.lemmas.List.{drop-drop}
use Rattle.script_words.specs.Outcome.{◌>>=◌}
use Rattle.script_words.specs.Fields.{named, all_named, parts_from, parts_of}
use Rattle.script_words.specs.Reading.{part_len}

pub parts_before : (separator : ℕ) (first : List ℕ) (parts : List (List ℕ)) (part bytes : List ℕ) → parts_from separator (first ∷ parts) part bytes ≡ first ∷ parts_from separator parts part bytes
parts_before separator first parts part [] = refl
parts_before separator first parts part (byte ∷ bytes) = by_byte (byte == separator) (parts_before separator first (parts ++ part ∷ []) [] bytes) (parts_before separator first parts (part ++ byte ∷ []) bytes)
  where
    by_byte : (v : Bool) → parts_from separator ((first ∷ parts) ++ part ∷ []) [] bytes ≡ first ∷ parts_from separator (parts ++ part ∷ []) [] bytes
        → parts_from separator (first ∷ parts) (part ++ byte ∷ []) bytes ≡ first ∷ parts_from separator parts (part ++ byte ∷ []) bytes
        → cond v (parts_from separator ((first ∷ parts) ++ part ∷ []) [] bytes) (parts_from separator (first ∷ parts) (part ++ byte ∷ []) bytes) ≡ first ∷ cond v (parts_from separator (parts ++ part ∷ []) [] bytes) (parts_from separator parts (part ++ byte ∷ []) bytes)
    by_byte true a b = a
    by_byte false a b = b

pub part_ends : (separator : ℕ) (part bytes : List ℕ) → part_len separator bytes < length bytes → parts_from separator [] part bytes ≡ (part ++ take (part_len separator bytes) bytes) ∷ parts_from separator [] [] (drop (part_len separator bytes + 1) bytes)
part_ends separator part [] h = absurd (omega arith)
part_ends separator part (byte ∷ bytes) h = by_byte (byte == separator) refl h (part_ends separator (part ++ byte ∷ []) bytes)
  where
    by_byte : (v : Bool) → (byte == separator) ≡ v → cond v 0 (suc (part_len separator bytes)) < length (byte ∷ bytes)
        → (part_len separator bytes < length bytes → parts_from separator [] (part ++ byte ∷ []) bytes ≡ ((part ++ byte ∷ []) ++ take (part_len separator bytes) bytes) ∷ parts_from separator [] [] (drop (part_len separator bytes + 1) bytes))
        → cond v (parts_from separator (part ∷ []) [] bytes) (parts_from separator [] (part ++ byte ∷ []) bytes) ≡ (part ++ take (cond v 0 (suc (part_len separator bytes))) (byte ∷ bytes)) ∷ parts_from separator [] [] (drop (cond v 0 (suc (part_len separator bytes)) + 1) (byte ∷ bytes))
    by_byte true e less rest = parts_before separator part [] [] bytes ∙ ap (λ p. p ∷ parts_from separator [] [] bytes) (sym (append-nil part))
    by_byte false e less rest =
        let n : ℕ = part_len separator bytes in
        rest (omega arith) ∙ ap (λ p. p ∷ parts_from separator [] [] (drop (n + 1) bytes)) (append_assoc part (byte ∷ []) (take n bytes))
        ∙ ap (λ k. (part ++ byte ∷ take n bytes) ∷ parts_from separator [] [] (drop k (byte ∷ bytes))) {x = suc (n + 1)} (omega arith)

pub part_lasts : (separator : ℕ) (part bytes : List ℕ) → length bytes ≤ part_len separator bytes → parts_from separator [] part bytes ≡ (part ++ bytes) ∷ []
part_lasts separator part [] h = ap (λ p. p ∷ []) (sym (append-nil part))
part_lasts separator part (byte ∷ bytes) h = by_byte (byte == separator) h (part_lasts separator (part ++ byte ∷ []) bytes)
  where
    by_byte : (v : Bool) → length (byte ∷ bytes) ≤ cond v 0 (suc (part_len separator bytes)) → (length bytes ≤ part_len separator bytes → parts_from separator [] (part ++ byte ∷ []) bytes ≡ ((part ++ byte ∷ []) ++ bytes) ∷ [])
        → cond v (parts_from separator (part ∷ []) [] bytes) (parts_from separator [] (part ++ byte ∷ []) bytes) ≡ (part ++ byte ∷ bytes) ∷ []
    by_byte true less rest = absurd (omega arith)
    by_byte false less rest = rest (omega arith) ∙ ap (λ p. p ∷ []) (append_assoc part (byte ∷ []) bytes)

pub first_part : (names : List (List ℕ)) (separator : ℕ) (bytes : List ℕ) (len : ℕ) → len ≡ part_len separator bytes → len < length bytes → all_named names (parts_of separator bytes) ≡ named (take len bytes) >>= (λ name. all_named (names ++ name ∷ []) (parts_of separator (drop 1 (drop len bytes))))
unfolding parts_of
first_part names separator bytes len e h =
    rw (drop-drop 1 len bytes) (ap (all_named names) (subst (λ n. parts_from separator [] [] bytes ≡ take n bytes ∷ parts_from separator [] [] (drop (n + 1) bytes)) (sym e) (part_ends separator [] bytes (rw e at h))))

pub last_part : (names : List (List ℕ)) (separator : ℕ) (bytes : List ℕ) (len : ℕ) → len ≡ part_len separator bytes → length bytes ≤ len → all_named names (parts_of separator bytes) ≡ named bytes >>= (λ name. Ok (names ++ name ∷ []))
unfolding parts_of
last_part names separator bytes len e h = ap (all_named names) (part_lasts separator [] bytes (rw e at h))
