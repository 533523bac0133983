-- The steps of a reader of words say what its text says.
use Rattle.std.proofs.Common.{◌≡◌, ℕ, zero, suc, ◌+◌, ◌*◌, ◌%◌, ◌<◌, ◌==◌, List, [], ◌∷◌, ◌++◌, take, drop, Bool, true, false, not, cond, ◌&&◌, ◌||◌, nat_le, Option, Some, None, Ok, Err, refl, sym, ap, ◌∙◌, arith, append_assoc, append-nil}
use Rattle.std.proofs.lemmas.Bool.{and_parts, eqb-true, leb-true, not-true}
use Rattle.std.proofs.lemmas.Option.{same_Some}
use Rattle.script_words.specs.declared.fault.BadWhy.TheVariants.{Text}
use Rattle.script_words.specs.Words.{is_in, hex_digit, words_from}
use Rattle.script_words.specs.Words.Mode.{Between, Plain, Quoted, Escape, Hex, Closed}
use Rattle.script_words.specs.Reading.{space_len, plain_len, is_text, quoted_len, hex_byte, hex_at, escape_at, begins_plain, begins_run, behind, with_rest, front_at, front_of}

-- a byte that is seen is no space
pub no_space : (byte : ℕ) → is_in 33 126 byte ≡ true → (byte == 32) ≡ false
no_space byte h = by_test (byte == 32) refl
  where
    by_test : (v : Bool) → (byte == 32) ≡ v → v ≡ false
    by_test false e = refl
    by_test true e = let same = eqb-true byte 32 e in let least = leb-true 33 byte (and_parts (nat_le 33 byte) (nat_le byte 126) h).0 in absurd (omega arith)

-- a word without quotes ends as one in quotes does
pub plain_closed : (words : List (List ℕ)) (word text : List ℕ) → words_from words word Plain text ≡ words_from words (word ++ take (plain_len text) text) Closed (drop (plain_len text) text)
plain_closed words word [] = ap (λ w. Ok (words ++ w ∷ [])) (sym (append-nil word))
plain_closed words word (byte ∷ text) = by_byte (is_in 33 126 byte) refl (byte == 32) refl (plain_closed words (word ++ byte ∷ []) text)
  where
    by_byte : (seen : Bool) → is_in 33 126 byte ≡ seen → (space : Bool) → (byte == 32) ≡ space
        → words_from words (word ++ byte ∷ []) Plain text ≡ words_from words ((word ++ byte ∷ []) ++ take (plain_len text) text) Closed (drop (plain_len text) text)
        → words_from words word Plain (byte ∷ text) ≡ words_from words (word ++ take (cond seen (suc (plain_len text)) 0) (byte ∷ text)) Closed (drop (cond seen (suc (plain_len text)) 0) (byte ∷ text))
    by_byte true e space f rest = rw (no_space byte e, e) (rest ∙ ap (λ w. words_from words w Closed (drop (plain_len text) text)) (append_assoc word (byte ∷ []) (take (plain_len text) text)))
    by_byte false e true f rest = rw (f, append-nil word) refl
    by_byte false e false f rest = rw (f, e) refl

pub plain_reads : (words : List (List ℕ)) (text : List ℕ) (len : ℕ) → begins_plain text ≡ true → len ≡ plain_len text → 0 < len → words_from words [] Between text ≡ words_from words (take len text) Closed (drop len text)
plain_reads words [] len b e some = absurd (cc)
plain_reads words (byte ∷ text) len b e some = by_byte (is_in 33 126 byte) refl
  where
    parts : (not (byte == 32) ≡ true) × (not (byte == 34) ≡ true)
    parts = and_parts (not (byte == 32)) (not (byte == 34)) b

    by_byte : (seen : Bool) → is_in 33 126 byte ≡ seen → words_from words [] Between (byte ∷ text) ≡ words_from words (take len (byte ∷ text)) Closed (drop len (byte ∷ text))
    by_byte true k =
        let long : len ≡ suc (plain_len text) = e ∙ (rw k refl) in
        rw (not-true (byte == 32) parts.0, not-true (byte == 34) parts.1, k, long) (plain_closed words (byte ∷ []) text)
    by_byte false k = let short : len ≡ 0 = e ∙ (rw k refl) in absurd (omega arith)

pub plain_fails : (words : List (List ℕ)) (text : List ℕ) → begins_plain text ≡ true → plain_len text ≡ 0 → words_from words [] Between text ≡ Err Text
plain_fails words [] b e = absurd (cc)
plain_fails words (byte ∷ text) b e = by_byte (is_in 33 126 byte) refl e
  where
    parts : (not (byte == 32) ≡ true) × (not (byte == 34) ≡ true)
    parts = and_parts (not (byte == 32)) (not (byte == 34)) b

    by_byte : (seen : Bool) → is_in 33 126 byte ≡ seen → cond seen (suc (plain_len text)) 0 ≡ 0 → words_from words [] Between (byte ∷ text) ≡ Err Text
    by_byte true k none = absurd (omega arith)
    by_byte false k none = rw (not-true (byte == 32) parts.0, not-true (byte == 34) parts.1, k) refl

-- bytes in quotes
pub text_parts : (byte : ℕ) → is_text byte ≡ true → (is_in 32 126 byte ≡ true) × ((byte == 34) ≡ false) × ((byte == 92) ≡ false)
text_parts byte h =
    let last = and_parts (is_in 32 126 byte && not (byte == 34)) (not (byte == 92)) h in
    let first = and_parts (is_in 32 126 byte) (not (byte == 34)) last.0 in
    (first.0, not-true (byte == 34) first.1, not-true (byte == 92) last.1)

pub run_more : (words : List (List ℕ)) (word text : List ℕ) → words_from words word Quoted text ≡ words_from words (word ++ take (quoted_len text) text) Quoted (drop (quoted_len text) text)
run_more words word [] = refl
run_more words word (byte ∷ text) = by_byte (is_text byte) refl (run_more words (word ++ byte ∷ []) text)
  where
    by_byte : (own : Bool) → is_text byte ≡ own
        → words_from words (word ++ byte ∷ []) Quoted text ≡ words_from words ((word ++ byte ∷ []) ++ take (quoted_len text) text) Quoted (drop (quoted_len text) text)
        → words_from words word Quoted (byte ∷ text) ≡ words_from words (word ++ take (cond own (suc (quoted_len text)) 0) (byte ∷ text)) Quoted (drop (cond own (suc (quoted_len text)) 0) (byte ∷ text))
    by_byte true e rest =
        let parts = text_parts byte e in
        rw (parts.1, parts.2, parts.0) (rest ∙ ap (λ w. words_from words w Quoted (drop (quoted_len text) text)) (append_assoc word (byte ∷ []) (take (quoted_len text) text)))
    by_byte false e rest = rw (append-nil word) refl

pub run_reads : (words : List (List ℕ)) (word text : List ℕ) (len : ℕ) → len ≡ quoted_len text → words_from words word Quoted text ≡ words_from words (word ++ take len text) Quoted (drop len text)
run_reads words word text len e = rw e (run_more words word text)

pub run_fails : (words : List (List ℕ)) (word text : List ℕ) → begins_run text ≡ true → quoted_len text ≡ 0 → words_from words word Quoted text ≡ Err Text
run_fails words word [] b e = absurd (cc)
run_fails words word (byte ∷ text) b e = by_byte (is_in 32 126 byte) refl e
  where
    parts : (not (byte == 34) ≡ true) × (not (byte == 92) ≡ true)
    parts = and_parts (not (byte == 34)) (not (byte == 92)) b

    by_byte : (seen : Bool) → is_in 32 126 byte ≡ seen → cond (seen && not (byte == 34) && not (byte == 92)) (suc (quoted_len text)) 0 ≡ 0 → words_from words word Quoted (byte ∷ text) ≡ Err Text
    by_byte true k none = let some : suc (quoted_len text) ≡ 0 = rw (parts.0, parts.1) at none in absurd (omega arith)
    by_byte false k none = rw (not-true (byte == 34) parts.0, not-true (byte == 92) parts.1, k) refl

-- escapes
pub escape_reads : (words : List (List ℕ)) (word text : List ℕ) (meant used : ℕ) → escape_at text ≡ Some (meant, used) → words_from words word Escape text ≡ words_from words (word ++ meant ∷ []) Quoted (drop used text)
escape_reads words word [] meant used e = absurd (cc)
escape_reads words word (byte ∷ text) meant used e = by_byte ((byte == 34) || (byte == 92)) refl (byte == 120) refl e
  where
    by_hex : (text : List ℕ) → hex_at text ≡ Some (meant, used) → words_from words word Hex text ≡ words_from words (word ++ meant ∷ []) Quoted (drop used (byte ∷ text))
    by_hex [] k = absurd (cc)
    by_hex (high ∷ []) k = absurd (cc)
    by_hex (high ∷ low ∷ more) k = by_digits (hex_digit high) (hex_digit low) refl refl k
      where
        by_digits : (a b : Option ℕ) → hex_digit high ≡ a → hex_digit low ≡ b → hex_byte a b ≡ Some (meant, used) → words_from words word Hex (high ∷ low ∷ more) ≡ words_from words (word ++ meant ∷ []) Quoted (drop used (byte ∷ high ∷ low ∷ more))
        by_digits None b f g h = absurd (cc)
        by_digits (Some a) None f g h = absurd (cc)
        by_digits (Some a) (Some b) f g h =
            let both : ((a % 16) * 16 + b, 3) ≡ (meant, used) = same_Some ((a % 16) * 16 + b, 3) (meant, used) h in
            let is : (a % 16) * 16 + b ≡ meant = ap (λ p. p.0) both in
            let three : 3 ≡ used = ap (λ p. p.1) both in
            rw (f, g, is, ← three) refl

    by_byte : (own : Bool) → ((byte == 34) || (byte == 92)) ≡ own → (hex : Bool) → (byte == 120) ≡ hex → cond own (Some (byte, 1)) (cond hex (hex_at text) None) ≡ Some (meant, used) → words_from words word Escape (byte ∷ text) ≡ words_from words (word ++ meant ∷ []) Quoted (drop used (byte ∷ text))
    by_byte true f hex g k =
        let both : (byte, 1) ≡ (meant, used) = same_Some (byte, 1) (meant, used) k in
        let is : byte ≡ meant = ap (λ p. p.0) both in
        let one : 1 ≡ used = ap (λ p. p.1) both in
        rw (f, ← is, ← one) refl
    by_byte false f true g k = rw (f, g) (by_hex text k)
    by_byte false f false g k = absurd (cc)

pub escape_fails : (words : List (List ℕ)) (word text : List ℕ) → escape_at text ≡ None → words_from words word Escape text ≡ Err Text
escape_fails words word [] e = refl
escape_fails words word (byte ∷ text) e = by_byte ((byte == 34) || (byte == 92)) refl (byte == 120) refl e
  where
    by_hex : (text : List ℕ) → hex_at text ≡ None → words_from words word Hex text ≡ Err Text
    by_hex [] k = refl
    by_hex (high ∷ []) k = by_digit (hex_digit high) refl
      where
        by_digit : (a : Option ℕ) → hex_digit high ≡ a → words_from words word Hex (high ∷ []) ≡ Err Text
        by_digit None f = rw f refl
        by_digit (Some a) f = rw f refl
    by_hex (high ∷ low ∷ more) k = by_digits (hex_digit high) (hex_digit low) refl refl k
      where
        by_digits : (a b : Option ℕ) → hex_digit high ≡ a → hex_digit low ≡ b → hex_byte a b ≡ None → words_from words word Hex (high ∷ low ∷ more) ≡ Err Text
        by_digits None b f g h = rw f refl
        by_digits (Some a) None f g h = rw (f, g) refl
        by_digits (Some a) (Some b) f g h = absurd (cc)

    by_byte : (own : Bool) → ((byte == 34) || (byte == 92)) ≡ own → (hex : Bool) → (byte == 120) ≡ hex → cond own (Some (byte, 1)) (cond hex (hex_at text) None) ≡ None → words_from words word Escape (byte ∷ text) ≡ Err Text
    by_byte true f hex g k = absurd (cc)
    by_byte false f true g k = rw (f, g) (by_hex text k)
    by_byte false f false g k = rw (f, g) refl

-- spaces
pub past_spaces : (words : List (List ℕ)) (word text : List ℕ) → words_from words word Between text ≡ words_from words word Between (drop (space_len text) text)
past_spaces words word [] = refl
past_spaces words word (byte ∷ text) = by_byte (byte == 32) refl (past_spaces words word text)
  where
    by_byte : (space : Bool) → (byte == 32) ≡ space → words_from words word Between text ≡ words_from words word Between (drop (space_len text) text)
        → words_from words word Between (byte ∷ text) ≡ words_from words word Between (drop (cond space (suc (space_len text)) 0) (byte ∷ text))
    by_byte true e rest = rw e rest
    by_byte false e rest = refl

pub spaces_read : (words : List (List ℕ)) (word text : List ℕ) (len : ℕ) → len ≡ space_len text → words_from words word Between text ≡ words_from words word Between (drop len text)
spaces_read words word text len e = rw e (past_spaces words word text)

-- a word without quotes in front, and what ends it
pub closed_ends : (words : List (List ℕ)) (read text word rest : List ℕ) → with_rest read (behind text) ≡ Some (word, rest) → words_from words read Closed text ≡ words_from (words ++ word ∷ []) [] Between rest
closed_ends words read [] word rest e =
    let both : (read, []) ≡ (word, rest) = same_Some (read, []) (word, rest) e in
    let is : read ≡ word = ap (λ p. p.0) both in
    let left : [] ≡ rest = ap (λ p. p.1) both in
    rw (← is, ← left) refl
closed_ends words read (byte ∷ text) word rest e = by_byte (byte == 32) refl e
  where
    by_byte : (space : Bool) → (byte == 32) ≡ space → with_rest read (cond space (Some text) None) ≡ Some (word, rest) → words_from words read Closed (byte ∷ text) ≡ words_from (words ++ word ∷ []) [] Between rest
    by_byte true k h =
        let both : (read, text) ≡ (word, rest) = same_Some (read, text) (word, rest) h in
        let is : read ≡ word = ap (λ p. p.0) both in
        let left : text ≡ rest = ap (λ p. p.1) both in
        rw (k, ← is, ← left) refl
    by_byte false k h = absurd (cc)

pub front_reads : (words : List (List ℕ)) (text word rest : List ℕ) → front_at text ≡ Some (word, rest) → words_from words [] Between text ≡ words_from (words ++ word ∷ []) [] Between rest
front_reads words [] word rest e = absurd (cc)
front_reads words (byte ∷ text) word rest e = by_begin (begins_plain (byte ∷ text)) refl e
  where
    by_space : (space : Bool) → (byte == 32) ≡ space → begins_plain (byte ∷ text) ≡ true → with_rest [] (cond space (Some text) None) ≡ Some (word, rest) → words_from words [] Between (byte ∷ text) ≡ words_from (words ++ word ∷ []) [] Between rest
    by_space true k b h = let other = not-true (byte == 32) (and_parts (not (byte == 32)) (not (byte == 34)) b).0 in absurd (cc)
    by_space false k b h = absurd (cc)

    by_len : (len : ℕ) → plain_len (byte ∷ text) ≡ len → begins_plain (byte ∷ text) ≡ true → with_rest (take len (byte ∷ text)) (behind (drop len (byte ∷ text))) ≡ Some (word, rest) → words_from words [] Between (byte ∷ text) ≡ words_from (words ++ word ∷ []) [] Between rest
    by_len zero k b h = by_space (byte == 32) refl b h
    by_len (suc n) k b h =
        plain_reads words (byte ∷ text) (suc n) b (sym k) (omega arith)
        ∙ closed_ends words (take (suc n) (byte ∷ text)) (drop (suc n) (byte ∷ text)) word rest h

    by_begin : (plain : Bool) → begins_plain (byte ∷ text) ≡ plain → cond plain (with_rest (take (plain_len (byte ∷ text)) (byte ∷ text)) (behind (drop (plain_len (byte ∷ text)) (byte ∷ text)))) None ≡ Some (word, rest) → words_from words [] Between (byte ∷ text) ≡ words_from (words ++ word ∷ []) [] Between rest
    by_begin true b h = by_len (plain_len (byte ∷ text)) refl b h
    by_begin false b h = absurd (cc)

pub front_is : (words : List (List ℕ)) (text word rest : List ℕ) → front_of text ≡ Some (word, rest) → words_from words [] Between text ≡ words_from (words ++ word ∷ []) [] Between rest
front_is words text word rest e = past_spaces words [] text ∙ front_reads words (drop (space_len text) text) word rest e
