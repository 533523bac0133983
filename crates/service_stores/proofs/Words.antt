-- The words of a line are no longer than a line, and so are the paths in them.
use Rattle.std.proofs.Common.{◌≡◌, ◌≤◌, ℕ, ◌+◌, ◌-◌, ◌==◌, nat_le, nat_lt, cond, Bool, true, false, List, [], ◌∷◌, ◌++◌, length, take, Option, Some, None, Ok, Err, IfOk, refl, arith, length-append, length-take}
use Rattle.std.specs.Prelude.{slice_get, IsTrue}
use Rattle.std.proofs.lemmas.Bool.{leb-true, ltb-false}
use Rattle.base_types.specs.Name.{is_name}
use Rattle.base_types.specs.declared.limits.TheConstants.{LINE_BYTES_MAX, WRITE_BYTES_MAX}
use Rattle.message_types.specs.Soundness.{Each}
use Rattle.script_words.specs.Fields.{all_named, name_at, named, names_of, parts_from, parts_of, text_at, word_at}
use Rattle.script_words.specs.Lines.{content, ends_in, says_nothing, without_end}
use Rattle.script_words.specs.Outcome.{found}
use Rattle.script_words.specs.Words.{
  Add,
  Between,
  Closed,
  End,
  Escape,
  Go,
  HalfHex,
  Hex,
  Mode,
  Plain,
  Quoted,
  Turn,
  by_turn,
  ended,
  turn_by,
  words_from,
  words_of,
  words_of_line,
}
use Rattle.script_words.specs.declared.fault.BadWhy.TheVariants.{BadName, Long, Text, Word}
use Rattle.script_lines.proofs.Kept.{after}
use Rattle.service_stores.proofs.PlayedLists.{each_append, each_get}

-- words of at most so many bytes
abbrev pub AreWithin : ℕ → List (List ℕ) → Type 0
AreWithin most words = Each (λ word. length word ≤ most) words

abbrev IsWithin : ℕ → List ℕ → Type 0
IsWithin most word = length word ≤ most

one_more : (most : ℕ) (words : List (List ℕ)) (word : List ℕ) → AreWithin most words → length word ≤ most →
    AreWithin most (words ++ word ∷ [])
one_more most words word h k = each_append (IsWithin most) words (word ∷ []) h (k, tt)

ended_within : (most : ℕ) (words : List (List ℕ)) (word : List ℕ) (mode : Mode) → AreWithin most words →
    length word ≤ most → IfOk (ended words word mode) (AreWithin most)
ended_within most words word Between h k = h
ended_within most words word Plain h k = one_more most words word h k
ended_within most words word Closed h k = one_more most words word h k
ended_within most words word Quoted h k = tt
ended_within most words word Escape h k = tt
ended_within most words word Hex h k = tt
ended_within most words word (HalfHex digit) h k = tt

words_within : (most : ℕ) (words : List (List ℕ)) (word : List ℕ) (mode : Mode) (text : List ℕ) →
    AreWithin most words → length word + length text ≤ most → IfOk (words_from words word mode text) (AreWithin most)
words_within most words word mode [] h k = ended_within most words word mode h (omega (arith, k))
words_within most words word mode (byte ∷ text) h k =
    by (turn_by mode byte) (λ next. words_within most words word next text h (omega (arith, k)))
    (λ meant next. words_within most words (word ++ meant ∷ []) next text h
    (omega (arith, k, length-append word (meant ∷ []))))
    (words_within most (words ++ word ∷ []) [] Between text (one_more most words word h (omega (arith, k)))
    (omega (arith, k)))
  where
    by : (turn : Option Turn) → ((next : Mode) → IfOk (words_from words word next text) (AreWithin most)) →
        ((meant : ℕ) (next : Mode) → IfOk (words_from words (word ++ meant ∷ []) next text) (AreWithin most)) →
        IfOk (words_from (words ++ word ∷ []) [] Between text) (AreWithin most) →
        IfOk (by_turn turn (λ next. words_from words word next text)
        (λ meant next. words_from words (word ++ meant ∷ []) next text)
        (words_from (words ++ word ∷ []) [] Between text)) (AreWithin most)
    by None go add end = tt
    by (Some (Go next)) go add end = go next
    by (Some (Add meant next)) go add end = add meant next
    by (Some End) go add end = end

-- what a line says is no longer than it
cut_within : (byte : ℕ) (line : List ℕ) → length (without_end byte line) ≤ length line
unfolding without_end
cut_within byte line = by (ends_in byte line)
  where
    by : (v : Bool) → length (cond v (take (length line - 1) line) line) ≤ length line
    by true = omega (arith, length-take (length line - 1) line)
    by false = omega arith

content_within : (line : List ℕ) → length (content line) ≤ length (without_end 10 line)
unfolding content without_end
content_within line = by (ends_in 10 line) (cut_within 13 (take (length line - 1) line))
  where
    by : (v : Bool) → length (without_end 13 (take (length line - 1) line)) ≤ length (take (length line - 1) line) →
        length (cond v (without_end 13 (cond v (take (length line - 1) line) line)) line)
        ≤ length (cond v (take (length line - 1) line) line)
    by true k = k
    by false k = omega arith

pub line_within : (line : List ℕ) → IfOk (words_of_line line) (AreWithin LINE_BYTES_MAX)
unfolding words_of_line words_of
line_within line = by_length (nat_lt LINE_BYTES_MAX (length (without_end 10 line))) refl
  where
    by_content : (v : Bool) → length (content line) ≤ LINE_BYTES_MAX →
        IfOk (cond v (Ok []) (words_from [] [] Between (content line))) (AreWithin LINE_BYTES_MAX)
    by_content true k = tt
    by_content false k = words_within LINE_BYTES_MAX [] [] Between (content line) tt (omega (arith, k))

    by_length : (v : Bool) → nat_lt LINE_BYTES_MAX (length (without_end 10 line)) ≡ v →
        IfOk (cond v (Err Long)
        (cond (says_nothing (content line)) (Ok []) (words_from [] [] Between (content line))))
        (AreWithin LINE_BYTES_MAX)
    by_length true e = tt
    by_length false e =
        let few = ltb-false LINE_BYTES_MAX (length (without_end 10 line)) e in
        let less = content_within line in
        by_content (says_nothing (content line)) (omega (arith, few, less))

-- a word of a line
pub word_within : (most : ℕ) (words : List (List ℕ)) (i : ℕ) → AreWithin most words →
    IfOk (word_at words i) (IsWithin most)
word_within most words i h = by (slice_get words i) (λ word e. each_get (IsWithin most) words i word e h)
  where
    by : (o : Option (List ℕ)) → ((word : List ℕ) → o ≡ Some word → IsWithin most word) →
        IfOk (found Word o) (IsWithin most)
    by None f = tt
    by (Some word) f = f word refl

pub name_is : (words : List (List ℕ)) (i : ℕ) → IfOk (name_at words i) (λ name. IsTrue (is_name name))
unfolding name_at
name_is words i = after (λ name. IsTrue (is_name name)) (word_at words i) named (λ word. by word (is_name word) refl)
  where
    by : (word : List ℕ) (v : Bool) → is_name word ≡ v →
        IfOk (cond v (Ok word) (Err BadName)) (λ name. IsTrue (is_name name))
    by word true e = e
    by word false e = tt

pub text_is : (words : List (List ℕ)) (i : ℕ) → IfOk (text_at words i) (λ bytes. length bytes ≤ WRITE_BYTES_MAX)
unfolding text_at
text_is words i =
    after (λ bytes. length bytes ≤ WRITE_BYTES_MAX) (word_at words i) _
    (λ word. by word (nat_le (length word) WRITE_BYTES_MAX) refl)
  where
    by : (word : List ℕ) (v : Bool) → nat_le (length word) WRITE_BYTES_MAX ≡ v →
        IfOk (cond v (Ok word) (Err Text)) (λ bytes. length bytes ≤ WRITE_BYTES_MAX)
    by word true e = leb-true (length word) WRITE_BYTES_MAX e
    by word false e = tt

-- a path has no more names than bytes
abbrev HasFew : ℕ → List (List ℕ) → Type 0
HasFew most names = length names ≤ most

parts_few : (separator : ℕ) (parts : List (List ℕ)) (part bytes : List ℕ) →
    length (parts_from separator parts part bytes) ≤ length parts + 1 + length bytes
parts_few separator parts part [] = omega (arith, length-append parts (part ∷ []))
parts_few separator parts part (byte ∷ bytes) =
    by (byte == separator) (parts_few separator (parts ++ part ∷ []) [] bytes)
    (parts_few separator parts (part ++ byte ∷ []) bytes)
  where
    by : (v : Bool) →
        length (parts_from separator (parts ++ part ∷ []) [] bytes) ≤ length (parts ++ part ∷ []) + 1 + length bytes →
        length (parts_from separator parts (part ++ byte ∷ []) bytes) ≤ length parts + 1 + length bytes →
        length (cond v (parts_from separator (parts ++ part ∷ []) [] bytes)
        (parts_from separator parts (part ++ byte ∷ []) bytes)) ≤ length parts + 1 + length (byte ∷ bytes)
    by true h k = omega (arith, h, length-append parts (part ∷ []))
    by false h k = omega (arith, k)

named_few : (most : ℕ) (names words : List (List ℕ)) → length names + length words ≤ most →
    IfOk (all_named names words) (HasFew most)
named_few most names [] h = omega (arith, h)
named_few most names (word ∷ words) h =
    after (HasFew most) (named word) _
    (λ name. named_few most (names ++ name ∷ []) words (omega (arith, h, length-append names (name ∷ []))))

pub names_few : (word : List ℕ) → IfOk (names_of word) (HasFew (length word))
unfolding names_of parts_of
names_few [] = tt
names_few (byte ∷ bytes) = by (byte == 47)
  where
    by : (v : Bool) →
        IfOk (cond v (all_named [] (parts_from 47 [] [] bytes)) (Err BadName)) (HasFew (length (byte ∷ bytes)))
    by true =
        let few = parts_few 47 [] [] bytes in
        named_few (length (byte ∷ bytes)) [] (parts_from 47 [] [] bytes) (omega (arith, few))
    by false = tt
