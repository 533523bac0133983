use Rattle.std.proofs.Common.{◌≡◌, ℕ, ◌<◌, ◌/◌, ◌%◌, List, [], ◌∷◌, ◌++◌, Some, Ok, sym, ap, ◌∙◌, arith, append_assoc, append-nil}
use Rattle.std.specs.List.{AllByRecursion}
use Rattle.std.proofs.lemmas.Grind.{common_steps}
use Rattle.script_words.specs.Words.{hex_digit, words_from, words_of}
use Rattle.script_words.specs.Words.Mode.{Between, Quoted}
use Rattle.script_words.specs.Spelling.{hex_of, spelled_byte, spelled_bytes, spelled, IsByte, AreWords, WordsAreReadBack}

pub hex_back : (n : ℕ) → n < 16 → hex_digit (hex_of n) ≡ Some n
hex_back n h = grind (arith, common_steps)

pub byte_back : (words : List (List ℕ)) (word : List ℕ) (byte : ℕ) (rest : List ℕ) → byte < 256 → words_from words word Quoted (spelled_byte byte rest) ≡ words_from words (word ++ byte ∷ []) Quoted rest
byte_back words word byte rest h = grind (arith, common_steps, hex_back (byte / 16) (omega arith), hex_back (byte % 16) (omega arith))

pub bytes_back : (words : List (List ℕ)) (word bytes rest : List ℕ) → AllByRecursion IsByte bytes → words_from words word Quoted (spelled_bytes bytes rest) ≡ words_from words (word ++ bytes) Quoted rest
bytes_back words word [] rest h = ap (λ w. words_from words w Quoted rest) (sym (append-nil word))
bytes_back words word (byte ∷ bytes) rest h =
    byte_back words word byte (spelled_bytes bytes rest) h.0
    ∙ (bytes_back words (word ++ byte ∷ []) bytes rest h.1 ∙ ap (λ w. words_from words w Quoted rest) (append_assoc word (byte ∷ []) bytes))

pub words_back : (done words : List (List ℕ)) → AreWords words → words_from done [] Between (spelled words) ≡ Ok (done ++ words)
words_back done [] h = ap (λ ws. Ok ws) (sym (append-nil done))
words_back done (word ∷ words) h =
    bytes_back done [] word (34 ∷ 32 ∷ spelled words) h.0
    ∙ (words_back (done ++ word ∷ []) words h.1 ∙ ap (λ ws. Ok ws) (append_assoc done (word ∷ []) words))

pub words_read_back : WordsAreReadBack
unfolding words_of
words_read_back words h = words_back [] words h
