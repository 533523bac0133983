-- What two words tell of a line.
use Rattle.std.proofs.Common.{◌≡◌, ℕ, List, [], ◌∷◌, ◌++◌, false, Option, Some, None, refl}
use Rattle.script_words.specs.Words.{Mode, Turn, turn_by, by_turn, words_from}
use Rattle.script_words.specs.Words.Mode.{Between, Plain, Quoted, Escape, Hex, HalfHex, Closed}
use Rattle.script_words.specs.Words.Turn.{Go, Add, End}
use Rattle.script_words.specs.Fields.{asking, is_word}
use Rattle.script_words.specs.Reading.{front_of}
use Rattle.script_words.proofs.Reading.{front_is}

-- the second word stays
pub second_stays : (verb a b : List ℕ) (more : List (List ℕ)) (word : List ℕ) (mode : Mode) (text : List ℕ) → is_word b verb ≡ false → asking verb (words_from (a ∷ b ∷ more) word mode text) ≡ None
second_stays verb a b more word Between [] e = rw e refl
second_stays verb a b more word Plain [] e = rw e refl
second_stays verb a b more word Closed [] e = rw e refl
second_stays verb a b more word Quoted [] e = refl
second_stays verb a b more word Escape [] e = refl
second_stays verb a b more word Hex [] e = refl
second_stays verb a b more word (HalfHex high) [] e = refl
second_stays verb a b more word mode (byte ∷ text) e =
    by_way (turn_by mode byte) (λ next. second_stays verb a b more word next text e) (λ meant next. second_stays verb a b more (word ++ meant ∷ []) next text e) (second_stays verb a b (more ++ word ∷ []) [] Between text e)
  where
    by_way : (turn : Option Turn)
        → ((next : Mode) → asking verb (words_from (a ∷ b ∷ more) word next text) ≡ None)
        → ((meant : ℕ) (next : Mode) → asking verb (words_from (a ∷ b ∷ more) (word ++ meant ∷ []) next text) ≡ None)
        → asking verb (words_from (a ∷ b ∷ (more ++ word ∷ [])) [] Between text) ≡ None
        → asking verb (by_turn turn (λ next. words_from (a ∷ b ∷ more) word next text) (λ meant next. words_from (a ∷ b ∷ more) (word ++ meant ∷ []) next text) (words_from ((a ∷ b ∷ more) ++ word ∷ []) [] Between text)) ≡ None
    by_way None go add end = refl
    by_way (Some (Go next)) go add end = go next
    by_way (Some (Add meant next)) go add end = add meant next
    by_way (Some End) go add end = end

-- where another word stands second, whatever comes behind it
pub other_second : (verb text rest over a b : List ℕ) → front_of text ≡ Some (a, rest) → front_of rest ≡ Some (b, over) → is_word b verb ≡ false → asking verb (words_from [] [] Between text) ≡ None
other_second verb text rest over a b first second other =
    rw (front_is [] text a rest first, front_is (a ∷ []) rest b over second) (second_stays verb a b [] [] Between over other)
