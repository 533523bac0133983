-- A line of JSON tells the JSON, and the first line of a text ends at its first line feed.
use Rattle.std.proofs.Common.{◌≡◌, ◌≢◌, ◌∙◌, ℕ, ◌+◌, ◌<◌, ◌≤◌, ◌^◌, ◌/◌, ◌%◌, ◌==◌, ◌||◌, List, [], ◌∷◌, ◌++◌, Bool, true, false, cond, Option, Some, None, decimal, refl, sym, ap, ap₂, subst, arith}
use Rattle.std.specs.Prelude.{⊤, nat_lt}
use Rattle.std.specs.Char.{digit_char}
use Rattle.std.specs.Str.Parse.{AllDigits}
use Rattle.std.proofs.lemmas.Fmt.{decimal_is_IsNumeral}
use Rattle.std.proofs.lemmas.Bool.{eqb-true}
use Rattle.std.proofs.lemmas.Str.Parse.{digit_from_value}
use Rattle.json.specs.Json.{Json, null, boolean, number, string, array, object, Items, no_items, item, Members, no_members, member, value}
use Rattle.json.specs.Lex.{tokens}
use Rattle.json.specs.Print.{ArePrintable, ends, escape, escape_byte, escape_letter, print, print_from, quoted, separator, token_text}
use Rattle.json.specs.Token as token
use Rattle.json.specs.Token.{Token}
use Rattle.json.specs.Tree.{depth, items_tokens, json_tokens, members_tokens}
use Rattle.json.proofs.Printed.Decimals.{IsNumber-decimal}
use Rattle.json.proofs.Printed.Tokens.{tokens-print}
use Rattle.json.proofs.Printed.Trees.{value-json_tokens}
use Rattle.message_types.specs.Soundness.{Each}
use Rattle.run_journal.specs.Text.{line_text}
use Rattle.run_reading.proofs.Forms.{Good, ItemsGood, MembersGood}

pub each_append : {A : Type 0} (P : A → Type 0) (xs ys : List A) → Each P xs → Each P ys → Each P (xs ++ ys)
each_append P [] ys p q = q
each_append P (x ∷ xs) ys p q = (p.0, each_append P xs ys p.1 q)

-- ---- tokens

-- a token as programs write them
abbrev TokenGood : Token → Type 0
TokenGood token.begin_object = ⊤
TokenGood token.end_object = ⊤
TokenGood token.begin_array = ⊤
TokenGood token.end_array = ⊤
TokenGood (token.key s) = ⊤
TokenGood (token.string s) = ⊤
TokenGood (token.number s) = (n : ℕ) × (n < 2 ^ 64) × (s ≡ decimal n)
TokenGood (token.boolean b) = ⊤
TokenGood token.null = ⊤
TokenGood token.bad = ⊥

abbrev AreGood : List Token → Type 0
AreGood ts = Each TokenGood ts

mutual
  tokens_good : (j : Json) → Good j → AreGood (json_tokens j)
  tokens_good null g = (tt, tt)
  tokens_good (boolean b) g = (tt, tt)
  tokens_good (number s) g = (g, tt)
  tokens_good (string s) g = (tt, tt)
  tokens_good (array js) g = (tt, items_good js g)
  tokens_good (object ms) g = (tt, members_good ms g)

  items_good : (js : Items) → ItemsGood js → AreGood (items_tokens js)
  items_good no_items g = (tt, tt)
  items_good (item j js) g = each_append TokenGood (json_tokens j) (items_tokens js) (tokens_good j g.0) (items_good js g.1)

  members_good : (ms : Members) → MembersGood ms → AreGood (members_tokens ms)
  members_good no_members g = (tt, tt)
  members_good (member k j ms) g = (tt, each_append TokenGood (json_tokens j) (members_tokens ms) (tokens_good j g.0) (members_good ms g.1))

printable : (ts : List Token) → AreGood ts → ArePrintable ts
unfolding ArePrintable
printable [] g = tt
printable (token.begin_object ∷ ts) g = (tt, printable ts g.1)
printable (token.end_object ∷ ts) g = (tt, printable ts g.1)
printable (token.begin_array ∷ ts) g = (tt, printable ts g.1)
printable (token.end_array ∷ ts) g = (tt, printable ts g.1)
printable (token.key s ∷ ts) g = (tt, printable ts g.1)
printable (token.string s ∷ ts) g = (tt, printable ts g.1)
printable (token.number s ∷ ts) g = (rw g.0.2 (IsNumber-decimal g.0.0 g.0.1), printable ts g.1)
printable (token.boolean b ∷ ts) g = (tt, printable ts g.1)
printable (token.null ∷ ts) g = (tt, printable ts g.1)
printable (token.bad ∷ ts) g = absurd g.0

-- ---- no line feed in a print

abbrev NoFeed : List ℕ → Type 0
NoFeed bytes = Each (λ byte. byte ≢ 10) bytes

no_feed_append : (xs ys : List ℕ) → NoFeed xs → NoFeed ys → NoFeed (xs ++ ys)
no_feed_append xs ys p q = each_append (λ byte. byte ≢ 10) xs ys p q

digit_at : (b : Bool) (n : ℕ) → cond b (48 + n) (87 + n) ≢ 10
digit_at true n e = omega (arith, e)
digit_at false n e = omega (arith, e)

digit_no : (n : ℕ) → digit_char n ≢ 10
digit_no n e = digit_at (nat_lt n 10) n e

letter_at : (a b c d f g h : Bool) (x : ℕ) → (x == 34) ≡ a → (x == 92) ≡ b
    → cond (a || b) x (cond c 98 (cond d 102 (cond f 110 (cond g 114 (cond h 116 0))))) ≢ 10
letter_at true b c d f g h x p q e = omega (arith, e, eqb-true x 34 p)
letter_at false true c d f g h x p q e = omega (arith, e, eqb-true x 92 q)
letter_at false false true d f g h x p q e = omega (arith, e)
letter_at false false false true f g h x p q e = omega (arith, e)
letter_at false false false false true g h x p q e = omega (arith, e)
letter_at false false false false false true h x p q e = omega (arith, e)
letter_at false false false false false false true x p q e = omega (arith, e)
letter_at false false false false false false false x p q e = omega (arith, e)

letter_no : (x : ℕ) → escape_letter x ≢ 10
letter_no x e = letter_at (x == 34) (x == 92) (x == 8) (x == 12) (x == 10) (x == 13) (x == 9) x refl refl e

-- what has no letter of its own is no line feed
plain_no : (x : ℕ) → nat_lt 0 (escape_letter x) ≡ false → x ≢ 10
plain_no x h e =
    let k : true ≡ false = subst (λ y. nat_lt 0 (escape_letter y) ≡ false) e h in
    cc

byte_cases : (a b : Bool) (x : ℕ) → a ≡ nat_lt 0 (escape_letter x)
    → NoFeed (cond a (92 ∷ escape_letter x ∷ []) (cond b (92 ∷ 117 ∷ 48 ∷ 48 ∷ digit_char (x / 16) ∷ digit_char (x % 16) ∷ []) (x ∷ [])))
byte_cases true b x h = ((λ e. omega (arith, e)), (letter_no x, tt))
byte_cases false true x h =
    ((λ e. omega (arith, e)), ((λ e. omega (arith, e)), ((λ e. omega (arith, e)), ((λ e. omega (arith, e)), (digit_no (x / 16), (digit_no (x % 16), tt))))))
byte_cases false false x h = (plain_no x (sym h), tt)

escape_byte_no : (x : ℕ) → NoFeed (escape_byte x)
unfolding escape_byte
escape_byte_no x = byte_cases (nat_lt 0 (escape_letter x)) (nat_lt x 32) x refl

escape_no : (s : List ℕ) → NoFeed (escape s)
escape_no [] = tt
escape_no (x ∷ xs) = no_feed_append (escape_byte x) (escape xs) (escape_byte_no x) (escape_no xs)

quoted_no : (s : List ℕ) → NoFeed (quoted s)
quoted_no s = ((λ e. omega (arith, e)), no_feed_append (escape s) (34 ∷ []) (escape_no s) ((λ e. omega (arith, e)), tt))

digits_no : (ds : List ℕ) → AllDigits 10 ds → NoFeed ds
digits_no [] d = tt
digits_no (c ∷ cs) d = ((λ e. omega (arith, e, digit_from_value c d.0)), digits_no cs d.1)

one_no : (x : ℕ) → x ≢ 10 → NoFeed (x ∷ [])
one_no x h = (h, tt)

token_no : (t : Token) → TokenGood t → NoFeed (token_text t)
token_no token.begin_object g = one_no 123 (λ e. omega (arith, e))
token_no token.end_object g = one_no 125 (λ e. omega (arith, e))
token_no token.begin_array g = one_no 91 (λ e. omega (arith, e))
token_no token.end_array g = one_no 93 (λ e. omega (arith, e))
token_no (token.key s) g = no_feed_append (quoted s) (58 ∷ []) (quoted_no s) (one_no 58 (λ e. omega (arith, e)))
token_no (token.string s) g = quoted_no s
token_no (token.number s) g = rw g.2 (digits_no (decimal g.0) (decimal_is_IsNumeral g.0 g.1).0.1)
token_no (token.boolean true) g = ((λ e. omega (arith, e)), ((λ e. omega (arith, e)), ((λ e. omega (arith, e)), ((λ e. omega (arith, e)), tt))))
token_no (token.boolean false) g =
    ((λ e. omega (arith, e)), ((λ e. omega (arith, e)), ((λ e. omega (arith, e)), ((λ e. omega (arith, e)), ((λ e. omega (arith, e)), tt)))))
token_no token.null g = ((λ e. omega (arith, e)), ((λ e. omega (arith, e)), ((λ e. omega (arith, e)), ((λ e. omega (arith, e)), tt))))
token_no token.bad g = tt

comma_no : (b : Bool) → NoFeed (cond b (44 ∷ []) [])
comma_no true = one_no 44 (λ e. omega (arith, e))
comma_no false = tt

print_no : (later : Bool) (ts : List Token) → AreGood ts → NoFeed (print_from later ts)
unfolding print_from
print_no later [] g = tt
print_no later (t ∷ ts) g =
    no_feed_append (separator later t) (token_text t ++ print_from (ends t) ts) (comma_no _)
    (no_feed_append (token_text t) (print_from (ends t) ts) (token_no t g.0) (print_no (ends t) ts g.1))

pub json_no : (j : Json) → Good j → NoFeed (print (json_tokens j))
json_no j g = print_no false (json_tokens j) (tokens_good j g)

-- ---- the JSON of a print

tokens_same : (a b : Json) → Good a → Good b → print (json_tokens a) ≡ print (json_tokens b) → json_tokens a ≡ json_tokens b
tokens_same a b p q e =
    sym (tokens-print (json_tokens a) (printable (json_tokens a) (tokens_good a p)))
    ∙ ap tokens e ∙ tokens-print (json_tokens b) (printable (json_tokens b) (tokens_good b q))

-- what was read of tokens
abbrev read_of : Option (Json × List Token) → Json
read_of None = null
read_of (Some read) = read.0

read_same : (a b : Json) (d : ℕ) → depth a ≤ d → depth b ≤ d → json_tokens a ≡ json_tokens b → a ≡ b
read_same a b d p q e =
    let x = value-json_tokens a d [] p in
    let y = value-json_tokens b d [] q in
    sym (ap read_of x) ∙ ap (λ ts. read_of (value d (ts ++ []))) e ∙ ap read_of y

pub json_same : (a b : Json) → Good a → Good b → print (json_tokens a) ≡ print (json_tokens b) → a ≡ b
json_same a b p q e =
    read_same a b (depth a + depth b) (omega arith) (omega arith) (tokens_same a b p q e)

-- ---- lines

split : (xs ys r s : List ℕ) → NoFeed xs → NoFeed ys → (xs ++ 10 ∷ []) ++ r ≡ (ys ++ 10 ∷ []) ++ s → (xs ≡ ys) × (r ≡ s)
split [] [] r s p q e = (refl, cc)
split [] (y ∷ ys) r s p q e = let h : y ≡ 10 = cc in absurd (q.0 h)
split (x ∷ xs) [] r s p q e = let h : x ≡ 10 = cc in absurd (p.0 h)
split (x ∷ xs) (y ∷ ys) r s p q e =
    let h : x ≡ y = cc in
    let k : (xs ++ 10 ∷ []) ++ r ≡ (ys ++ 10 ∷ []) ++ s = cc in
    let t = split xs ys r s p.1 q.1 k in
    (ap₂ (λ v vs. v ∷ vs) h t.0, t.1)

some_line : (xs r : List ℕ) → (xs ++ 10 ∷ []) ++ r ≢ []
some_line [] r e = cc
some_line (x ∷ xs) r e = cc

-- lines that begin with these
pub line_same : (a b : Json) (r s : List ℕ) → Good a → Good b → line_text a ++ r ≡ line_text b ++ s → (a ≡ b) × (r ≡ s)
unfolding line_text
line_same a b r s p q e =
    let t = split (print (json_tokens a)) (print (json_tokens b)) r s (json_no a p) (json_no b q) e in
    (json_same a b p q t.0, t.1)

pub line_some : (a : Json) (r : List ℕ) → line_text a ++ r ≢ []
unfolding line_text
line_some a r e = some_line (print (json_tokens a)) r e
