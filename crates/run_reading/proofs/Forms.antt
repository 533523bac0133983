-- The forms of JSON values, read back.
use Rattle.std.proofs.Common.{◌≡◌, ◌∙◌, ℕ, zero, suc, ◌+◌, ◌-◌, ◌*◌, ◌/◌, ◌%◌, ◌<◌, ◌≤◌, ◌^◌, min, List, [], ◌∷◌, ◌++◌, map, Bool, true, false, cond, Option, Some, None, decimal, refl, ap, ap₂, sym, subst, arith}
use Rattle.std.specs.Prelude.{⊤, IfSome, nat_lt}
use Rattle.std.specs.List.{flat_map}
use Rattle.std.specs.Char.{encode_utf8}
use Rattle.std.specs.Coded.{le_prop}
use Rattle.std.specs.Str.Parse.{digits_value}
use Rattle.std.proofs.lemmas.Fmt.{decimal_is_IsNumeral}
use Rattle.std.proofs.lemmas.Bool.{le-ltb, ltb-false}
use Rattle.json.specs.Json.{Json, null, boolean, number, string, array, object, Items, no_items, item, Members, no_members, member}
use Rattle.json.specs.Value.{items_of}
use Rattle.base_types.specs.Name.{same_name}
use Rattle.base_types.specs.declared.span.Span.{Span}
use Rattle.message_types.specs.Soundness.{Each}
use Rattle.message_json.specs.Parts.{span_json}
use Rattle.message_json.specs.Values.{whole, letters, list, maybe}
use Rattle.run_reading.specs.Messages.{IsWhole, IsByte}

-- ---- what is looked at

abbrev nth : ℕ → Members → Json
nth n no_members = null
nth zero (member k j ms) = j
nth (suc n) (member k j ms) = nth n ms

-- the member of this place, from 0
abbrev pub part : ℕ → Json → Json
part n (object ms) = nth n ms
part n _ = null

-- what a case holds
abbrev pub held : Json → Json
held j = part 0 j

abbrev first_name : Members → List ℕ
first_name no_members = []
first_name (member k j ms) = k

-- the name of a case
abbrev case_name : Json → List ℕ
case_name (string s) = s
case_name (object ms) = first_name ms
case_name _ = []

abbrev pub is_case : List ℕ → Json → Bool
is_case name j = same_name name (case_name j)

abbrev pub is_null : Json → Bool
is_null null = true
is_null _ = false

-- ---- numbers of JSON that are those of a program

abbrev mutual
  pub Good : Json → Type 0
  Good null = ⊤
  Good (boolean b) = ⊤
  Good (number s) = (n : ℕ) × (n < 2 ^ 64) × (s ≡ decimal n)
  Good (string s) = ⊤
  Good (array js) = ItemsGood js
  Good (object ms) = MembersGood ms

  pub ItemsGood : Items → Type 0
  ItemsGood no_items = ⊤
  ItemsGood (item j js) = Good j × ItemsGood js

  pub MembersGood : Members → Type 0
  MembersGood no_members = ⊤
  MembersGood (member k j ms) = Good j × MembersGood ms

-- what is written of it is read as it
abbrev pub IsRead : {A : Type 0} → (Json → A) → (A → Json) → A → Type 0
IsRead of json x = (of (json x) ≡ x) × Good (json x)

-- ---- flags, numbers, bytes, lists and what may lack

abbrev pub flag_of : Json → Bool
flag_of (boolean b) = b
flag_of _ = false

unfoldable pub whole_of : Json → ℕ
whole_of (number s) = digits_value 10 s
whole_of _ = 0

pub whole_is : (n : ℕ) → IsWhole n → IsRead whole_of whole n
unfolding whole whole_of
whole_is n h = ((decimal_is_IsNumeral n h).1, (n, h, refl))

pub whole_some : (n : ℕ) → is_null (whole n) ≡ false
unfolding whole
whole_some n = refl

-- bytes behind the first byte of a letter that has two, and others
abbrev bytes_from : Option ℕ → List ℕ → List ℕ
bytes_from None [] = []
bytes_from None (x ∷ xs) = cond (nat_lt x 128) (x ∷ bytes_from None xs) (bytes_from (Some x) xs)
bytes_from (Some first) [] = []
bytes_from (Some first) (x ∷ xs) = ((first - 192) * 64 + (x - 128)) ∷ bytes_from None xs

unfoldable pub letters_of : Json → List ℕ
letters_of (string s) = bytes_from None s
letters_of _ = []

-- a byte is its own letter, or the letter of two bytes
letter : (one two : Bool) (x : ℕ) (far rest more : List ℕ) → nat_lt x 128 ≡ one → nat_lt x 2048 ≡ two → x < 256 → bytes_from None rest ≡ more
    → bytes_from None (cond one (x ∷ []) (cond two ((192 + x / 64) ∷ (128 + x % 64) ∷ []) far) ++ rest) ≡ x ∷ more
letter true two x far rest more p q h e = rw (p, e)
letter false false x far rest more p q h e = absurd (omega (arith, h, ltb-false x 2048 q))
letter false true x far rest more p q h e =
    let k : nat_lt (192 + x / 64) 128 ≡ false = le-ltb (192 + x / 64) 128 (omega arith) in
    let whole : ((192 + x / 64) - 192) * 64 + ((128 + x % 64) - 128) ≡ x = omega arith in
    rw (k, whole, e)

byte_back : (x : ℕ) (rest more : List ℕ) → x < 256 → bytes_from None rest ≡ more → bytes_from None (encode_utf8 x ++ rest) ≡ x ∷ more
unfolding encode_utf8
byte_back x rest more h e = letter (nat_lt x 128) (nat_lt x 2048) x _ rest more refl refl h e

bytes_back : (bytes : List ℕ) → Each IsByte bytes → bytes_from None (flat_map encode_utf8 bytes) ≡ bytes
bytes_back [] t = refl
bytes_back (x ∷ xs) t = byte_back x (flat_map encode_utf8 xs) xs t.0 (bytes_back xs t.1)

pub letters_is : (bytes : List ℕ) → Each IsByte bytes → IsRead letters_of letters bytes
unfolding letters letters_of
letters_is bytes t = (bytes_back bytes t, tt)

abbrev items_read : {A : Type 0} → (Json → A) → Items → List A
items_read of no_items = []
items_read of (item j js) = of j ∷ items_read of js

unfoldable pub list_of : {A : Type 0} → (Json → A) → Json → List A
list_of of (array js) = items_read of js
list_of of _ = []

each_is : {A : Type 0} (P : A → Type 0) (of : Json → A) (json : A → Json) → ((x : A) → P x → IsRead of json x)
    → (xs : List A) → Each P xs → (items_read of (items_of (map json xs)) ≡ xs) × ItemsGood (items_of (map json xs))
each_is P of json read [] t = (refl, tt)
each_is P of json read (x ∷ xs) t =
    let a = read x t.0 in
    let b = each_is P of json read xs t.1 in
    (ap₂ (λ y ys. y ∷ ys) a.0 b.0, (a.1, b.1))

pub list_is : {A : Type 0} (P : A → Type 0) (of : Json → A) (json : A → Json) → ((x : A) → P x → IsRead of json x)
    → (xs : List A) → Each P xs → IsRead (list_of of) (list json) xs
unfolding list list_of
list_is P of json read xs t = each_is P of json read xs t

-- where nothing is asked of what a list has
every : {A : Type 0} (xs : List A) → Each (λ (x : A). ⊤) xs
every [] = tt
every (x ∷ xs) = (tt, every xs)

pub all_is : {A : Type 0} (of : Json → A) (json : A → Json) → ((x : A) → IsRead of json x)
    → (xs : List A) → IsRead (list_of of) (list json) xs
all_is {A} of json read xs = list_is (λ (x : A). ⊤) of json (λ x t. read x) xs (every xs)

unfoldable pub maybe_of : {A : Type 0} → (Json → A) → Json → Option A
maybe_of of j = cond (is_null j) None (Some (of j))

pub maybe_is : {A : Type 0} (P : A → Type 0) (of : Json → A) (json : A → Json) → ((x : A) → P x → IsRead of json x)
    → ((x : A) → is_null (json x) ≡ false) → (o : Option A) → IfSome o P → IsRead (maybe_of of) (maybe json) o
unfolding maybe maybe_of
maybe_is P of json read some None t = (refl, tt)
maybe_is P of json read some (Some x) t =
    let a = read x t in
    (rw (some x, a.0), a.1)

-- ---- spans

abbrev made : (a b : ℕ) → a ≤ b → b ≤ 65536 → Span
made a b h k = record { from = a; to = b; ordered = h; within = k }

-- the span of these ends, where they are those of one
abbrev between : ℕ → ℕ → Span
between from to = made (min from (min to 65536)) (min to 65536) (omega arith) (omega arith)

same_ends : (a b : ℕ) (h h' : a ≤ b) (k k' : b ≤ 65536) → made a b h k ≡ made a b h' k'
same_ends a b h h' k k' = ap (λ (v : a ≤ b). made a b v k) (le_prop h h') ∙ ap (λ (v : b ≤ 65536). made a b h' v) (le_prop k k')

between_ends : (s : Span) → between s.from s.to ≡ s
between_ends s =
    let o = s.ordered in
    let w = s.within in
    let e : min s.to 65536 ≡ s.to = omega arith in
    let f : min s.from (min s.to 65536) ≡ s.from = omega arith in
    let P : ℕ → ℕ → Type 0 = λ a b. (h : a ≤ b) (k : b ≤ 65536) → made a b h k ≡ s in
    let base : P s.from s.to = λ h k. same_ends s.from s.to h s.ordered k s.within in
    let one : P s.from (min s.to 65536) = subst (λ b. P s.from b) (sym e) base in
    let two : P (min s.from (min s.to 65536)) (min s.to 65536) = subst (λ a. P a (min s.to 65536)) (sym f) one in
    two (between s.from s.to).ordered (between s.from s.to).within

unfoldable pub span_of : Json → Span
span_of j = between (whole_of (part 0 j)) (whole_of (part 1 j))

pub span_is : (s : Span) → IsRead span_of span_json s
unfolding span_json span_of
span_is s =
    let o = s.ordered in
    let w = s.within in
    let a = whole_is s.from (omega arith) in
    let b = whole_is s.to (omega arith) in
    (ap₂ between a.0 b.0 ∙ between_ends s, (a.1, (b.1, tt)))
