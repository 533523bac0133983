-- What fits, of numbers, lists and values that may be absent; and what follows of what fits.
use Rattle.std.proofs.Common.{◌≡◌, ◌≤◌, ℕ, Bool, true, false, ◌&&◌, List, [], ◌∷◌, length, Some, None, refl, arith}
use Rattle.std.specs.Prelude.{Option, IfSome}
use Rattle.std.proofs.lemmas.Bool.{and_from, le-leb}
use Rattle.message_types.specs.Soundness.{Each}
use Rattle.message_parts.specs.Spelled.{Spelled, number, items}
use Rattle.message_parts.specs.Words.{coded, spell_flag, spell_optional, short, long}
use Rattle.message_laws.specs.Typed.{IsListOf}

pub both : {a b : Bool} → a ≡ true → b ≡ true → (a && b) ≡ true
both {a} {b} p q = and_from a b p q

pub number_in : (width least most n : ℕ) → least ≤ n → n ≤ most → (number width least most n).fits ≡ true
unfolding number
number_in width least most n low high = both (le-leb least n low) (le-leb n most high)

pub flag_in : (b : Bool) → (spell_flag b).fits ≡ true
unfolding coded number
flag_in true = refl
flag_in false = refl

pub each_both : {A : Type 0} (P Q : A → Type 0) (xs : List A) → Each P xs → Each Q xs → Each (λ x. P x × Q x) xs
each_both P Q [] p q = tt
each_both P Q (x ∷ xs) p q = ((p.0, q.0), each_both P Q xs p.1 q.1)

pub items_in : {A : Type 0} (P : A → Type 0) (one : A → Spelled) → ((x : A) → P x → (one x).fits ≡ true)
    → (xs : List A) → Each P xs → (items one xs).fits ≡ true
unfolding items
items_in P one fits [] p = refl
items_in P one fits (x ∷ xs) p = both (fits x p.0) (items_in P one fits xs p.1)

pub short_in : {A : Type 0} (P : A → Type 0) (one : A → Spelled) → ((x : A) → P x → (one x).fits ≡ true)
    → (xs : List A) → length xs ≤ 65535 → Each P xs → (short one xs).fits ≡ true
short_in P one fits xs few p = both (number_in 2 0 65535 (length xs) (omega arith) few) (items_in P one fits xs p)

pub long_in : {A : Type 0} (P Q : A → Type 0) (one : A → Spelled) → ((x : A) → P x → Q x → (one x).fits ≡ true)
    → (xs : List A) → Each P xs → IsListOf Q xs → (long one xs).fits ≡ true
long_in P Q one fits xs p q =
    let most : ℕ = 18446744073709551615 in
    both (number_in 8 0 18446744073709551615 (length xs) (omega arith) (let h = q.0 in omega (arith, h)))
    (items_in (λ x. P x × Q x) one (λ x b. fits x b.0 b.1) xs (each_both P Q xs p q.1))

pub optional_in : {A : Type 0} (P Q : A → Type 0) (one : A → Spelled) → ((x : A) → P x → Q x → (one x).fits ≡ true)
    → (o : Option A) → IfSome o P → IfSome o Q → (spell_optional one o).fits ≡ true
unfolding spell_optional
optional_in P Q one fits None p q = flag_in false
optional_in P Q one fits (Some x) p q = both (flag_in true) (fits x p q)
