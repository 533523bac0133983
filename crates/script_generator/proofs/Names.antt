-- The files of hosts have names.
use Rattle.std.proofs.Common.{◌≡◌, ℕ, ◌+◌, ◌%◌, ◌^◌, ◌<◌, ◌≤◌, [], ◌∷◌, length, true, false, not, ◌&&◌, ◌==◌, nat_le, decimal, refl, ap, arith}
use Rattle.std.specs.List.{list_any}
use Rattle.std.proofs.lemmas.Bool.{and_from, or_from, ne_eqb, le-leb}
use Rattle.std.proofs.lemmas.Fmt.{decimal_by_steps, length-decimal-le}
use Rattle.std.proofs.lemmas.List.Folds.{list_any-append}
use Rattle.base_types.specs.declared.limits.TheConstants.{NAME_BYTES_MAX}
use Rattle.base_types.specs.Name.{is_name, is_separator}

-- a digit separates no names
pub digit_parts_none : (n : ℕ) → n < 10 → list_any is_separator ((48 + n) ∷ []) ≡ false
digit_parts_none n h = or_from (is_separator (48 + n)) false (or_from ((48 + n) == 47) ((48 + n) == 0) (ne_eqb (48 + n) 47 (λ e. omega arith)) (ne_eqb (48 + n) 0 (λ e. omega arith))) refl

pub number_parts_none : (n : ℕ) → n < 2 ^ 64 → list_any is_separator (decimal n) ≡ false
number_parts_none = decimal_by_steps (λ n digits. list_any is_separator digits ≡ false) digit_parts_none
    (λ n digits h k. rw (list_any-append is_separator digits ((48 + n % 10) ∷ [])) (or_from (list_any is_separator digits) (list_any is_separator ((48 + n % 10) ∷ [])) k (digit_parts_none (n % 10) (omega arith))))

-- 'h' and a number is a name
pub file_is_name : (n : ℕ) → n < 2 ^ 8 → is_name (104 ∷ decimal n) ≡ true
file_is_name n h =
    let wide : n < 2 ^ 64 = omega arith in
    let few : length (decimal n) ≤ 3 = length-decimal-le 3 n (omega arith) (omega arith) wide in
    let none : list_any is_separator (decimal n) ≡ false = number_parts_none n wide in
    and_from (nat_le 1 (length (104 ∷ decimal n)) && nat_le (length (104 ∷ decimal n)) NAME_BYTES_MAX) (not (list_any is_separator (104 ∷ decimal n)))
    (and_from (nat_le 1 (length (104 ∷ decimal n))) (nat_le (length (104 ∷ decimal n)) NAME_BYTES_MAX) (le-leb 1 (length (104 ∷ decimal n)) (omega arith)) (le-leb (length (104 ∷ decimal n)) 60 (omega arith)))
    (ap not none)
