-- Reading bytes one by one is taking so many of them.
use Rattle.std.proofs.Common.{◌≡◌, ℕ, zero, suc, ◌+◌, ◌-◌, ◌<◌, ◌≤◌, Bool, true, false, ◌&&◌, List, [], ◌∷◌, ◌++◌, length, Ok, Err, refl, sym, ◌∙◌, ap, arith, take, drop, get_or}
use Rattle.std.specs.Prelude.{bit_and, ◌%◌, nat_le, not}
use Rattle.std.specs.List.{list_any}
use Rattle.std.proofs.lemmas.Bool.{and_from, le-leb, not-true}
use Rattle.base_types.specs.Name.{is_name, is_separator}
use Rattle.message_parts.specs.Spelled.{one_byte, items, number, big_endian}
use Rattle.message_parts.specs.Reading.{◌>>=◌, items_at, byte_at}
use Rattle.message_parts.specs.Words.{is_plain, any_byte, spell_name, spell_bytes}
use Rattle.std.proofs.lemmas.Nat.{and_mask}
use Rattle.message_parts.proofs.More.{ok_both, ok_then}
use Rattle.message_parts.proofs.Digits.{byte_passed}
use Rattle.std.proofs.Common.{add-one, append_assoc}
use Rattle.std.proofs.lemmas.List.{length-drop, drop_all}
use Rattle.std.proofs.Math.Seq.{drop-cons}

-- bytes are written as they stand
pub one_bytes : (test : ℕ → Bool) (xs : List ℕ) → (items (one_byte test) xs).bytes ≡ xs
unfolding items
one_bytes test [] = refl
one_bytes test (x ∷ xs) = ap (λ v. x ∷ v) (one_bytes test xs)

pub any_short : (count : ℕ) (bytes : List ℕ) → length bytes < count → items_at (byte_at any_byte) count bytes ≡ Err 0
unfolding items_at
any_short zero bytes h = absurd (omega (arith, h))
any_short (suc count) [] h = refl
any_short (suc count) (b ∷ bytes) h =
    let e = any_short count bytes (omega (arith, h)) in
    ap (λ v. v >>= λ xs rest. Ok (b ∷ xs, rest)) e

pub any_whole : (count : ℕ) (bytes : List ℕ) → count ≤ length bytes → items_at (byte_at any_byte) count bytes ≡ Ok (take count bytes, drop count bytes)
unfolding items_at
any_whole zero bytes h = refl
any_whole (suc count) [] h = absurd (omega (arith, h))
any_whole (suc count) (b ∷ bytes) h =
    let e = any_whole count bytes (omega (arith, h)) in
    ap (λ v. v >>= λ xs rest. Ok (b ∷ xs, rest)) e

-- the next byte of a name
pub plain_next : (i : ℕ) (bytes : List ℕ) → i < length bytes → is_plain (get_or bytes i 0) ≡ true → byte_at is_plain (drop i bytes) ≡ Ok (get_or bytes i 0, drop (i + 1) bytes)
plain_next i bytes h p = rw (add-one, drop-cons bytes i 0) (rw p refl)

pub plain_stops : (i : ℕ) (bytes : List ℕ) → i < length bytes → is_plain (get_or bytes i 0) ≡ false → byte_at is_plain (drop i bytes) ≡ Err (length bytes - i)
plain_stops i bytes h p =
    let e : drop i bytes ≡ get_or bytes i 0 ∷ drop (suc i) bytes = drop-cons bytes i 0 h in
    let l : suc (length (drop (suc i) bytes)) ≡ length bytes - i = simp length-drop (omega (arith, h)) in
    rw e (rw p (ap (λ v. Err v) l))

pub plain_ends : (i : ℕ) (bytes : List ℕ) → length bytes ≤ i → byte_at is_plain (drop i bytes) ≡ Err 0
plain_ends i bytes h = let e : drop i bytes ≡ [] = drop_all i bytes h in rw e refl

pub plain_length : (count : ℕ) (bytes xs rest : List ℕ) → items_at (byte_at is_plain) count bytes ≡ Ok (xs, rest) → (length xs ≡ count) × (list_any is_separator xs ≡ false)
unfolding items_at
plain_length zero bytes xs rest e =
    let h = (ok_both [] xs bytes rest e).0 in
    (rw (← h) refl, rw (← h) refl)
plain_length (suc count) bytes xs rest e =
    let (b, mid, f, n) = ok_then (byte_at is_plain bytes) (λ x r. items_at (byte_at is_plain) count r >>= λ ys t. Ok (x ∷ ys, t)) xs rest e in
    let (ys, last, g, m) = ok_then (items_at (byte_at is_plain) count mid) (λ zs t. Ok (b ∷ zs, t)) xs rest n in
    let (l, s) = plain_length count mid ys last g in
    let h : b ∷ ys ≡ xs = (ok_both (b ∷ ys) xs last rest m).0 in
    let p : is_plain b ≡ true = byte_passed is_plain bytes b mid f in
    let q : is_separator b ≡ false = not-true (is_separator b) p in
    (rw (← h) (omega (arith, l)), rw (← h, q) s)

pub plain_name : (count : ℕ) (bytes xs rest : List ℕ) → 1 ≤ count → count ≤ 60 → items_at (byte_at is_plain) count bytes ≡ Ok (xs, rest) → is_name xs ≡ true
plain_name count bytes xs rest least most e =
    let (l, s) = plain_length count bytes xs rest e in
    and_from (nat_le 1 (length xs) && nat_le (length xs) 60) (not (list_any is_separator xs))
    (and_from (nat_le 1 (length xs)) (nat_le (length xs) 60) (le-leb 1 (length xs) (omega (arith, l, least))) (le-leb (length xs) 60 (omega (arith, l, most))))
    (rw s refl)

pub name_written : (out one new name : List ℕ) → one ≡ out ++ big_endian 1 (length name) → new ≡ one ++ name → new ≡ out ++ (spell_name name).bytes
unfolding spell_name number
name_written out one new name e f = f ∙ ap (λ v. v ++ name) e ∙ append_assoc out (big_endian 1 (length name)) name ∙ ap (λ v. out ++ (big_endian 1 (length name) ++ v)) (sym (one_bytes is_plain name))

pub bytes_written : (out one new bytes : List ℕ) (most : ℕ) → one ≡ out ++ big_endian 4 (length bytes) → new ≡ one ++ bytes → new ≡ out ++ (spell_bytes most bytes).bytes
unfolding spell_bytes number
bytes_written out one new bytes most e f = f ∙ ap (λ v. v ++ bytes) e ∙ append_assoc out (big_endian 4 (length bytes)) bytes ∙ ap (λ v. out ++ (big_endian 4 (length bytes) ++ v)) (sym (one_bytes any_byte bytes))

pub six_bits : (n : ℕ) → n ≤ 63 → bit_and n 63 ≡ n
six_bits n h = and_mask n 6 ∙ (let e : n % 64 ≡ n = omega (arith, h) in e)
