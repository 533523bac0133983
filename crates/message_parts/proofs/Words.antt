-- Reading the smallest parts is right.
use Rattle.std.proofs.Common.{◌≡◌, ℕ, zero, suc, ◌^◌, ◌<◌, ◌≤◌, Bool, true, false, ◌&&◌, List, refl, sym, ◌∙◌, ap, arith, Some, None, lit<, append-nil}
use Rattle.std.specs.Prelude.{nat_le, Option}
use Rattle.std.proofs.lemmas.Bool.{and_parts, leb-true}
use Rattle.message_parts.specs.Spelled.{Spelled, ◌&◌, nothing, one_byte, number}
use Rattle.message_parts.specs.Reading.{Reading, number_at, byte_at}
use Rattle.message_parts.specs.Words.{spell_u8, u8_at, spell_u32, u32_at, spell_u64, u64_at, coded, coded_at, flag_code, flag_of, spell_flag, flag_at, host_code, host_of, spell_host, host_at, server_code, server_of, spell_server, server_at, spell_fileset, fileset_at, short, short_at, long, long_at, spell_optional, optional_at, rest_of_optional, is_plain, spell_name, name_at, any_byte, spell_bytes, bytes_at}
use Rattle.message_parts.proofs.More.{more_right}
use Rattle.message_parts.proofs.Parts.{moved, end_right, mapped, byte_right}
use Rattle.message_parts.proofs.Numbers.{number_right}
use Rattle.message_parts.proofs.Items.{counted_right}
use Rattle.message_parts.proofs.Right.{Right, Any, same, IsRight}

pub u8_right : IsRight spell_u8 u8_at
unfolding spell_u8 u8_at
u8_right = number_right 0 255 (omega arith) 1 (omega arith)

pub u32_right : IsRight spell_u32 u32_at
unfolding spell_u32 u32_at
u32_right = number_right 0 4294967295 (omega arith) 4 (lit< tt)

pub u64_right : IsRight spell_u64 u64_at
unfolding spell_u64 u64_at
u64_right = number_right 0 18446744073709551615 (omega arith) 8 (lit< tt)

pub and_true : (b : Bool) → (b && true) ≡ b
and_true true = refl
and_true false = refl

pub code4_bounds : (least most n : ℕ) → (number 4 least most n).fits ≡ true → (least ≤ n) × (n ≤ most)
unfolding number
code4_bounds least most n f =
    let p = and_parts (nat_le least n) (nat_le n most) f in
    (leb-true least n p.0, leb-true n most p.1)

pub code_bounds : (least most n : ℕ) → (number 1 least most n).fits ≡ true → (least ≤ n) × (n ≤ most)
unfolding number
code_bounds least most n f =
    let p = and_parts (nat_le least n) (nat_le n most) f in
    (leb-true least n p.0, leb-true n most p.1)

-- the same as values that are made of the parts
module _ {T A : Type 0} (among : A → Type 0) (spelled : A → Spelled) (build : T → A) (read : List ℕ → Reading A)
    (is : (t : T) → among (build t)) (of : (a : A) → among a → (t : T) × (build t ≡ a))
    (right : Right Any (λ t. spelled (build t)) build read) where
  pub variant_right : Right among spelled same read
  variant_right = moved Any (λ t. spelled (build t)) build among spelled same read
      (λ t bytes s. (build t, record { chosen = is t; fits = s.fits; whole = s.whole }, refl))
      (λ a bytes s.
      let (t, e) = of a s.chosen in
      (t, record { chosen = tt; fits = ap (λ v. (spelled v).fits) e ∙ s.fits; whole = s.whole ∙ ap (λ v. (spelled v).bytes) (sym e) }, e))
      right

module _ {A : Type 0} (least most : ℕ) (code : A → ℕ) (meant : ℕ → A) (order : least ≤ most) (room : most < 256)
    (back : (a : A) → meant (code a) ≡ a) (of : (n : ℕ) → least ≤ n → n ≤ most → code (meant n) ≡ n) where
  pub coded_right : IsRight (coded least most code) (coded_at least most meant)
  unfolding coded coded_at
  coded_right = moved Any (number 1 least most) meant Any (λ a. number 1 least most (code a)) same (coded_at least most meant)
      (λ n bytes s.
      let b = code_bounds least most n s.fits in
      let e = of n b.0 b.1 in
      (meant n, record { chosen = tt; fits = ap (λ v. (number 1 least most v).fits) e ∙ s.fits; whole = s.whole ∙ ap (λ v. (number 1 least most v).bytes) (sym e) }, refl))
      (λ a bytes s. (code a, record { chosen = tt; fits = s.fits; whole = s.whole }, back a))
      (mapped Any (number 1 least most) same meant (number_at 1 least most) (number_right least most order 1 (omega (arith, room))))

pub flag_right : IsRight spell_flag flag_at
flag_right = coded_right 0 1 flag_code flag_of (omega arith) (omega arith) back of
  where
    back : (b : Bool) → flag_of (flag_code b) ≡ b
    back true = refl
    back false = refl

    of : (n : ℕ) → 0 ≤ n → n ≤ 1 → flag_code (flag_of n) ≡ n
    of zero l h = refl
    of (suc zero) l h = refl
    of (suc (suc n)) l h = absurd (omega (arith, h))

pub host_right : IsRight spell_host host_at
host_right = coded_right 0 17 host_code host_of (omega arith) (omega arith) (λ a. refl) (λ n l h. refl)

pub server_right : IsRight spell_server server_at
server_right = coded_right 1 4 server_code server_of (omega arith) (omega arith) (λ a. refl) (λ n l h. refl)

pub fileset_right : IsRight spell_fileset fileset_at
unfolding spell_fileset fileset_at
fileset_right = variant_right Any spell_fileset (λ n. record { 0 = n }) fileset_at (λ t. tt) (λ a c. (a.0, refl))
    (mapped Any spell_u32 same (λ n. record { 0 = n }) u32_at u32_right)

pub short_right : {A : Type 0} (one : A → Spelled) (read : List ℕ → Reading A) → IsRight one read → IsRight (short one) (short_at read)
short_right one read right = counted_right one read right 2 0 65535 (omega arith) (lit< tt)

pub long_right : {A : Type 0} (one : A → Spelled) (read : List ℕ → Reading A) → IsRight one read → IsRight (long one) (long_at read)
long_right one read right = counted_right one read right 8 0 18446744073709551615 (omega arith) (lit< tt)

module _ {A : Type 0} (one : A → Spelled) (read : List ℕ → Reading A) (right : IsRight one read) where
  abbrev pub is_there : Option A → Bool
  is_there None = false
  is_there (Some x) = true

  abbrev pub spell_rest : Option A → Spelled
  spell_rest None = nothing
  spell_rest (Some x) = one x

  abbrev pub optional_parts : Option A → Spelled
  optional_parts o = spell_flag (is_there o) & spell_rest o

  no_value : (o : Option A) → is_there o ≡ false → o ≡ None
  no_value None e = refl
  no_value (Some x) e = absurd (cc)

  a_value : (o : Option A) → is_there o ≡ true → (x : A) × (Some x ≡ o)
  a_value None e = absurd (cc)
  a_value (Some x) e = (x, refl)

  rest_right : (b : Bool) → Right (λ o. Any o × (is_there o ≡ b)) spell_rest same (rest_of_optional read b)
  rest_right false = end_right (λ o. Any o × (is_there o ≡ false)) spell_rest same None None (tt, refl) refl
      (λ o c f. (no_value o c.1, ap (λ v. (spell_rest v).bytes) (no_value o c.1)))
  rest_right true = variant_right (λ o. Any o × (is_there o ≡ true)) spell_rest Some (rest_of_optional read true)
      (λ t. (tt, refl)) (λ o c. a_value o c.1) (mapped Any one same Some read right)

  parts_are : (o : Option A) → ((spell_optional one o).fits ≡ (optional_parts o).fits) × ((spell_optional one o).bytes ≡ (optional_parts o).bytes)
  unfolding spell_optional
  parts_are None = (sym (and_true (spell_flag false).fits), sym (append-nil (spell_flag false).bytes))
  parts_are (Some x) = (refl, refl)

  pub optional_right : IsRight (spell_optional one) (optional_at read)
  unfolding optional_at
  optional_right = moved Any optional_parts same Any (spell_optional one) same (optional_at read)
      (λ o bytes s. (o, record { chosen = tt; fits = (parts_are o).0 ∙ s.fits; whole = s.whole ∙ sym ((parts_are o).1) }, refl))
      (λ o bytes s. (o, record { chosen = tt; fits = sym ((parts_are o).0) ∙ s.fits; whole = s.whole ∙ (parts_are o).1 }, refl))
      (more_right Any spell_flag spell_rest is_there same flag_at (λ b rest. rest_of_optional read b rest) flag_right (λ b f. rest_right b))

pub name_right : IsRight spell_name name_at
unfolding spell_name name_at
name_right = counted_right (one_byte is_plain) (byte_at is_plain) (byte_right is_plain 97 (omega arith) refl) 1 1 60 (omega arith) (omega arith)

pub bytes_right : (most : ℕ) → most < 256 ^ 4 → IsRight (spell_bytes most) (bytes_at most)
unfolding spell_bytes bytes_at
bytes_right most room = counted_right (one_byte any_byte) (byte_at any_byte) (byte_right any_byte 0 (omega arith) refl) 4 0 most (omega arith) room
