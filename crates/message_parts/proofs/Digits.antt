-- Reading and writing a number, digit by digit.
use Rattle.std.proofs.Common.{◌≡◌, ℕ, suc, ◌+◌, ◌-◌, ◌*◌, ◌/◌, ◌%◌, ◌^◌, ◌<◌, ◌≤◌, Bool, true, false, List, [], ◌∷◌, ◌++◌, length, Ok, Err, refl, sym, ◌∙◌, ap, subst, arith, append_assoc}
use Rattle.std.specs.Prelude.{nat_le}
use Rattle.std.proofs.lemmas.Bool.{and_parts, leb-true}
use Rattle.std.proofs.Math.Nat.{div-one, div-eq_of_lt, div-le_self}
use Rattle.message_parts.specs.declared.part.Stopped.{Stopped}
use Rattle.message_parts.specs.declared.part.Stopped.TheVariants.{Bad, Memory}
use Rattle.message_parts.specs.Spelled.{big_endian}
use Rattle.message_parts.specs.Reading.{Reading, ◌>>=◌, byte_at, begins_number, number_from, Fails}
use Rattle.message_parts.proofs.Numbers.{digit}

-- the number that was read so far begins one of the range, and the rest of the reading gives what the whole gives
pub record IsSoFar (width least most : ℕ) (bytes : List ℕ) (lacking front : ℕ) (rest : List ℕ) : Type 0 where
  pub few : lacking ≤ 8
  pub low : least / 256 ^ lacking ≤ front
  pub high : front ≤ most / 256 ^ lacking
  pub read : number_from lacking least most front rest ≡ number_from width least most 0 bytes

pub begin_number : (width least most : ℕ) (bytes : List ℕ) → width ≤ 8 → least ≤ most → most < 256 ^ width → IsSoFar width least most bytes width 0 bytes
begin_number width least most bytes few order top = record {
  few = few;
  low = (let h : least / 256 ^ width ≡ 0 = div-eq_of_lt (omega (arith, top, order)) in rw h (omega arith));
  high = omega arith;
  read = refl;
}

passed : (test : ℕ → Bool) (v : Bool) (b : ℕ) (bs : List ℕ) (byte : ℕ) (rest : List ℕ) → test b ≡ v → byte_at test (b ∷ bs) ≡ Ok (byte, rest) → (test byte ≡ true)
passed test true b bs byte rest t e =
    let r : Path (Reading ℕ) (Ok (b, bs)) (Ok (byte, rest)) = rw t at e in
    let p : Path (ℕ × List ℕ) (b, bs) (byte, rest) = cc in
    let h : b ≡ byte = ap (λ v. v.0) p in
    rw (← h) t
passed test false b bs byte rest t e = absurd (let r : Path (Reading ℕ) (Err (suc (length bs))) (Ok (byte, rest)) = rw t at e in cc)

pub byte_passed : (test : ℕ → Bool) (bytes : List ℕ) (byte : ℕ) (rest : List ℕ) → byte_at test bytes ≡ Ok (byte, rest) → test byte ≡ true
byte_passed test [] byte rest e = absurd (let r : Path (Reading ℕ) (Err 0) (Ok (byte, rest)) = e in cc)
byte_passed test (b ∷ bs) byte rest e = passed test (test b) b bs byte rest refl e

one_less : (n : ℕ) → 0 < n → n ≡ suc (n - 1)
one_less n h = omega arith

pub next_number : (width least most : ℕ) (bytes : List ℕ) (lacking front : ℕ) (rest : List ℕ) (byte : ℕ) (behind : List ℕ) → 0 < lacking
    → byte_at (λ b. begins_number (lacking - 1) least most (256 * front + b)) rest ≡ Ok (byte, behind)
    → IsSoFar width least most bytes lacking front rest → IsSoFar width least most bytes (lacking - 1) (256 * front + byte) behind
next_number width least most bytes lacking front rest byte behind pos e so_far =
    let t : begins_number (lacking - 1) least most (256 * front + byte) ≡ true = byte_passed (λ b. begins_number (lacking - 1) least most (256 * front + b)) rest byte behind e in
    let p = and_parts (nat_le (least / 256 ^ (lacking - 1)) (256 * front + byte)) (nat_le (256 * front + byte) (most / 256 ^ (lacking - 1))) t in
    let k : lacking ≡ suc (lacking - 1) = one_less lacking pos in
    let one : number_from (suc (lacking - 1)) least most front rest ≡ number_from (lacking - 1) least most (256 * front + byte) behind = ap (λ v. v >>= λ b r. number_from (lacking - 1) least most (256 * front + b) r) e in
    record {
      few = (let f = so_far.few in omega arith);
      low = leb-true (least / 256 ^ (lacking - 1)) (256 * front + byte) p.0;
      high = leb-true (256 * front + byte) (most / 256 ^ (lacking - 1)) p.1;
      read = sym one ∙ ap (λ v. number_from v least most front rest) (sym k) ∙ so_far.read;
    }

pub number_stops : (width least most : ℕ) (bytes : List ℕ) (lacking front : ℕ) (rest : List ℕ) (e : Stopped) → 0 < lacking
    → Fails e (byte_at (λ b. begins_number (lacking - 1) least most (256 * front + b)) rest)
    → IsSoFar width least most bytes lacking front rest → Fails e (number_from width least most 0 bytes)
number_stops width least most bytes lacking front rest Memory pos e so_far = tt
number_stops width least most bytes lacking front rest (Bad left) pos e so_far =
    let k : lacking ≡ suc (lacking - 1) = one_less lacking pos in
    let one : number_from (suc (lacking - 1)) least most front rest ≡ Err left = ap (λ v. v >>= λ b r. number_from (lacking - 1) least most (256 * front + b) r) e in
    sym so_far.read ∙ ap (λ v. number_from v least most front rest) k ∙ one

-- one digit more has room in 64 bits
pub digit_room : (lacking most front : ℕ) → 0 < lacking → most < 2 ^ 64 → front ≤ most / 256 ^ lacking → 256 * front + 255 < 2 ^ 64
digit_room lacking most front pos top high =
    let k : lacking ≡ suc (lacking - 1) = one_less lacking pos in
    let h : front ≤ most / 256 ^ suc (lacking - 1) = subst (λ v. front ≤ most / 256 ^ v) k high in
    let j : front ≤ most / 256 ^ (lacking - 1) / 256 = rw (← digit most (lacking - 1)) h in
    let d : most / 256 ^ (lacking - 1) ≤ most = div-le_self most (256 ^ (lacking - 1)) in
    omega (arith, j, d, top)

pub end_number : (width least most : ℕ) (bytes : List ℕ) (front : ℕ) (rest : List ℕ) → IsSoFar width least most bytes 0 front rest
    → (number_from width least most 0 bytes ≡ Ok (front, rest)) × (least ≤ front) × (front ≤ most)
end_number width least most bytes front rest so_far =
    (sym so_far.read, (let l = so_far.low in rw (← div-one least) l), (let h = so_far.high in rw (← div-one most) h))

pub next_digits : (lacking n : ℕ) (xs : List ℕ) → 0 < lacking → (xs ++ (n / 256 ^ (lacking - 1) % 256) ∷ []) ++ big_endian (lacking - 1) n ≡ xs ++ big_endian lacking n
next_digits lacking n xs pos =
    let k : lacking ≡ suc (lacking - 1) = one_less lacking pos in
    append_assoc xs ((n / 256 ^ (lacking - 1) % 256) ∷ []) (big_endian (lacking - 1) n) ∙ ap (λ v. xs ++ big_endian v n) (sym k)
