use Rattle.std.proofs.Common.{◌≡◌, ℕ, zero, suc, ◌+◌, ◌==◌, ◌<◌, Bool, true, false, cond, List, [], ◌∷◌, length, take, drop, refl, ap, ◌∙◌, arith}
use Rattle.memchr.specs.Find.{Nowhere, NoneBefore, Passes, is_byte}
use Rattle.script_words.specs.Lines.{lines_of, line_len, begun_by}

-- the first line ends at its line feed
pub lines_split : (bytes : List ℕ) → 0 < length bytes → lines_of bytes ≡ take (line_len bytes) bytes ∷ lines_of (drop (line_len bytes) bytes)
unfolding lines_of
lines_split [] h = absurd (omega arith)
lines_split (byte ∷ []) h =
    elim (byte == 10) as (λ v. cond v ((byte ∷ []) ∷ lines_of []) (begun_by byte (lines_of [])) ≡ take (cond v 1 (suc (line_len []))) (byte ∷ []) ∷ lines_of (drop (cond v 1 (suc (line_len []))) (byte ∷ []))) [ true ↦ refl | false ↦ refl ]
lines_split (byte ∷ b ∷ bytes) h =
    let more = lines_split (b ∷ bytes) (omega arith) in
    elim (byte == 10) as (λ v. cond v ((byte ∷ []) ∷ lines_of (b ∷ bytes)) (begun_by byte (lines_of (b ∷ bytes))) ≡ take (cond v 1 (suc (line_len (b ∷ bytes)))) (byte ∷ b ∷ bytes) ∷ lines_of (drop (cond v 1 (suc (line_len (b ∷ bytes)))) (byte ∷ b ∷ bytes))) [ true ↦ refl | false ↦ rw more refl ]

-- a search for the line feed tells how many bytes the first line has
pub none_found : (bytes : List ℕ) → Nowhere (Passes (is_byte 10) bytes) 0 (length bytes) → line_len bytes ≡ length bytes
none_found [] h = refl
none_found (byte ∷ bytes) h = by_byte (byte == 10) refl (none_found bytes (λ k low high. h (suc k) (omega arith) (omega (arith, high))))
  where
    by_byte : (ends : Bool) → (byte == 10) ≡ ends → line_len bytes ≡ length bytes → line_len (byte ∷ bytes) ≡ length (byte ∷ bytes)
    by_byte true e more = absurd (h 0 (omega arith) (omega arith) e)
    by_byte false e more = rw e (ap suc more)

pub first_found : (bytes : List ℕ) (at : ℕ) → NoneBefore (Passes (is_byte 10) bytes) 0 (length bytes) at → Passes (is_byte 10) bytes at → line_len bytes ≡ at + 1
first_found [] at b p = absurd (omega (arith, b.high))
first_found (byte ∷ bytes) zero b p = rw p refl
first_found (byte ∷ bytes) (suc at) b p = by_byte (byte == 10) refl (first_found bytes at later p)
  where
    later : NoneBefore (Passes (is_byte 10) bytes) 0 (length bytes) at
    later = record {
      low = omega arith;
      high = omega (arith, b.high);
      before = λ k low high. b.before (suc k) (omega arith) (omega (arith, high));
    }

    by_byte : (ends : Bool) → (byte == 10) ≡ ends → line_len bytes ≡ at + 1 → line_len (byte ∷ bytes) ≡ suc at + 1
    by_byte true e more = absurd (b.before 0 (omega arith) (omega arith) e)
    by_byte false e more = let same : suc (at + 1) ≡ suc at + 1 = omega arith in rw e (ap suc more ∙ same)
