-- The runs that are printed of a file have its bytes.
use Rattle.std.proofs.Common.{Bool, List, None, Some, ap, arith, cond, false, inl, inr, is_some, length, nat_le, refl, subst, suc, sym, take, true, unwrap_or, zero, ℕ, ◌&&◌, ◌+◌, ◌-◌, ◌<◌, ◌==◌, ◌∙◌, ◌∷◌, ◌≡◌, ◌≤◌, ◌⊎◌, []}
use Rattle.std.specs.List.{prefix_len}
use Rattle.std.specs.Prelude.{if◌then◌else◌, not, slice_get}
use Rattle.std.proofs.lemmas.Grind.{common_steps}
use Rattle.base_types.specs.Image.{byte_at}
use Rattle.run_rules.specs.Views.{byte_in, byte_of}
use Rattle.script_output.specs.Dump.{before_zero, runs_after, runs_of}
use Rattle.tree_calls.specs.declared.part.Piece.{Piece}
use Rattle.run_dump.specs.Shown.{AreTold}

-- a run that begins later has no byte before
not_yet : (from at : ℕ) → at < from → nat_le from at ≡ false
not_yet from at h = grind (arith, common_steps, h)

none_before : (last pos : ℕ) (bytes : List ℕ) (at : ℕ) → at < pos → byte_of (runs_after last pos bytes) at ≡ None
none_before last pos [] at low = refl
none_before last pos (byte ∷ bytes) at low =
    by ((last == 0) && not (byte == 0)) (none_before byte (pos + 1) bytes at (omega (arith, low)))
  where
    by : (b : Bool) → byte_of (runs_after byte (pos + 1) bytes) at ≡ None →
        byte_of (if b then record { from = pos; bytes = before_zero (byte ∷ bytes) } ∷ runs_after byte (pos + 1) bytes
        else runs_after byte (pos + 1) bytes) at ≡ None
    by false rest = rest
    by true rest =
        ap (λ c. if is_some (if c then slice_get (before_zero (byte ∷ bytes)) (at - pos) else None)
        then (if c then slice_get (before_zero (byte ∷ bytes)) (at - pos) else None)
        else byte_of (runs_after byte (pos + 1) bytes) at) (not_yet pos at low)
        ∙ rest

-- what stands before the first zero
abbrev front : Bool → ℕ → List ℕ → List ℕ
front b byte rest = cond b (byte ∷ rest) []

front_is : (byte : ℕ) (bytes : List ℕ) →
    before_zero (byte ∷ bytes) ≡ front (not (byte == 0)) byte (before_zero bytes)
front_is byte bytes = by (not (byte == 0)) (prefix_len (λ b. not (b == 0)) bytes)
  where
    by : (b : Bool) (n : ℕ) → take (cond b (1 + n) 0) (byte ∷ bytes) ≡ front b byte (take n bytes)
    by true n = ap (λ k. take k (byte ∷ bytes)) (let one : 1 + n ≡ suc n = omega arith in one)
    by false n = refl

got_before : (bytes : List ℕ) (i : ℕ) →
    (slice_get (before_zero bytes) i ≡ Some (byte_at bytes i)) ⊎
    ((slice_get (before_zero bytes) i ≡ None) × (length (before_zero bytes) ≤ i))
got_before [] i = inr (refl, omega arith)
got_before (byte ∷ bytes) i =
    subst (λ xs. (slice_get xs i ≡ Some (byte_at (byte ∷ bytes) i)) ⊎ ((slice_get xs i ≡ None) × (length xs ≤ i)))
    (sym (front_is byte bytes)) (by (not (byte == 0)) i (λ j. got_before bytes j))
  where
    by : (b : Bool) (i : ℕ) →
        ((j : ℕ) → (slice_get (before_zero bytes) j ≡ Some (byte_at bytes j)) ⊎
        ((slice_get (before_zero bytes) j ≡ None) × (length (before_zero bytes) ≤ j))) →
        (slice_get (front b byte (before_zero bytes)) i ≡ Some (byte_at (byte ∷ bytes) i)) ⊎
        ((slice_get (front b byte (before_zero bytes)) i ≡ None)
        × (length (front b byte (before_zero bytes)) ≤ i))
    by false i rest = inr (refl, omega arith)
    by true zero rest = inl refl
    by true (suc i) rest = next (rest i)
      where
        next : (slice_get (before_zero bytes) i ≡ Some (byte_at bytes i)) ⊎
            ((slice_get (before_zero bytes) i ≡ None) × (length (before_zero bytes) ≤ i)) →
            (slice_get (before_zero bytes) i ≡ Some (byte_at bytes i)) ⊎
            ((slice_get (before_zero bytes) i ≡ None) × (suc (length (before_zero bytes)) ≤ suc i))
        next (inl e) = inl e
        next (inr (e, past)) = inr (e, omega (arith, past))

zero_so : (byte : ℕ) → (byte == 0) ≡ true → byte ≡ 0
zero_so byte e = grind (arith, common_steps, e)

not_zero : (byte : ℕ) → (byte == 0) ≡ false → byte ≡ 0 → ⊥
not_zero byte e same = let clash : true ≡ false = sym (ap (λ b. b == 0) same) ∙ e in cc

in_place : (pos n : ℕ) → nat_le pos (pos + n) ≡ true
in_place pos n = grind (arith, common_steps)

-- no earlier run has a byte from a position on
abbrev Free : ℕ → List ℕ → ℕ → Type 0
Free last bytes i = (last ≡ 0) ⊎ (length (before_zero bytes) ≤ i)

abbrev run_at : ℕ → ℕ → List ℕ → Piece
run_at pos byte bytes = record { from = pos; bytes = before_zero (byte ∷ bytes) }

abbrev runs : Bool → ℕ → ℕ → List ℕ → List Piece
runs b pos byte bytes =
    if b then run_at pos byte bytes ∷ runs_after byte (pos + 1) bytes else runs_after byte (pos + 1) bytes

-- the run that begins here
run_told : (pos byte n : ℕ) (bytes : List ℕ) → (byte == 0) ≡ false →
    byte_in (run_at pos byte bytes) (pos + n) ≡ slice_get (byte ∷ before_zero bytes) n
run_told pos byte n bytes e =
    ap (λ b. if b then slice_get (before_zero (byte ∷ bytes)) ((pos + n) - pos) else None) (in_place pos n)
    ∙ ap (slice_get (before_zero (byte ∷ bytes))) (let same : (pos + n) - pos ≡ n = omega arith in same)
    ∙ ap (λ xs. slice_get xs n) (front_is byte bytes ∙ ap (λ b. front (not b) byte (before_zero bytes)) e)

-- bytes before the first zero are counted
one_more : (byte : ℕ) (bytes : List ℕ) → (byte == 0) ≡ false →
    length (before_zero (byte ∷ bytes)) ≡ suc (length (before_zero bytes))
one_more byte bytes e =
    ap length (front_is byte bytes ∙ ap (λ b. front (not b) byte (before_zero bytes)) e)

at_first : (last pos byte : ℕ) (bytes : List ℕ) → Free last (byte ∷ bytes) 0 → (b c : Bool) → (last == 0) ≡ b →
    (byte == 0) ≡ c → unwrap_or (byte_of (runs (b && not c) pos byte bytes) (pos + 0)) 0 ≡ byte
at_first last pos byte bytes free true false e f =
    ap (λ o. unwrap_or (if is_some o then o else byte_of (runs_after byte (pos + 1) bytes) (pos + 0)) 0)
    (run_told pos byte 0 bytes f)
at_first last pos byte bytes free true true e f =
    ap (λ o. unwrap_or o 0) (none_before byte (pos + 1) bytes (pos + 0) (omega arith)) ∙ sym (zero_so byte f)
at_first last pos byte bytes free false true e f =
    ap (λ o. unwrap_or o 0) (none_before byte (pos + 1) bytes (pos + 0) (omega arith)) ∙ sym (zero_so byte f)
at_first last pos byte bytes (inl none) false false e f = absurd (not_zero last e none)
at_first last pos byte bytes (inr few) false false e f =
    let more = one_more byte bytes f in absurd (omega (arith, few, more))

-- The byte at a position is told, where no earlier run has it.
told : (last pos : ℕ) (bytes : List ℕ) (i : ℕ) → Free last bytes i →
    unwrap_or (byte_of (runs_after last pos bytes) (pos + i)) 0 ≡ byte_at bytes i
told last pos [] i free = refl
told last pos (byte ∷ bytes) zero free = at_first last pos byte bytes free (last == 0) (byte == 0) refl refl
told last pos (byte ∷ bytes) (suc i) free =
    later (last == 0) (byte == 0) refl refl (λ f. told byte (pos + 1) bytes i f)
  where
    step : pos + suc i ≡ (pos + 1) + i
    step = omega arith

    behind : (Free byte bytes i →
        unwrap_or (byte_of (runs_after byte (pos + 1) bytes) ((pos + 1) + i)) 0 ≡ byte_at bytes i) →
        Free byte bytes i →
        unwrap_or (byte_of (runs_after byte (pos + 1) bytes) (pos + suc i)) 0 ≡ byte_at bytes i
    behind rest f = ap (λ n. unwrap_or (byte_of (runs_after byte (pos + 1) bytes) n) 0) step ∙ rest f

    in_run : (Free byte bytes i →
        unwrap_or (byte_of (runs_after byte (pos + 1) bytes) ((pos + 1) + i)) 0 ≡ byte_at bytes i) →
        (slice_get (before_zero bytes) i ≡ Some (byte_at bytes i)) ⊎
        ((slice_get (before_zero bytes) i ≡ None) × (length (before_zero bytes) ≤ i)) →
        unwrap_or (if is_some (slice_get (before_zero bytes) i) then slice_get (before_zero bytes) i
        else byte_of (runs_after byte (pos + 1) bytes) (pos + suc i)) 0 ≡ byte_at bytes i
    in_run rest (inl e) =
        ap (λ o. unwrap_or (if is_some o then o else byte_of (runs_after byte (pos + 1) bytes) (pos + suc i)) 0) e
    in_run rest (inr (e, past)) =
        ap (λ o. unwrap_or (if is_some o then o else byte_of (runs_after byte (pos + 1) bytes) (pos + suc i)) 0) e
        ∙ behind rest (inr past)

    outside : Free last (byte ∷ bytes) (suc i) → (last == 0) ≡ false → (byte == 0) ≡ false → Free byte bytes i
    outside (inl none) e f = absurd (not_zero last e none)
    outside (inr few) e f = let more = one_more byte bytes f in inr (omega (arith, few, more))

    later : (b c : Bool) → (last == 0) ≡ b → (byte == 0) ≡ c →
        (Free byte bytes i →
        unwrap_or (byte_of (runs_after byte (pos + 1) bytes) ((pos + 1) + i)) 0 ≡ byte_at bytes i) →
        unwrap_or (byte_of (runs (b && not c) pos byte bytes) (pos + suc i)) 0 ≡ byte_at bytes i
    later true true e f rest = behind rest (inl (zero_so byte f))
    later false true e f rest = behind rest (inl (zero_so byte f))
    later false false e f rest = behind rest (outside free e f)
    later true false e f rest =
        ap (λ o. unwrap_or (if is_some o then o else byte_of (runs_after byte (pos + 1) bytes) (pos + suc i)) 0)
        (run_told pos byte (suc i) bytes f)
        ∙ in_run rest (got_before bytes i)

pub bytes_are_told : (bytes : List ℕ) → AreTold bytes (runs_of bytes)
bytes_are_told bytes at =
    ap (λ n. unwrap_or (byte_of (runs_of bytes) n) 0) (let same : at ≡ 0 + at = omega arith in same)
    ∙ told 0 0 bytes at (inl refl)
