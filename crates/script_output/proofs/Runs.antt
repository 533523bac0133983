-- Runs of bytes that aren't zero, found by a search for the next zero.
use Rattle.std.proofs.Common.{◌≡◌, ℕ, zero, suc, ◌+◌, ◌-◌, ◌<◌, ◌≤◌, ◌==◌, Bool, true, false, not, List, [], ◌∷◌}
use Rattle.std.proofs.Common.{◌++◌, length, get_or, take, drop, refl, sym, ap, ◌∙◌, arith}
use Rattle.std.specs.List.{prefix_len, flat_map}
use Rattle.std.proofs.lemmas.Bool.{eqb-true}
use Rattle.std.proofs.lemmas.List.{drop_more, drop-drop, length-drop, append_assoc}
use Rattle.memchr.specs.Find.{Nowhere, NoneBefore, Passes, is_byte}
use Rattle.script_output.specs.Dump.{before_zero, run_line, runs_after}
use Rattle.tree_calls.specs.declared.part.Piece.{Piece}

-- a byte that isn't zero is the first of those before the first zero
run_byte : (byte : ℕ) (bytes : List ℕ) → (byte == 0) ≡ false → before_zero (byte ∷ bytes) ≡ byte ∷ before_zero bytes
run_byte byte bytes e =
    let count : ℕ = prefix_len (λ one. not (one == 0)) bytes in
    let same : 1 + count ≡ suc count = omega arith in
    rw e (ap (λ n. take n (byte ∷ bytes)) same)

-- a zero ends them
run_end : (byte : ℕ) (bytes : List ℕ) → (byte == 0) ≡ true → before_zero (byte ∷ bytes) ≡ []
run_end byte bytes e = rw e refl

-- where no byte is zero, all are before the first
pub none_found : (bytes : List ℕ) → Nowhere (Passes (is_byte 0) bytes) 0 (length bytes) → bytes ≡ before_zero bytes
none_found [] h = refl
none_found (byte ∷ bytes) h = by_byte (byte == 0) refl (none_found bytes
    (λ k low high. h (suc k) (omega arith) (omega (arith, high))))
  where
    by_byte : (ends : Bool) → (byte == 0) ≡ ends → bytes ≡ before_zero bytes → byte ∷ bytes ≡ before_zero (byte ∷ bytes)
    by_byte true e more = absurd (h 0 (omega arith) (omega arith) e)
    by_byte false e more = ap (λ rest. byte ∷ rest) more ∙ sym (run_byte byte bytes e)

-- the first zero ends them
pub zero_found : (bytes : List ℕ) (at : ℕ) → NoneBefore (Passes (is_byte 0) bytes) 0 (length bytes) at → Passes
    (is_byte 0) bytes at → take at bytes ≡ before_zero bytes
zero_found [] at b p = absurd (omega (arith, b.high))
zero_found (byte ∷ bytes) zero b p = rw p refl
zero_found (byte ∷ bytes) (suc at) b p = by_byte (byte == 0) refl (zero_found bytes at later p)
  where
    later : NoneBefore (Passes (is_byte 0) bytes) 0 (length bytes) at
    later = record {
      low = omega arith;
      high = omega (arith, b.high);
      before = λ k low high. b.before (suc k) (omega arith) (omega (arith, high));
    }

    by_byte : (ends : Bool) → (byte == 0) ≡ ends → take at bytes ≡ before_zero bytes → byte ∷ take at bytes
        ≡ before_zero (byte ∷ bytes)
    by_byte true e more = absurd (b.before 0 (omega arith) (omega arith) e)
    by_byte false e more = ap (λ rest. byte ∷ rest) more ∙ sym (run_byte byte bytes e)

-- behind a byte that isn't zero, the runs are those behind the next zero
skipped : (last at : ℕ) (bytes : List ℕ) → (last == 0) ≡ false
    → runs_after last at bytes ≡ runs_after 0 (at + length (before_zero bytes))
    (drop (length (before_zero bytes)) bytes)
skipped last at [] e = refl
skipped last at (byte ∷ bytes) e = by_byte (byte == 0) refl (skipped byte (at + 1) bytes)
  where
    run : List ℕ
    run = before_zero bytes

    from_run : List ℕ → List Piece
    from_run some = runs_after 0 (at + length some) (drop (length some) (byte ∷ bytes))

    began : runs_after last at (byte ∷ bytes) ≡ runs_after byte (at + 1) bytes
    began = rw e refl

    by_byte : (ends : Bool) → (byte == 0) ≡ ends
        → ((byte == 0) ≡ false → runs_after byte (at + 1) bytes ≡ runs_after 0 (at + 1 + length run)
        (drop (length run) bytes))
        → runs_after last at (byte ∷ bytes) ≡ from_run (before_zero (byte ∷ bytes))
    by_byte true k more =
        let same : at + 1 ≡ at + 0 + 1 = omega arith in
        let next : runs_after byte (at + 1) bytes ≡ from_run [] = rw k (ap (λ n. runs_after byte n bytes) same) in
        began ∙ next ∙ ap from_run (sym (run_end byte bytes k))
    by_byte false k more =
        let same : at + 1 + length run ≡ at + suc (length run) = omega arith in
        let next : runs_after 0 (at + 1 + length run) (drop (length run) bytes) ≡ from_run (byte ∷ run) = ap
        (λ n. runs_after 0 n (drop (length run) bytes)) same in
        began ∙ more k ∙ next ∙ ap from_run (sym (run_byte byte bytes k))

-- a zero begins no run
pub zero_more : (bytes : List ℕ) (at : ℕ) → at < length bytes → get_or bytes at 0 ≡ 0 → runs_after 0 at
    (drop at bytes) ≡ runs_after 0 (at + 1) (drop (at + 1) bytes)
zero_more bytes at lt e = rw (drop_more bytes at 0 lt, e) refl

-- another byte begins one, which the next zero ends
pub run_more : (bytes : List ℕ) (at : ℕ) → at < length bytes → (get_or bytes at 0 == 0) ≡ false
    → runs_after 0 at (drop at bytes) ≡ record { from = at; bytes = before_zero (drop at bytes) } ∷ runs_after 0
    (at + length (before_zero (drop at bytes))) (drop (at + length (before_zero (drop at bytes))) bytes)
run_more bytes at lt e =
    let rest : List ℕ = drop (at + 1) bytes in
    let count : ℕ = length (before_zero rest) in
    let run : Piece = record { from = at; bytes = before_zero (drop at bytes) } in
    let began : runs_after 0 at (drop at bytes) ≡ run ∷ runs_after (get_or bytes at 0) (at + 1) rest = rw
    (drop_more bytes at 0 lt, e) refl in
    let one : suc count ≡ 1 + count = omega arith in
    let long : length (before_zero (drop at bytes)) ≡ 1 + count
    = ap (λ rest. length (before_zero rest)) (drop_more bytes at 0 lt) ∙ ap length
    (run_byte (get_or bytes at 0) rest e) ∙ one in
    let place : at + 1 + count ≡ at + (1 + count) = omega arith in
    let left : drop count rest ≡ drop (at + (1 + count)) bytes = drop-drop count (at + 1) bytes ∙ ap
    (λ n. drop n bytes) place in
    began
    ∙ ap (λ runs. run ∷ runs) (skipped (get_or bytes at 0) (at + 1) rest e)
    ∙ ap (λ n. run ∷ runs_after 0 n (drop count rest)) place
    ∙ ap (λ behind. run ∷ runs_after 0 (at + (1 + count)) behind) left
    ∙ ap (λ n. run ∷ runs_after 0 (at + n) (drop (at + n) bytes)) (sym long)

-- a run begins with its byte
pub some_before : (bytes : List ℕ) → 0 < get_or bytes 0 0 → 0 < length (before_zero bytes)
some_before [] h = h
some_before (byte ∷ bytes) h = by_byte (byte == 0) refl
  where
    by_byte : (ends : Bool) → (byte == 0) ≡ ends → 0 < length (before_zero (byte ∷ bytes))
    by_byte true k = let none = eqb-true byte 0 k in absurd (omega (arith, none, h))
    by_byte false k = let long = ap length (run_byte byte bytes k) in omega (arith, long)

take_whole : (xs : List ℕ) (n : ℕ) → length xs ≤ n → take n xs ≡ xs
take_whole [] zero h = refl
take_whole [] (suc n) h = refl
take_whole (x ∷ xs) zero h = absurd (omega (arith, h))
take_whole (x ∷ xs) (suc n) h = ap (λ ys. x ∷ ys) (take_whole xs n (omega (arith, h)))

-- a run is written, and what follows it is left
pub run_put : (bytes run after before all : List ℕ) (at : ℕ) → at < length bytes → (get_or bytes at 0 == 0) ≡ false
    → run ≡ before_zero (take (length bytes - at) (drop at bytes))
    → after ≡ before ++ run_line (record { from = at; bytes = run }) → before ++ flat_map run_line
    (runs_after 0 at (drop at bytes)) ≡ all
    → after ++ flat_map run_line (runs_after 0 (at + length run) (drop (at + length run) bytes)) ≡ all
run_put bytes run after before all at lt e found put was =
    let long = length-drop at bytes in
    let is : run ≡ before_zero (drop at bytes) = found ∙ ap before_zero
    (take_whole (drop at bytes) (length bytes - at) (omega (arith, long))) in
    let first : Piece = record { from = at; bytes = before_zero (drop at bytes) } in
    let rest : List Piece = runs_after 0 (at + length (before_zero (drop at bytes)))
    (drop (at + length (before_zero (drop at bytes))) bytes) in
    let step : after ≡ before ++ run_line first = put ∙ ap (λ some. before ++ run_line
    (record { from = at; bytes = some })) is in
    ap (λ some. after ++ flat_map run_line (runs_after 0 (at + length some) (drop (at + length some) bytes))) is
    ∙ ap (λ out. out ++ flat_map run_line rest) step
    ∙ append_assoc before (run_line first) (flat_map run_line rest)
    ∙ ap (λ runs. before ++ flat_map run_line runs) (sym (run_more bytes at lt e))
    ∙ was
