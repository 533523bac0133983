-- Bytes of a stretch that are put over others.
use Rattle.std.proofs.Common.{◌≡◌, ℕ, zero, suc, ◌+◌, ◌-◌, ◌<◌, List, [], ◌∷◌, ◌++◌, length, take, drop, get_or, set}
use Rattle.std.proofs.Common.{min, length-append, length-take, refl, sym, ap, ◌∙◌, drop-cons, arith, inl, inr}
use Rattle.std.proofs.Math.Seq.{drop-nil}
use Rattle.std.proofs.lemmas.List.{length-drop}
use Rattle.std.proofs.lemmas.Bool.Decides.{leb_tells}
use Rattle.base_types.specs.declared.ids.HostId.{HostId}
use Rattle.tree_objects.specs.declared.content.Unsaved.{Unsaved}
use Rattle.tree_objects.specs.declared.stretch.Stretch.{Stretch}
use Rattle.tree_objects.specs.Files.{bytes_over, bytes_with}
use Rattle.tree_objects.specs.Positions.{written}
use Rattle.tree_objects.specs.Stretches.{bytes_of, all_bytes, laid}
use Rattle.tree_objects.proofs.Overlays.{drop_past, over_put}
use Rattle.tree_objects.proofs.Pieces.{take_nil, take_past, drop_more}

-- the front of a list and the rest of it
halves : (xs : List ℕ) (i : ℕ) → take i xs ++ drop i xs ≡ xs
halves [] zero = refl
halves [] (suc i) = refl
halves (x ∷ xs) zero = refl
halves (x ∷ xs) (suc i) = ap (λ ys. x ∷ ys) (halves xs i)

-- nothing is put over them
laid_nothing : (xs : List ℕ) (t : ℕ) → laid xs t [] ≡ xs
laid_nothing xs t =
    let z : t + 0 ≡ t = omega arith in
    ap (λ ys. take t xs ++ (ys ++ drop (t + 0) xs)) (take_nil (length xs - t)) ∙ ap (λ n. take t xs ++ drop n xs) z
    ∙ halves xs t

-- over nothing
laid_empty : (t : ℕ) (part : List ℕ) → laid [] t part ≡ []
laid_empty t part =
    let z : 0 - t ≡ 0 = omega arith in
    ap (λ ys. ys ++ (take (0 - t) part ++ drop (t + length part) [])) (take_nil t) ∙ ap
    (λ n. take n part ++ drop (t + length part) []) z ∙ drop-nil (t + length part)

laid_more : (x : ℕ) (xs : List ℕ) (t : ℕ) (part : List ℕ) → laid (x ∷ xs) (suc t) part ≡ x ∷ laid xs t part
laid_more x xs t part =
    let e : suc (length xs) - suc t ≡ length xs - t = omega arith in
    let f : suc t + length part ≡ suc (t + length part) = omega arith in
    rw (e, f) refl

-- there are as many bytes as before
pub laid_length : (xs : List ℕ) (t : ℕ) (part : List ℕ) → length (laid xs t part) ≡ length xs
laid_length xs t part = rw (length-append, length-take, length-append, length-take, length-drop) (omega arith)

pub take_front : (xs ys : List ℕ) → take (length xs) (xs ++ ys) ≡ xs
take_front [] ys = refl
take_front (x ∷ xs) ys = ap (λ zs. x ∷ zs) (take_front xs ys)

-- one byte more in front
laid_one : (xs : List ℕ) (t b : ℕ) (part : List ℕ) → laid xs t (b ∷ part) ≡ set (laid xs (suc t) part) t b
laid_one [] t b part = laid_empty t (b ∷ part) ∙ ap (λ ys. set ys t b) (sym (laid_empty (suc t) part))
laid_one (x ∷ xs) zero b part =
    let e : suc (length xs) - zero ≡ suc (length xs) = omega arith in
    let f : zero + suc (length part) ≡ suc (length part) = omega arith in
    let g : suc (length xs) - suc zero ≡ length xs = omega arith in
    let h : suc zero + length part ≡ suc (length part) = omega arith in
    rw (e, f, g, h) refl
laid_one (x ∷ xs) (suc t) b part = laid_more x xs t (b ∷ part) ∙ ap (λ ys. x ∷ ys) (laid_one xs t b part) ∙ ap
    (λ ys. set ys (suc t) b) (sym (laid_more x xs (suc t) part))

-- written bytes over those that start at a position
laid_written : (kept : List ℕ) (rest : List Unsaved) (host : HostId) (from : ℕ) (bytes : List ℕ) (at n : ℕ)
    → laid (bytes_over kept rest at n) (from - at) (drop (at - from) bytes) ≡ bytes_over kept
    (written host from bytes ++ rest) at n
laid_written kept rest host from [] at n = ap (laid (bytes_over kept rest at n) (from - at)) (drop-nil (at - from))
    ∙ laid_nothing (bytes_over kept rest at n) (from - at)
laid_written kept rest host from (b ∷ bytes) at n =
    let under = bytes_over kept rest at n in
    let byte : Unsaved = record { at = from; value = b; writer = host } in
    let more = laid_written kept rest host (from + 1) bytes at n in
    let put = over_put kept (written host (from + 1) bytes ++ rest) byte at n in
    let step : laid under (from - at) (drop (at - from) (b ∷ bytes)) ≡ bytes_with
    (laid under (from + 1 - at) (drop (at - (from + 1)) bytes)) byte at
    = elim (leb_tells at from) as (λ _. laid under (from - at) (drop (at - from) (b ∷ bytes)) ≡ bytes_with
    (laid under (from + 1 - at) (drop (at - (from + 1)) bytes)) byte at) [
      | inl (e, h) ↦
          let z : at - from ≡ zero = omega (arith, h) in
          let y : at - (from + 1) ≡ zero = omega (arith, h) in
          let x : from + 1 - at ≡ suc (from - at) = omega (arith, h) in
          rw (e, z, y, x) (laid_one under (from - at) b bytes)
      | inr (e, h) ↦
          let z : at - from ≡ suc (at - (from + 1)) = omega (arith, h) in
          let y : from - at ≡ zero = omega (arith, h) in
          let x : from + 1 - at ≡ zero = omega (arith, h) in
          rw (e, z, y, x) refl
    ] in
    step ∙ ap (λ ys. bytes_with ys byte at) more ∙ put

-- the stretches from a place on, put over in turn from the last one
pub laid_next : (kept : List ℕ) (ss : List Stretch) (from n i : ℕ) (s : Stretch) → i < length ss → s ≡ get_or ss i s
    → laid (bytes_over kept (all_bytes (drop (suc i) ss)) from n) (s.from - from) (drop (from - s.from) s.bytes)
    ≡ bytes_over kept (all_bytes (drop i ss)) from n
laid_next kept ss from n i s h e =
    laid_written kept (all_bytes (drop (suc i) ss)) s.writer s.from s.bytes from n
    ∙ ap (λ x. bytes_over kept (bytes_of x ++ all_bytes (drop (suc i) ss)) from n) e
    ∙ ap (λ xs. bytes_over kept (all_bytes xs) from n) (sym (drop-cons ss i s h))

-- a part that is copied in is laid
pub laid_in : (xs bytes : List ℕ) (t m at skipped count k j : ℕ) (ys : List ℕ) → skipped ≡ min m (length bytes) → at
    ≡ min t (length xs) → count ≡ min (length bytes - skipped) (length xs - at) → k ≡ count → j ≡ count
    → ys ≡ take j (drop skipped bytes) → take at xs ++ (ys ++ drop k (drop at xs)) ≡ laid xs t (drop m bytes)
laid_in xs bytes t m at skipped count k j ys s a c ek ej put =
    let part = drop m bytes in
    let same : drop skipped bytes ≡ part = ap (λ n. drop n bytes) s ∙ drop_past bytes m in
    let long : length part ≡ length bytes - m = length-drop m bytes in
    let front : take at xs ≡ take t xs = ap (λ n. take n xs) a ∙ take_past xs t in
    let n : j ≡ min (length xs - t) (length part) = omega (arith, s, a, c, ej, long) in
    let mid : ys ≡ take (length xs - t) part = put ∙ ap (take j) same ∙ ap (λ n. take n part) n ∙ take_past part
    (length xs - t) in
    let end : at + k ≡ min (t + length part) (length xs) = omega (arith, s, a, c, ek, long) in
    let back : drop k (drop at xs) ≡ drop (t + length part) xs = sym (drop_more xs at k) ∙ ap (λ n. drop n xs) end
    ∙ drop_past xs (t + length part) in
    ap (λ zs. zs ++ (ys ++ drop k (drop at xs))) front ∙ ap (λ zs. take t xs ++ (zs ++ drop k (drop at xs))) mid ∙ ap
    (λ zs. take t xs ++ (take (length xs - t) part ++ zs)) back
