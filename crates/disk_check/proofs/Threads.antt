-- What several threads judged, in order.
use Rattle.std.proofs.Common.{◌≡◌, ◌<◌, ℕ, ◌+◌, ◌*◌, ◌/◌, ◌%◌, List, map, get_or, ◌∙◌, ap, arith}
use Rattle.std.specs.Prelude.{Bool, false}
use Rattle.std.specs.List.{range_with_len}
use Rattle.std.proofs.lemmas.List.FromFn.{get_or-map-range_with_len}

-- by slot and anode
pub pairs_judged : (value : ℕ → ℕ → Bool) (rights : List Bool) → rights ≡ map (λ k. value (k / 64) (k % 64)) (range_with_len 0 1024)
    → (slot i : ℕ) → slot < 16 → i < 64 → get_or rights (64 * slot + i) false ≡ value slot i
pairs_judged value rights are slot i low_slot low =
    let a : (64 * slot + i) / 64 ≡ slot = omega (arith, low) in
    let b : (64 * slot + i) % 64 ≡ i = omega (arith, low) in
    ap (λ (l : List Bool). get_or l (64 * slot + i) false) are
    ∙ get_or-map-range_with_len (λ k. value (k / 64) (k % 64)) 0 1024 (64 * slot + i) (64 * slot + i) false (omega (arith, low_slot, low)) (omega arith)
    ∙ (λ j. value (a j) (b j))

-- by page
pub counts_told : (value : ℕ → Bool) (n : ℕ) (rights : List Bool) → rights ≡ map value (range_with_len 0 n) → (p : ℕ) → p < n → get_or rights p false ≡ value p
counts_told value n rights are p lt =
    ap (λ (l : List Bool). get_or l p false) are ∙ get_or-map-range_with_len value 0 n p p false lt (omega arith)
