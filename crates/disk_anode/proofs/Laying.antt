-- Pieces that were laid into others.
use Rattle.std.proofs.Common.{◌≡◌, ◌<◌, ◌≤◌, ◌⊎◌, ℕ, ◌+◌, List, length, take, drop, get_or, sym, ◌∙◌, ap, arith, inl, inr}
use Rattle.std.proofs.lemmas.List.{length-take-le, length-drop, get_or-take, get_or-drop}
use Rattle.base_types.specs.Image.{byte_at, Torn, Holds}
use Rattle.base_outside.proofs.Image.{get_or-bytes_from}

pub held_byte : (at : ℕ) (piece image : List ℕ) → Holds at piece image → (j : ℕ) → j < length piece → byte_at image (at + j) ≡ get_or piece j 0
held_byte at piece image holds j lt = sym (get_or-bytes_from image at (length piece) j lt) ∙ ap (λ (l : List ℕ). get_or l j 0) holds.inside

-- byte k of a list into which a piece was laid
pub laid_inside : (at : ℕ) (piece new : List ℕ) → Holds at piece new → (k j : ℕ) → k ≡ at + j → j < length piece → get_or new k 0 ≡ get_or piece j 0
laid_inside at piece new holds k j is lt = ap (λ (m : ℕ). get_or new m 0) is ∙ held_byte at piece new holds j lt

pub laid_outside : (at n : ℕ) (old new : List ℕ) → Torn at n old new → (k : ℕ) → (k < at) ⊎ (at + n ≤ k) → get_or new k 0 ≡ get_or old k 0
laid_outside at n old new torn k (inl low) = torn.before k low
laid_outside at n old new torn k (inr high) = torn.after k high

-- and where the piece is a part of a list
pub copied : (at a n : ℕ) (xs new : List ℕ) → a + n ≤ length xs → Holds at (take n (drop a xs)) new → (k j m : ℕ) → k ≡ at + j → m ≡ a + j → j < n → get_or new k 0 ≡ get_or xs m 0
copied at a n xs new within holds k j m here there lt =
    let size : length (take n (drop a xs)) ≡ n = length-take-le n (drop a xs) (omega (arith, length-drop a xs)) in
    laid_inside at (take n (drop a xs)) new holds k j here (omega (arith, size))
    ∙ get_or-take n (drop a xs) j 0 lt ∙ get_or-drop a xs j 0 ∙ ap (λ (i : ℕ). get_or xs i 0) (sym there)
