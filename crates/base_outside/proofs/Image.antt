-- The bytes from a place on.
use Rattle.std.proofs.Common.{◌≡◌, ◌<◌, ◌≤◌, ℕ, zero, suc, ◌+◌, List, [], ◌∷◌, length, get_or, refl, ◌∙◌, ap, arith}
use Rattle.std.proofs.lemmas.Grind.{same_number_lists}
use Rattle.base_types.specs.Image.{byte_at, bytes_from, Torn, Holds}

pub length-bytes_from : (image : List ℕ) (at n : ℕ) → length (bytes_from image at n) ≡ n
unfolding bytes_from
length-bytes_from image at zero = refl
length-bytes_from image at (suc n) = ap (λ (m : ℕ). suc m) (length-bytes_from image (suc at) n)

-- each of them
pub get_or-bytes_from : (image : List ℕ) (at n j : ℕ) → j < n → get_or (bytes_from image at n) j 0 ≡ byte_at image (at + j)
unfolding bytes_from
get_or-bytes_from image at zero j lt = absurd (omega arith)
get_or-bytes_from image at (suc n) zero lt = let e : at ≡ at + zero = omega arith in ap (byte_at image) e
get_or-bytes_from image at (suc n) (suc j) lt =
    let e : suc at + j ≡ at + suc j = omega arith in
    get_or-bytes_from image (suc at) n j (omega arith) ∙ ap (byte_at image) e

-- two images that agree in a range give the same bytes there
pub bytes_from-same : (a b : List ℕ) (at n : ℕ) → ((k : ℕ) → at ≤ k → k < at + n → byte_at a k ≡ byte_at b k) → bytes_from a at n ≡ bytes_from b at n
unfolding bytes_from
bytes_from-same a b at zero same = refl
bytes_from-same a b at (suc n) same =
    λ i. same at (omega arith) (omega arith) i ∷ bytes_from-same a b (suc at) n (λ k from below. same k (omega arith) (omega arith)) i

-- a list of these bytes
pub bytes_from-is : (image piece : List ℕ) (at : ℕ) → ((j : ℕ) → j < length piece → byte_at image (at + j) ≡ get_or piece j 0) → bytes_from image at (length piece) ≡ piece
bytes_from-is image piece at each =
    let n = length piece in
    let size : length (bytes_from image at n) ≡ n = length-bytes_from image at n in
    same_number_lists (bytes_from image at n) piece size
    (λ j below. let lt : j < n = omega arith in get_or-bytes_from image at n j lt ∙ each j lt)

-- what lies before a torn range, or behind it, stays
pub bytes_from-before : (at n : ℕ) (old new : List ℕ) (p m : ℕ) → Torn at n old new → p + m ≤ at → bytes_from new p m ≡ bytes_from old p m
bytes_from-before at n old new p m torn le = bytes_from-same new old p m (λ k from below. torn.before k (omega arith))

pub bytes_from-behind : (at n : ℕ) (old new : List ℕ) (p m : ℕ) → Torn at n old new → at + n ≤ p → bytes_from new p m ≡ bytes_from old p m
bytes_from-behind at n old new p m torn le = bytes_from-same new old p m (λ k from below. torn.after k (omega arith))

-- one byte that was written
pub byte_at-holds : (at byte : ℕ) (image : List ℕ) → Holds at (byte ∷ []) image → byte_at image at ≡ byte
unfolding bytes_from
byte_at-holds at byte image holds = let e : byte_at image at ∷ [] ≡ byte ∷ [] = holds.inside in cc e

-- one byte that was read
pub byte_at-bytes_from : (image : List ℕ) (at : ℕ) → get_or (bytes_from image at 1) 0 0 ≡ byte_at image at
unfolding bytes_from
byte_at-bytes_from image at = refl
