-- Bytes that are zero, look by look.
use Rattle.std.proofs.Common.{◌≡◌, ◌<◌, ◌≤◌, ◌⊎◌, ℕ, zero, suc, ◌+◌, ◌-◌, ◌*◌, List, [], ◌∷◌, length, get_or, inl, inr, ⊎_elim, refl, sym, ◌∙◌, ap, subst, arith}
use Rattle.std.specs.Prelude.{Bool, Result, Ok, Err, IfOk, IsTrue, ◌↔◌}
use Rattle.std.proofs.lemmas.Bool.{cases_lt}
use Rattle.base_types.specs.Image.{byte_at, bytes_from}
use Rattle.base_outside.proofs.Image.{get_or-bytes_from}
use Rattle.disk_layout.specs.Superblock.{IsUntouched, IsMarked, IsBlank}

-- bytes that were read are zero where they stand
pub zeros_read : (image bytes : List ℕ) (at n : ℕ) → bytes ≡ bytes_from image at n
    → ((j : ℕ) → j < n → get_or bytes j 0 ≡ 0) → (k : ℕ) → k < n → byte_at image (at + k) ≡ 0
zeros_read image bytes at n is zeros k lt =
    sym (get_or-bytes_from image at n k lt) ∙ ap (λ (l : List ℕ). get_or l k 0) (sym is) ∙ zeros k lt

pub zeros_reads : (image bytes : List ℕ) (at n : ℕ) → bytes ≡ bytes_from image at n
    → ((k : ℕ) → k < n → byte_at image (at + k) ≡ 0) → (j : ℕ) → j < n → get_or bytes j 0 ≡ 0
zeros_reads image bytes at n is zeros j lt =
    ap (λ (l : List ℕ). get_or l j 0) is ∙ get_or-bytes_from image at n j lt ∙ zeros j lt

-- one look more
pub zeros_further : (image : List ℕ) (look : ℕ) → ((k : ℕ) → k < 15872 * look → byte_at image k ≡ 0)
    → ((k : ℕ) → k < 15872 → byte_at image (15872 * look + k) ≡ 0) → (k : ℕ) → k < 15872 * (look + 1) → byte_at image k ≡ 0
zeros_further image look before here k lt = by (cases_lt k (15872 * look))
  where
    by : (k < 15872 * look) ⊎ (15872 * look ≤ k) → byte_at image k ≡ 0
    by (inl below) = before k below
    by (inr le) =
        let e : k ≡ 15872 * look + (k - 15872 * look) = omega arith in
        ap (byte_at image) e ∙ here (k - 15872 * look) (omega arith)

-- behind the end all is zero
zero_behind : (image : List ℕ) (k : ℕ) → length image ≤ k → byte_at image k ≡ 0
zero_behind [] k le = refl
zero_behind (x ∷ image) zero le = absurd (omega (arith, le))
zero_behind (x ∷ image) (suc k) le = zero_behind image k (omega (arith, le))

pub zeros_end : (image : List ℕ) (look : ℕ) → ((k : ℕ) → k < 15872 * look → byte_at image k ≡ 0) → (size : ℕ) → size ≤ 15872 * look
    → size ≡ length image → (k : ℕ) → byte_at image k ≡ 0
zeros_end image look before size le is k = by (cases_lt k (15872 * look))
  where
    by : (k < 15872 * look) ⊎ (15872 * look ≤ k) → byte_at image k ≡ 0
    by (inl below) = before k below
    by (inr above) = zero_behind image k (omega (arith, le, is, above))

-- where there is no mark
pub blank_by_look : {E : Type 0} (result : Result Bool E) (image still : List ℕ) → still ≡ image → (IsMarked image → ⊥)
    → IfOk result (λ untouched. IsTrue untouched ↔ IsUntouched still) → IfOk result (λ blank. IsTrue blank ↔ IsBlank image)
blank_by_look (Ok untouched) image still is unmarked both = (
  λ yes. inl (subst (λ (l : List ℕ). IsUntouched l) is (both.0 yes)),
  λ blank. both.1 (⊎_elim (λ zeros. subst (λ (l : List ℕ). IsUntouched l) (sym is) zeros) (λ marked. absurd (unmarked marked)) blank),
)
blank_by_look (Err e) image still is unmarked both = both
