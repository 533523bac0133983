-- Entries that are read one by one.
use Rattle.std.proofs.Common.{◌≡◌, ◌<◌, ◌≤◌, ◌⊎◌, ℕ, suc, ◌+◌, ◌-◌, List, [], ◌∷◌, ◌++◌, length, refl, sym, ◌∙◌, ap, subst, inl, inr, arith, get_or, length-append, append_assoc, Some, None}
use Rattle.std.proofs.lemmas.Bool.{cases_lt}
use Rattle.std.proofs.lemmas.List.{append-nil, get_or_append_left, get_or-append-add}
use Rattle.disk_layout.specs.declared.entry.Entry.{Entry}
use Rattle.disk_layout.specs.declared.entry.Entry.TheVariants.{End}
use Rattle.disk_layout.specs.declared.half.Half.{Half}
use Rattle.disk_layout.specs.Until.{after, until_none}
use Rattle.disk_layout.specs.Entry.{entry_at, entries, Fits}
use Rattle.disk_log.specs.Append.{AllFit}

-- what is left to read of a half's entries
pub left : Half → List ℕ → ℕ → List Entry
left half image i = until_none (entry_at half image) i (2048 - i)

-- all is left at the start
pub left_all : (half : Half) (image : List ℕ) → left half image 0 ≡ entries half image
unfolding left entries
left_all half image = refl

left_some : (half : Half) (image : List ℕ) (i n : ℕ) (entry : Entry) → 2048 - i ≡ suc n → 2048 - (i + 1) ≡ n → entry_at half image i ≡ Some entry → left half image i ≡ entry ∷ left half image (i + 1)
unfolding left until_none
left_some half image i n entry here next is =
    let e : suc i ≡ i + 1 = omega arith in
    ap (until_none (entry_at half image) i) here ∙ (λ j. after (is j) (until_none (entry_at half image) (e j) (sym next j)))

left_none : (half : Half) (image : List ℕ) (i n : ℕ) → 2048 - i ≡ suc n → entry_at half image i ≡ None → left half image i ≡ []
unfolding left until_none
left_none half image i n here is = ap (until_none (entry_at half image) i) here ∙ (λ j. after (is j) (until_none (entry_at half image) (suc i) n))

-- one entry more
pub found_more : (half : Half) (image : List ℕ) (i : ℕ) (found : List Entry) (entry : Entry) → i < 2048 → Some entry ≡ entry_at half image i → found ++ left half image i ≡ entries half image
    → (found ++ entry ∷ []) ++ left half image (i + 1) ≡ entries half image
found_more half image i found entry lt is so_far =
    append_assoc found (entry ∷ []) (left half image (i + 1))
    ∙ ap (λ (l : List Entry). found ++ l) (sym (left_some half image i (2048 - i - 1) entry (omega arith) (omega arith) (sym is))) ∙ so_far

-- the first that is missing
pub found_end : (half : Half) (image : List ℕ) (i : ℕ) (found : List Entry) → i < 2048 → None ≡ entry_at half image i → found ++ left half image i ≡ entries half image → found ≡ entries half image
found_end half image i found lt is so_far =
    sym (append-nil found) ∙ ap (λ (l : List Entry). found ++ l) (sym (left_none half image i (2048 - i - 1) (omega arith) (sym is))) ∙ so_far

-- no place is left
pub found_all : (half : Half) (image : List ℕ) (i : ℕ) (found : List Entry) → 2048 ≤ i → found ++ left half image i ≡ entries half image → found ≡ entries half image
unfolding left until_none
found_all half image i found le so_far =
    sym (append-nil found) ∙ ap (λ (n : ℕ). found ++ until_none (entry_at half image) i n) (let e : 0 ≡ 2048 - i = omega arith in e) ∙ so_far

pub fits_more : (half : Half) (found : List Entry) (entry : Entry) → AllFit half found → Fits half entry → AllFit half (found ++ entry ∷ [])
fits_more half found entry fits one k lt = by (cases_lt k (length found))
  where
    by : (k < length found) ⊎ (length found ≤ k) → Fits half (get_or (found ++ entry ∷ []) k (End 0))
    by (inl below) = subst (λ (e : Entry). Fits half e) (sym (get_or_append_left found (entry ∷ []) (End 0) k below)) (fits k below)
    by (inr from) =
        let e : length found + 0 ≡ k = let size = length-append found (entry ∷ []) in omega arith in
        subst (λ (at : ℕ). Fits half (get_or (found ++ entry ∷ []) at (End 0))) e (subst (λ (x : Entry). Fits half x) (sym (get_or-append-add found (entry ∷ []) 0 (End 0))) one)
