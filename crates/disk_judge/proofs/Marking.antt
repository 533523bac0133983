-- What one more pointer makes of a mark.
use Rattle.std.proofs.Common.{◌≡◌, ◌≢◌, ◌<◌, ◌≤◌, ℕ, zero, suc, ◌+◌, ◌-◌, List, [], ◌∷◌, ◌++◌, get_or, set, inl, inr, ⊎_elim, refl, sym, ◌∙◌, ap, subst, arith, ◌⊎◌}
use Rattle.std.specs.Prelude.{Bool, true, false, ◌==◌, ◌&&◌, ◌||◌, not, min, nat_le, cond, count_by, if◌then◌else◌}
use Rattle.std.specs.List.{list_any}
use Rattle.std.proofs.lemmas.Bool.{eq-eqb, ne_eqb, cases_eq, cases_lt, lt-leb, le-leb}
use Rattle.std.proofs.lemmas.Grind.{get_or-set_at}
use Rattle.std.proofs.lemmas.List.{get_or-set_other, length-set}
use Rattle.disk_pages.specs.Words.{each_below}
use Rattle.std.proofs.lemmas.List.Sums.{sum_by-append}
use Rattle.std.proofs.lemmas.List.Folds.{list_any-append}
use Rattle.disk_image.specs.Counts.{is_use_of, times_counted, times_in, is_count}
use Rattle.disk_image.specs.declared.found.Use.{Use}
use Rattle.disk_judge.specs.Marks.{IsMark, AreMarks, is_marked_so}
use Rattle.disk_judge.specs.declared.counts.Mark.{Mark}

or_false : (b : Bool) → (b || false) ≡ b
or_false true = refl
or_false false = refl

pub count_more : {X : Type 0} (test : X → Bool) (xs : List X) (x : X) → count_by test (xs ++ x ∷ []) ≡ count_by test xs + cond (test x) 1 0
count_more test xs x = sum_by-append (λ y. cond (test y) 1 0) xs (x ∷ []) ∙ (let z : 0 + cond (test x) 1 0 ≡ cond (test x) 1 0 = omega arith in λ i. count_by test xs + z i)

any_more : {X : Type 0} (test : X → Bool) (xs : List X) (x : X) → list_any test (xs ++ x ∷ []) ≡ (list_any test xs || test x)
any_more test xs x = list_any-append test xs (x ∷ []) ∙ (λ i. list_any test xs || or_false (test x) i)

-- a number that stops at its greatest
stops : (n t k most : ℕ) → n ≡ min t most → min (n + k) most ≡ min (t + k) most
stops n t k most is = omega (arith, is)

module _ (uses : List Use) (one : Use) (block : ℕ) (mark : Mark) (is : IsMark uses block mark) where
  -- a pointer to another block
  pub unmarked : one.pointer ≢ block + 1 → IsMark (uses ++ one ∷ []) block mark
  unmarked other =
      let no : is_use_of block one ≡ false = ne_eqb one.pointer (block + 1) other in
      record {
        counted = is.counted ∙ ap (λ n. min n 4294967295) (sym (count_more (λ other. is_use_of block other && other.is_counted) uses one ∙ (λ j. times_counted uses block + cond (no j && one.is_counted) 1 0) ∙ omega arith));
        in_slots = λ slot lt. is.in_slots slot lt ∙ ap (λ n. min n 255) (sym (count_more (λ other. is_use_of block other && (other.slot == slot)) uses one ∙ (λ j. times_in uses slot block + cond (no j && (one.slot == slot)) 1 0) ∙ omega arith));
        as_map = is.as_map ∙ sym (any_more (λ other. is_use_of block other && other.is_map) uses one ∙ (λ j. list_any (λ other. is_use_of block other && other.is_map) uses || (no j && one.is_map)) ∙ or_false (list_any (λ other. is_use_of block other && other.is_map) uses));
        as_other = is.as_other ∙ sym (any_more (λ other. is_use_of block other && not other.is_map) uses one ∙ (λ j. list_any (λ other. is_use_of block other && not other.is_map) uses || (no j && not one.is_map)) ∙ or_false (list_any (λ other. is_use_of block other && not other.is_map) uses));
      }

  -- a pointer to this block
  pub marked : (next : Mark) → one.pointer ≡ block + 1
      → next.counted ≡ min (mark.counted + (if one.is_counted then 1 else 0)) 4294967295
      → ((other : ℕ) → other < 16 → get_or next.in_slots other 0 ≡ min (get_or mark.in_slots other 0 + (if one.slot == other then 1 else 0)) 255)
      → next.as_map ≡ (mark.as_map || one.is_map) → next.as_other ≡ (mark.as_other || not one.is_map) → IsMark (uses ++ one ∷ []) block next
  marked next here counted in_slots as_map as_other =
      let yes : is_use_of block one ≡ true = eq-eqb one.pointer (block + 1) here in
      record {
        counted = counted ∙ stops mark.counted (times_counted uses block) (if one.is_counted then 1 else 0) 4294967295 is.counted
            ∙ ap (λ n. min n 4294967295) (sym (count_more (λ other. is_use_of block other && other.is_counted) uses one ∙ (λ j. times_counted uses block + cond (yes j && one.is_counted) 1 0)));
        in_slots = λ slot lt. in_slots slot lt ∙ stops (get_or mark.in_slots slot 0) (times_in uses slot block) (if one.slot == slot then 1 else 0) 255 (is.in_slots slot lt)
            ∙ ap (λ n. min n 255) (sym (count_more (λ other. is_use_of block other && (other.slot == slot)) uses one ∙ (λ j. times_in uses slot block + cond (yes j && (one.slot == slot)) 1 0)));
        as_map = as_map ∙ (λ j. is.as_map j || one.is_map) ∙ sym (any_more (λ other. is_use_of block other && other.is_map) uses one ∙ (λ j. list_any (λ other. is_use_of block other && other.is_map) uses || (yes j && one.is_map)));
        as_other = as_other ∙ (λ j. is.as_other j || not one.is_map) ∙ sym (any_more (λ other. is_use_of block other && not other.is_map) uses one ∙ (λ j. list_any (λ other. is_use_of block other && not other.is_map) uses || (yes j && not one.is_map)));
      }

-- the marks of all blocks after one more pointer
module _ (uses : List Use) (one : Use) (blocks : ℕ) (marks : List Mark) (are : AreMarks uses blocks marks) where
  pub note_in : (old next other : Mark) → 1 ≤ one.pointer → one.pointer ≤ blocks → old ≡ get_or marks (one.pointer - 1) other
      → (IsMark uses (one.pointer - 1) old → IsMark (uses ++ one ∷ []) (one.pointer - 1) next) → AreMarks (uses ++ one ∷ []) blocks (set marks (one.pointer - 1) next)
  note_in old next other some there is then_marked = record { size = length-set marks (one.pointer - 1) next ∙ are.size; each = each }
    where
      at : ℕ
      at = one.pointer - 1

      each : (block : ℕ) (mark : Mark) → block < blocks → IsMark (uses ++ one ∷ []) block (get_or (set marks at next) block mark)
      each block mark lt = elim (cases_eq block at) [
        | inl e ↦
            let new : get_or (set marks at next) block mark ≡ next = get_or-set_at marks at block next mark e (let n = are.size in omega (arith, n, some, there)) in
            subst (λ (m : Mark). IsMark (uses ++ one ∷ []) block m) (sym new)
            (subst (λ (b : ℕ). IsMark (uses ++ one ∷ []) b next) (sym e) (then_marked (subst (λ (m : Mark). IsMark uses at m) (sym is) (are.each at other (omega (arith, some, there))))))
        | inr apart ↦
            subst (λ (m : Mark). IsMark (uses ++ one ∷ []) block m) (sym (get_or-set_other marks at block next mark apart))
            (unmarked uses one block (get_or marks block mark) (are.each block mark lt) (λ e. apart (omega (arith, e, some))))
      ]

  pub note_out : (one.pointer ≡ 0) ⊎ (blocks < one.pointer) → AreMarks (uses ++ one ∷ []) blocks marks
  note_out out = record { size = are.size; each = λ block mark lt. unmarked uses one block (get_or marks block mark) (are.each block mark lt) (λ e. ⊎_elim (λ none. omega (arith, e, none)) (λ above. omega (arith, e, above, lt)) out) }

-- a count by the mark of its block
min_eq : (t count most : ℕ) → count < most → (min t most == count) ≡ (t == count)
min_eq t count most lt = elim (cases_eq t count) [
  | inl e ↦ eq-eqb (min t most) count (omega (arith, e, lt)) ∙ sym (eq-eqb t count e)
  | inr apart ↦ ne_eqb (min t most) count (λ e. apart (omega (arith, e, lt))) ∙ sym (ne_eqb t count apart)
]

min_le : (t most : ℕ) → 1 < most → nat_le (min t most) 1 ≡ nat_le t 1
min_le t most lt = elim (cases_lt 1 t) [
  | inl above ↦ lt-leb (min t most) 1 (omega (arith, above, lt)) ∙ sym (lt-leb t 1 above)
  | inr below ↦ le-leb (min t most) 1 (omega (arith, below)) ∙ sym (le-leb t 1 below)
]

each_same : (a b : ℕ → Bool) (n : ℕ) → ((k : ℕ) → k < n → a k ≡ b k) → each_below a n ≡ each_below b n
unfolding each_below
each_same a b zero same = refl
each_same a b (suc n) same = λ i. each_same a b n (λ k lt. same k (omega arith)) i && same n (omega arith) i

pub count_is : (uses : List Use) (block count : ℕ) (mark : Mark) → IsMark uses block mark → count < 65536 → is_marked_so mark count ≡ is_count uses block count
unfolding is_count
count_is uses block count mark is few =
    let a : (mark.counted == count) ≡ (times_counted uses block == count) = (λ i. is.counted i == count) ∙ min_eq (times_counted uses block) count 4294967295 (omega (arith, few)) in
    let b : each_below (λ slot. nat_le (get_or mark.in_slots slot 0) 1) 16 ≡ each_below (λ slot. nat_le (times_in uses slot block) 1) 16 =
    each_same (λ slot. nat_le (get_or mark.in_slots slot 0) 1) (λ slot. nat_le (times_in uses slot block) 1) 16 (λ slot lt. (λ i. nat_le (is.in_slots slot lt i) 1) ∙ min_le (times_in uses slot block) 255 (omega arith)) in
    λ i. a i && b i && not (is.as_map i && is.as_other i)
