-- The anodes of a slot, changed one after another.
use Rattle.std.proofs.Common.{◌≡◌, ◌≢◌, ◌<◌, ◌≤◌, ◌⊎◌, ℕ, zero, suc, ◌+◌, ◌-◌, List, [], ◌∷◌, length, map, refl, sym, ◌∙◌, ap, subst, inl, inr, arith}
use Rattle.std.specs.Prelude.{true, false, ◌==◌, if◌then◌else◌, slice_get, is_none, unwrap_or}
use Rattle.std.proofs.lemmas.Bool.{cases_eq}
use Rattle.std.proofs.lemmas.Bool.Decides.{nat_tests}
use Rattle.base_types.specs.Lists.{changed_at}
use Rattle.tree_filesets.specs.Founding.{unused_anode}
use Rattle.tree_objects.specs.declared.content.Anode.{Anode}
use Rattle.tree_objects.specs.Changes.{anode_freed}
use Rattle.disk_objects.specs.Objects.{anode_at, with_slot, with_anode}
use Rattle.disk_objects.proofs.Places.{slot_here, slot_other}
use Rattle.disk_fileset.specs.Slots.{IsVacant, AllVacant, slot_freed, slot_copied}
use Rattle.disk_fileset.proofs.Twice.{slot_twice}

-- the first anodes changed, each in its way
abbrev pub changed_to : (ℕ → Anode → Anode) → ℕ → List Anode → List Anode
changed_to change zero xs = xs
changed_to change (suc n) [] = []
changed_to change (suc n) (x ∷ xs) = change 0 x ∷ changed_to (λ k. change (suc k)) n xs

abbrev pub freed_to : ℕ → ℕ → (ℕ → List Anode) → ℕ → List Anode
freed_to slot n slots = with_slot slot (changed_to (λ k. anode_freed) n (slots slot)) slots

abbrev pub copied_to : ℕ → ℕ → ℕ → (ℕ → List Anode) → ℕ → List Anode
copied_to from to n slots = with_slot to (changed_to (λ k free. anode_at (slots from) (k + 1)) n (slots to)) slots

changed_more : (change : ℕ → Anode → Anode) (n : ℕ) (xs : List Anode) → changed_at (changed_to change n xs) n (change n) ≡ changed_to change (suc n) xs
changed_more change zero [] = refl
changed_more change zero (x ∷ xs) = refl
changed_more change (suc n) [] = refl
changed_more change (suc n) (x ∷ xs) = ap (λ ys. change 0 x ∷ ys) (changed_more (λ k. change (suc k)) n xs)

rest_same : (change : ℕ → Anode → Anode) (n : ℕ) (xs : List Anode) → slice_get (changed_to change n xs) n ≡ slice_get xs n
rest_same change zero xs = refl
rest_same change (suc n) [] = refl
rest_same change (suc n) (x ∷ xs) = rest_same (λ k. change (suc k)) n xs

all_freed : (n : ℕ) (xs : List Anode) → length xs ≤ n → changed_to (λ k. anode_freed) n xs ≡ map anode_freed xs
all_freed zero [] le = refl
all_freed zero (x ∷ xs) le = absurd (omega (arith, le))
all_freed (suc n) [] le = refl
all_freed (suc n) (x ∷ xs) le = ap (λ ys. anode_freed x ∷ ys) (all_freed n xs (omega (arith, le)))

all_copied : (change : ℕ → Anode → Anode) (n : ℕ) (xs ys : List Anode) → length xs ≡ length ys → length ys ≤ n
    → ((k : ℕ) (free : Anode) → change k free ≡ unwrap_or (slice_get xs k) unused_anode) → changed_to change n ys ≡ xs
all_copied change zero [] [] size le is = refl
all_copied change zero xs (y ∷ ys) size le is = absurd (omega (arith, le))
all_copied change zero (x ∷ xs) [] size le is = absurd (omega (arith, size))
all_copied change (suc n) [] [] size le is = refl
all_copied change (suc n) [] (y ∷ ys) size le is = absurd (omega (arith, size))
all_copied change (suc n) (x ∷ xs) [] size le is = absurd (omega (arith, size))
all_copied change (suc n) (x ∷ xs) (y ∷ ys) size le is =
    let rest = all_copied (λ k. change (suc k)) n xs ys (omega (arith, size)) (omega (arith, le)) (λ k free. is (suc k) free) in
    λ i. is 0 y i ∷ rest i

-- one more
slot_more : (slots : ℕ → List Anode) (slot n : ℕ) (change : ℕ → Anode → Anode)
    → with_anode slot (n + 1) (change n) (with_slot slot (changed_to change n (slots slot)) slots) ≡ with_slot slot (changed_to change (n + 1) (slots slot)) slots
slot_more slots slot n change =
    let first : List Anode = changed_to change n (slots slot) in
    let here = slot_here slots slot slot first refl in
    let back : n + 1 - 1 ≡ n = omega arith in
    let next : suc n ≡ n + 1 = omega arith in
    (λ i. with_slot slot (changed_at (here i) (back i) (change n)) (with_slot slot first slots))
    ∙ (λ i. with_slot slot (changed_more change n (slots slot) i) (with_slot slot first slots))
    ∙ slot_twice slots slot first (changed_to change (suc n) (slots slot))
    ∙ (λ i. with_slot slot (changed_to change (next i) (slots slot)) slots)

-- none so far
pub slot_itself : (slots : ℕ → List Anode) (slot : ℕ) → with_slot slot (slots slot) slots ≡ slots
slot_itself slots slot = λ i s. by s (cases_eq s slot) i
  where
    by : (s : ℕ) → (s ≡ slot) ⊎ (s ≢ slot) → with_slot slot (slots slot) slots s ≡ slots s
    by s (inl e) = let on : (s == slot) ≡ true = grind (arith, nat_tests, e) in (λ i. if on i then slots slot else slots s) ∙ (λ i. slots (sym e i))
    by s (inr apart) = let off : (s == slot) ≡ false = grind (arith, nat_tests, apart) in λ i. if off i then slots slot else slots s

pub freed_more : (slot n : ℕ) (slots : ℕ → List Anode) → with_anode slot (n + 1) anode_freed (freed_to slot n slots) ≡ freed_to slot (n + 1) slots
freed_more slot n slots = slot_more slots slot n (λ k. anode_freed)

pub freed_whole : (slot n : ℕ) (slots : ℕ → List Anode) → length (slots slot) ≤ n → freed_to slot n slots ≡ slot_freed slot slots
freed_whole slot n slots le = λ i. with_slot slot (all_freed n (slots slot) le i) slots

pub copied_more : (from to n : ℕ) (slots : ℕ → List Anode) → from ≢ to
    → with_anode to (n + 1) (λ free. anode_at (copied_to from to n slots from) (n + 1)) (copied_to from to n slots) ≡ copied_to from to (n + 1) slots
copied_more from to n slots apart =
    let change : ℕ → Anode → Anode = λ k free. anode_at (slots from) (k + 1) in
    let beside = slot_other slots to from (changed_to change n (slots to)) apart in
    (λ i. with_anode to (n + 1) (λ free. anode_at (beside i) (n + 1)) (copied_to from to n slots)) ∙ slot_more slots to n change

pub copied_whole : (from to n : ℕ) (slots : ℕ → List Anode) → length (slots from) ≡ length (slots to) → length (slots to) ≤ n → copied_to from to n slots ≡ slot_copied from to slots
copied_whole from to n slots size le = λ i. with_slot to (all_copied (λ k free. anode_at (slots from) (k + 1)) n (slots from) (slots to) size le is i) slots
  where
    is : (k : ℕ) (free : Anode) → anode_at (slots from) (k + 1) ≡ unwrap_or (slice_get (slots from) k) unused_anode
    is k free = let back : k + 1 - 1 ≡ k = omega arith in λ i. unwrap_or (slice_get (slots from) (back i)) unused_anode

-- the next one is free still
pub vacant_next : (from to n : ℕ) (slots : ℕ → List Anode) → n < 64 → AllVacant to slots → IsVacant to (n + 1) (copied_to from to n slots)
vacant_next from to n slots lt vacant =
    let change : ℕ → Anode → Anode = λ k free. anode_at (slots from) (k + 1) in
    let back : n + 1 - 1 ≡ n = omega arith in
    let here = slot_here slots to to (changed_to change n (slots to)) refl in
    let same : anode_at (copied_to from to n slots to) (n + 1) ≡ anode_at (slots to) (n + 1) =
    (λ i. anode_at (here i) (n + 1)) ∙ (λ i. unwrap_or (slice_get (changed_to change n (slots to)) (back i)) unused_anode)
    ∙ (λ i. unwrap_or (rest_same change n (slots to) i) unused_anode) ∙ (λ i. unwrap_or (slice_get (slots to) (sym back i)) unused_anode) in
    subst (λ (a : Anode). is_none a.object ≡ true) (sym same) (vacant (n + 1) (omega arith) (omega (arith, lt)))
