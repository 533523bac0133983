-- Counts that are kept are right, as they are judged.
use Rattle.std.proofs.Common.{◌≡◌, ◌≢◌, ◌<◌, ◌≤◌, ℕ, zero, suc, ◌+◌, ◌*◌, ◌/◌, ◌%◌, List, [], ◌∷◌, inl, inr, refl, sym, ◌∙◌, ap, arith}
use Rattle.std.specs.Prelude.{Bool, true, false, ◌==◌, ◌&&◌, not, if◌then◌else◌, nat_lt, nat_le, count_by, cond}
use Rattle.std.specs.List.{list_any}
use Rattle.std.proofs.lemmas.Bool.{cases_Bool, cases_eq, and_parts, and_from, or_cases, cond-true, cond-false, false≢true, eqb-true, eq-eqb, ne_eqb, le-leb}
use Rattle.std.proofs.lemmas.Bool.Decides.{nat_tests}
use Rattle.disk_layout.specs.Numbers.{number_at}
use Rattle.disk_space.specs.Counts.{count_page, count_place}
use Rattle.disk_anode.specs.Node.{pointer_of, is_pointer, names}
use Rattle.disk_anode.specs.Room.{how_many}
use Rattle.disk_anode.proofs.Counting.{none_many}
use Rattle.disk_objects.specs.Holds.{is_anode}
use Rattle.disk_objects.proofs.Sums.{many_some}
use Rattle.disk_pages.specs.Words.{each_below}
use Rattle.disk_image.specs.Joined.{joined, total}
use Rattle.disk_image.specs.Aggregate.{Aggregate, page_of, node_at}
use Rattle.disk_image.specs.Counts.{page_use, map_use, uses_at, uses_of, is_use_of, times_counted, times_in, is_both, is_count, is_count_place, is_count_page}
use Rattle.disk_image.specs.declared.found.Use.{Use}
use Rattle.disk_image_laws.proofs.Clean.{IsRightSlot}
use Rattle.disk_image_laws.proofs.Finding.{each_all}
use Rattle.disk_image_laws.proofs.Sums.{count_joined, count_cons}
use Rattle.disk_image_laws.proofs.Treed.{total_once, total_some, total_none}
use Rattle.tree_objects.specs.declared.content.Anode.{Anode}
use Rattle.disk_objects.specs.Objects.{page_for}
use Rattle.disk_objects.proofs.Places.{page_is}
use Rattle.disk_image_laws.specs.ObjectLaws.{Keeps, IsInOrder, CountsAreRight}
use Rattle.disk_image_laws.proofs.Orderly.{kept_in_order}
use Rattle.disk_image_laws.proofs.Firsts.{page_at}
use Rattle.disk_image_laws.proofs.Counted.{is_free, no_uses, count_uses, slot_here, counted_are}

any_counted : {X : Type 0} (test : X → Bool) (xs : List X) → list_any test xs ≡ true → 1 ≤ count_by test xs
any_counted test [] is = absurd (false≢true is)
any_counted test (x ∷ xs) is =
    let sum = count_cons test x xs in
    elim (or_cases (test x) (list_any test xs) is) [
      | inl here ↦ (let e : cond {A = ℕ} (test x) 1 0 ≡ 1 = ap (λ b. cond b 1 0) here in omega (arith, sum, e))
      | inr there ↦ (let rest = any_counted test xs there in omega (arith, sum, rest))
    ]

total_only : (f : ℕ → ℕ) (n s : ℕ) → ((k : ℕ) → k < n → k ≢ s → f k ≡ 0) → total f n ≤ f s
unfolding total
total_only f zero s none = omega arith
total_only f (suc n) s none = elim (cases_eq n s) [
  | inl e ↦
      let rest = total_none f n (λ k lt. none k (omega (arith, lt)) (λ is. absurd (omega (arith, is, e, lt)))) in
      let here : f n ≡ f s = ap f e in
      omega (arith, rest, here)
  | inr apart ↦
      let rest = total_only f n s (λ k lt. none k (omega (arith, lt))) in
      let here = none n (omega arith) apart in
      omega (arith, rest, here)
]

module _ (disk : Aggregate) (slots : ℕ → List Anode) (keeps : Keeps slots disk) (order : IsInOrder disk) (rights : (slot : ℕ) → slot < 16 → IsRightSlot disk slot) where
  here_is : (slot i : ℕ) → slot < 16 → i < 64 → is_anode (page_at slot i) ≡ true
  here_is slot i low few = (let z : page_at slot i ≡ page_for slot (i + 1) = omega arith in λ j. is_anode (z j)) ∙ page_is slot (i + 1) low (omega arith) (omega (arith, few))

  -- where a use is that passes a test
  any_place : (test : Use → Bool) → list_any test (uses_of disk) ≡ true → (slot : ℕ) × (i : ℕ) × (slot < 16) × (i < 64) × (is_free disk rights slot i ≡ false) × (1 ≤ count_by test (uses_at disk slot i))
  any_place test is =
      let some = any_counted test (uses_of disk) is in
      let a = count_joined test (λ slot. joined (uses_at disk slot) 64) 16 in
      let one = total_some (λ slot. count_by test (joined (uses_at disk slot) 64)) 16 (omega (arith, a, some)) in
      let slot : ℕ = one.0 in
      let there = one.2 in
      let b = count_joined test (uses_at disk slot) 64 in
      let two = total_some (λ i. count_by test (uses_at disk slot i)) 64 (omega (arith, b, there)) in
      let i : ℕ = two.0 in
      let here = two.2 in
      (slot, i, one.1, two.1, used slot i one.1 two.1 here, here)
    where
      used : (slot i : ℕ) → slot < 16 → i < 64 → 1 ≤ count_by test (uses_at disk slot i) → is_free disk rights slot i ≡ false
      used slot i low few some = elim (cases_Bool (is_free disk rights slot i)) [
        | inl free ↦ (let e = ap (count_by test) (no_uses disk rights slot i free) in absurd (omega (arith, e, some)))
        | inr used_so ↦ used_so
      ]

  -- no two pointers of a slot name a block
  slot_once : (slot b : ℕ) → slot < 16 → b < disk.blocks → times_in (uses_of disk) slot b ≤ 1
  slot_once slot b low lt =
      let test : Use → Bool = λ one. is_use_of b one && (one.slot == slot) in
      let a = count_joined test (λ s. joined (uses_at disk s) 64) 16 in
      let c = total_only (λ s. count_by test (joined (uses_at disk s) 64)) 16 slot (λ s small apart.
      let e = count_joined test (uses_at disk s) 64 in
      let f = total_none (λ i. count_by test (uses_at disk s i)) 64 (λ i few. other s i small few apart) in
      omega (arith, e, f)) in
      let d = count_joined test (uses_at disk slot) 64 in
      let g = total_once (λ i. count_by test (uses_at disk slot i)) 64 few_here once_here in
      omega (arith, a, c, d, g)
    where
      named : (i : ℕ) → i < 64 → (1 ≤ count_by (λ one. is_use_of b one && (one.slot == slot)) (uses_at disk slot i)) → 1 ≤ names (node_at disk slot i) b
      named i few some = elim (cases_Bool (is_free disk rights slot i)) [
        | inl free ↦ (let e = ap (count_by (λ one. is_use_of b one && (one.slot == slot))) (no_uses disk rights slot i free) in absurd (omega (arith, e, some)))
        | inr used ↦ (let e = slot_here disk rights slot i low few used b in omega (arith, e, some))
      ]

      few_here : (i : ℕ) → i < 64 → count_by (λ one. is_use_of b one && (one.slot == slot)) (uses_at disk slot i) ≤ 1
      few_here i few = elim (cases_Bool (is_free disk rights slot i)) [
        | inl free ↦ (let e = ap (count_by (λ one. is_use_of b one && (one.slot == slot))) (no_uses disk rights slot i free) in omega (arith, e))
        | inr used ↦ (let e = slot_here disk rights slot i low few used b in let f = keeps.held.once (page_at slot i) b (here_is slot i low few) lt in omega (arith, e, f))
      ]

      once_here : (i j : ℕ) → i < 64 → j < 64 → 1 ≤ count_by (λ one. is_use_of b one && (one.slot == slot)) (uses_at disk slot i)
          → 1 ≤ count_by (λ one. is_use_of b one && (one.slot == slot)) (uses_at disk slot j) → i ≡ j
      once_here i j few few_j some some_j = elim (cases_eq i j) [
        | inl e ↦ e
        | inr apart ↦
            let a = named i few some in
            let c = named j few_j some_j in
            let d = order.apart slot i j b low few few_j apart lt in
            absurd (omega (arith, a, c, d))
      ]

      other : (s i : ℕ) → s < 16 → i < 64 → s ≢ slot → count_by (λ one. is_use_of b one && (one.slot == slot)) (uses_at disk s i) ≡ 0
      other s i small few apart = elim (cases_Bool (is_free disk rights s i)) [
        | inl free ↦ ap (count_by (λ one. is_use_of b one && (one.slot == slot))) (no_uses disk rights s i free)
        | inr used ↦
            let off : (s == slot) ≡ false = ne_eqb s slot apart in
            let e = count_uses disk rights s i small few used (λ one. is_use_of b one && (one.slot == slot)) in
            let f = none_many (λ w. is_use_of b (page_use disk s i w) && (s == slot)) 16 (λ w le. both_off (is_use_of b (page_use disk s i w)) (s == slot) off) in
            let g = none_many (λ j. is_use_of b (map_use disk s i j) && (s == slot)) 52 (λ j le. both_off (is_use_of b (map_use disk s i j)) (s == slot) off) in
            let h = none_or (is_pointer disk.blocks (pointer_of (node_at disk s i) 15)) g in
            omega (arith, e, f, h)
      ]
        where
          both_off : (x y : Bool) → y ≡ false → (x && y) ≡ false
          both_off true y e = e
          both_off false y e = refl

          none_or : (x : Bool) {n : ℕ} → n ≡ 0 → (if x then n else 0) ≡ 0
          none_or true e = e
          none_or false e = refl

  -- no block is both an indirect block and another
  not_both : (b : ℕ) → b < disk.blocks → is_both (uses_of disk) b ≡ false
  not_both b lt = elim (cases_Bool (is_both (uses_of disk) b)) [
    | inr off ↦ off
    | inl both ↦
        let parts = and_parts (list_any (λ one. is_use_of b one && one.is_map) (uses_of disk)) (list_any (λ one. is_use_of b one && not one.is_map) (uses_of disk)) both in
        let p = any_place (λ one. is_use_of b one && one.is_map) parts.0 in
        let q = any_place (λ one. is_use_of b one && not one.is_map) parts.1 in
        let map = as_map p.0 p.1 p.2 p.3 p.4 p.5 in
        let other = as_other q.0 q.1 q.2 q.3 q.4 q.5 in
        absurd (keeps.held.apart (page_at p.0 p.1) (page_at q.0 q.1) other.0 b (here_is p.0 p.1 p.2 p.3) (here_is q.0 q.1 q.2 q.3) lt map other.1 other.2 other.3)
  ]
    where
      as_map : (s i : ℕ) → s < 16 → i < 64 → is_free disk rights s i ≡ false → 1 ≤ count_by (λ one. is_use_of b one && one.is_map) (uses_at disk s i) → pointer_of (node_at disk s i) 15 ≡ b + 1
      as_map s i low few used some =
          let e = count_uses disk rights s i low few used (λ one. is_use_of b one && one.is_map) in
          let g = none_many (λ j. is_use_of b (map_use disk s i j) && false) 52 (λ j le. off (is_use_of b (map_use disk s i j))) in
          let h = none_or (is_pointer disk.blocks (pointer_of (node_at disk s i) 15)) g in
          let found = many_some (λ w. is_use_of b (page_use disk s i w) && (w == 15)) 16 (omega (arith, e, h, some)) in
          let w : ℕ = found.0 in
          let two = and_parts (pointer_of (node_at disk s i) w == b + 1) (w == 15) found.2 in
          ap (pointer_of (node_at disk s i)) (sym (eqb-true w 15 two.1)) ∙ eqb-true (pointer_of (node_at disk s i) w) (b + 1) two.0
        where
          off : (x : Bool) → (x && false) ≡ false
          off true = refl
          off false = refl

          none_or : (x : Bool) {n : ℕ} → n ≡ 0 → (if x then n else 0) ≡ 0
          none_or true e = e
          none_or false e = refl

      as_other : (s i : ℕ) → s < 16 → i < 64 → is_free disk rights s i ≡ false → 1 ≤ count_by (λ one. is_use_of b one && not one.is_map) (uses_at disk s i)
          → (w : ℕ) × (w < 68) × (w ≢ 15) × (pointer_of (node_at disk s i) w ≡ b + 1)
      as_other s i low few used some =
          let e = count_uses disk rights s i low few used (λ one. is_use_of b one && not one.is_map) in
          elim (cases_eq (how_many (λ w. is_use_of b (page_use disk s i w) && not (w == 15)) 16) 0) [
            | inl none ↦
                let h = some_or (is_pointer disk.blocks (pointer_of (node_at disk s i) 15)) (how_many (λ j. is_use_of b (map_use disk s i j) && not false) 52) (omega (arith, e, none, some)) in
                let found = many_some (λ j. is_use_of b (map_use disk s i j) && not false) 52 (omega (arith, h)) in
                let j : ℕ = found.0 in
                let low_j = found.1 in
                let two = and_parts (pointer_of (node_at disk s i) (16 + j) == b + 1) true found.2 in
                (16 + j, omega (arith, low_j), omega arith, eqb-true (pointer_of (node_at disk s i) (16 + j)) (b + 1) two.0)
            | inr there ↦
                let found = many_some (λ w. is_use_of b (page_use disk s i w) && not (w == 15)) 16 (omega (arith, there)) in
                let w : ℕ = found.0 in
                let low_w = found.1 in
                let two = and_parts (pointer_of (node_at disk s i) w == b + 1) (not (w == 15)) found.2 in
                (w, omega (arith, low_w), (λ is. false≢true (sym (λ k. not (eq-eqb w 15 is k)) ∙ two.1)), eqb-true (pointer_of (node_at disk s i) w) (b + 1) two.0)
          ]
        where
          some_or : (x : Bool) (n : ℕ) → 1 ≤ (if x then n else 0) → 1 ≤ n
          some_or true n le = le
          some_or false n le = absurd (omega (arith, le))

  -- each page of counts is right
  counts_right : (p : ℕ) → p < (disk.blocks + 255) / 256 → is_count_page disk p ≡ true
  unfolding is_count_page is_count_place is_count
  counts_right p below = each_all (is_count_place disk p) 256 (λ k small. at k small)
    where
      at : (k : ℕ) → k < 256 → is_count_place disk p k ≡ true
      at k small = elim (cases_Bool (nat_lt (256 * p + k) disk.blocks)) [
        | inl inside ↦
            let lt : 256 * p + k < disk.blocks = grind (arith, nat_tests, inside) in
            cond-true (nat_lt (256 * p + k) disk.blocks) _ _ inside
            ∙ and_from ((times_counted (uses_of disk) (256 * p + k) == count) && each_below (λ slot. nat_le (times_in (uses_of disk) slot (256 * p + k)) 1) 16) (not (is_both (uses_of disk) (256 * p + k)))
            (and_from (times_counted (uses_of disk) (256 * p + k) == count) (each_below (λ slot. nat_le (times_in (uses_of disk) slot (256 * p + k)) 1) 16)
            (eq-eqb (times_counted (uses_of disk) (256 * p + k)) count (counted_are disk rights (256 * p + k) ∙ sym (keeps.held.counts (256 * p + k) lt) ∙ place))
            (each_all (λ slot. nat_le (times_in (uses_of disk) slot (256 * p + k)) 1) 16 (λ slot low. le-leb (times_in (uses_of disk) slot (256 * p + k)) 1 (slot_once slot (256 * p + k) low lt))))
            (λ i. not (not_both (256 * p + k) lt i))
        | inr outside ↦
            let past : disk.blocks ≤ 256 * p + k = grind (arith, nat_tests, outside) in
            cond-false (nat_lt (256 * p + k) disk.blocks) _ _ outside ∙ eq-eqb count 0 (sym place ∙ order.tail (256 * p + k) past (omega (arith, small, below)))
      ]
        where
          count : ℕ
          count = number_at 2 (2 * k) (page_of disk (1058 + p))

          place : number_at 2 (count_place (256 * p + k)) (page_of disk (count_page (256 * p + k))) ≡ number_at 2 (2 * k) (page_of disk (1058 + p))
          place =
              let a : 2 * ((256 * p + k) % 256) ≡ 2 * k = omega (arith, small) in
              let c : 1058 + (256 * p + k) / 256 ≡ 1058 + p = omega (arith, small) in
              λ i. number_at 2 (a i) (page_of disk (c i))

pub counts_are_right : CountsAreRight
counts_are_right disk slots keeps headers anodes p below = counts_right disk slots keeps (kept_in_order disk slots keeps) (λ slot low. record { header = headers slot low; anodes = anodes slot low }) p below
