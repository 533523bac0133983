-- The parts of a disk without faults, and lists by number.
use Rattle.std.proofs.Common.{◌≡◌, ◌<◌, ◌≤◌, ℕ, zero, suc, ◌+◌, ◌/◌, List, [], ◌∷◌, ◌++◌, length, take, inl, inr, refl, ◌∙◌, ap, arith}
use Rattle.std.specs.Prelude.{Bool, true, false, nat_le, Some, slice_get}
use Rattle.std.specs.List.{list_all}
use Rattle.std.proofs.lemmas.Bool.{cases_eq, and_parts, and_from}
use Rattle.std.proofs.lemmas.List.{length-append}
use Rattle.message_types.specs.Soundness.{Each}
use Rattle.disk_layout.specs.Places.{page_start}
use Rattle.disk_pages.specs.Numbers.{is_numbers_page}
use Rattle.disk_pages.specs.Server.{is_server_page}
use Rattle.disk_image.specs.Aggregate.{Aggregate, server_page, page_of, header_number}
use Rattle.disk_image.specs.Anodes.{unless, anode_faults}
use Rattle.disk_image.specs.Counts.{count_fault, promise_fault, promises, capacity_of}
use Rattle.disk_image.specs.Faults.{slot_faults, faults_in}
use Rattle.disk_image.specs.Joined.{joined, listed, total}
use Rattle.disk_image.specs.Reach.{reach_faults}
use Rattle.disk_image.specs.Slots.{is_slot_header, is_slot_numbers}
use Rattle.disk_image.specs.declared.fault.Fault.{Fault}
use Rattle.disk_image.specs.declared.fault.Rule.{Rule}
use Rattle.disk_image.specs.declared.fault.Rule.TheVariants as rules

append_none : {A : Type 0} (xs ys : List A) → xs ++ ys ≡ [] → (xs ≡ []) × (ys ≡ [])
append_none [] ys none = (refl, none)
append_none (x ∷ xs) ys none = absurd (cc)

part_none : {A : Type 0} (part : ℕ → List A) (n k : ℕ) → k < n → joined part n ≡ [] → part k ≡ []
unfolding joined
part_none part zero k lt none = absurd (omega arith)
part_none part (suc n) k lt none =
    let parts = append_none (joined part n) (part n) none in
    elim (cases_eq k n) [
      | inl e ↦ ap part e ∙ parts.1
      | inr apart ↦ part_none part n k (omega (arith, apart)) parts.0
    ]

is_right : (test : Bool) (place : ℕ) (rule : Rule) → unless test place rule ≡ [] → test ≡ true
is_right true place rule none = refl
is_right false place rule none = absurd (cc)

module _ (disk : Aggregate) where
  abbrev of_server : List Fault
  of_server = unless (is_server_page (server_page disk)) (page_start 0) rules.ServerPage

  abbrev of_numbers : List Fault
  of_numbers = unless (is_numbers_page (page_of disk 1)) (page_start 1) rules.CallNumbers

  abbrev of_slots : List Fault
  of_slots = joined (slot_faults disk) 16

  abbrev of_reach : List Fault
  of_reach = joined (reach_faults disk) 16

  abbrev of_counts : List Fault
  of_counts = joined (count_fault disk) ((disk.blocks + 255) / 256)

  pub record AllRight : Type 0 where
    pub server : is_server_page (server_page disk) ≡ true
    pub numbers : is_numbers_page (page_of disk 1) ≡ true
    pub slots : joined (slot_faults disk) 16 ≡ []
    pub promises : nat_le (promises disk) (capacity_of disk) ≡ true

  pub all_right : faults_in disk ≡ [] → AllRight
  unfolding faults_in
  all_right clean =
      let five = append_none ((((of_server ++ of_numbers) ++ of_slots) ++ of_reach) ++ of_counts) (promise_fault disk) clean in
      let four = append_none (((of_server ++ of_numbers) ++ of_slots) ++ of_reach) of_counts five.0 in
      let three = append_none ((of_server ++ of_numbers) ++ of_slots) of_reach four.0 in
      let two = append_none (of_server ++ of_numbers) of_slots three.0 in
      let one = append_none of_server of_numbers two.0 in
      record {
        server = is_right (is_server_page (server_page disk)) (page_start 0) rules.ServerPage one.0;
        numbers = is_right (is_numbers_page (page_of disk 1)) (page_start 1) rules.CallNumbers one.1;
        slots = two.1;
        promises = is_right (nat_le (promises disk) (capacity_of disk)) 0 rules.Promises five.1;
      }

  abbrev of_header : ℕ → List Fault
  of_header s = unless (is_slot_header disk s) (page_start (header_number s)) rules.SlotHeader

  abbrev of_calls : ℕ → List Fault
  of_calls s = unless (is_slot_numbers disk s) (page_start (header_number s + 1)) rules.CallNumbers

  pub calls_right : (s : ℕ) → joined (slot_faults disk) 16 ≡ [] → s < 16 → is_slot_numbers disk s ≡ true
  unfolding slot_faults
  calls_right s none low =
      let all = append_none (of_header s ++ of_calls s) (joined (anode_faults disk s) 64) (part_none (slot_faults disk) 16 s low none) in
      is_right (is_slot_numbers disk s) (page_start (header_number s + 1)) rules.CallNumbers (append_none (of_header s) (of_calls s) all.0).1

-- lists by number
pub listed_length : {X : Type 0} (value : ℕ → X) (n : ℕ) → length (listed value n) ≡ n
unfolding joined
listed_length value zero = refl
listed_length value (suc n) = let e = length-append (listed value n) (value n ∷ []) in let rest = listed_length value n in omega (arith, e, rest)

all_append : {X : Type 0} (p : X → Bool) (xs ys : List X) → list_all p xs ≡ true → list_all p ys ≡ true → list_all p (xs ++ ys) ≡ true
all_append p [] ys h k = k
all_append p (x ∷ xs) ys h k = let (a, b) = and_parts (p x) (list_all p xs) h in and_from (p x) (list_all p (xs ++ ys)) a (all_append p xs ys b k)

pub all_listed : {X : Type 0} (p : X → Bool) (value : ℕ → X) (n : ℕ) → ((k : ℕ) → k < n → p (value k) ≡ true) → list_all p (listed value n) ≡ true
unfolding joined
all_listed p value zero each = refl
all_listed p value (suc n) each =
    all_append p (listed value n) (value n ∷ []) (all_listed p value n (λ k lt. each k (omega (arith, lt)))) (and_from (p (value n)) true (each n (omega arith)) refl)

each_append : {X : Type 0} (P : X → Type 0) (xs ys : List X) → Each P xs → Each P ys → Each P (xs ++ ys)
each_append P [] ys h k = k
each_append P (x ∷ xs) ys h k = (h.0, each_append P xs ys h.1 k)

pub each_listed : {X : Type 0} (P : X → Type 0) (value : ℕ → X) (n : ℕ) → ((k : ℕ) → k < n → P (value k)) → Each P (listed value n)
unfolding joined
each_listed P value zero each = tt
each_listed P value (suc n) each =
    each_append P (listed value n) (value n ∷ []) (each_listed P value n (λ k lt. each k (omega (arith, lt)))) (each n (omega arith), tt)

pub all_taken : {X : Type 0} (p : X → Bool) (xs : List X) (n : ℕ) → list_all p xs ≡ true → list_all p (take n xs) ≡ true
all_taken p xs zero h = refl
all_taken p [] (suc n) h = refl
all_taken p (x ∷ xs) (suc n) h = let (a, b) = and_parts (p x) (list_all p xs) h in and_from (p x) (list_all p (take n xs)) a (all_taken p xs n b)

pub length_taken : {X : Type 0} (xs : List X) (n : ℕ) → n ≤ length xs → length (take n xs) ≡ n
length_taken xs zero h = refl
length_taken [] (suc n) h = absurd (omega (arith, h))
length_taken (x ∷ xs) (suc n) h = ap suc (length_taken xs n (omega (arith, h)))

pub got_taken : {X : Type 0} (xs : List X) (n i : ℕ) (x : X) → slice_get (take n xs) i ≡ Some x → slice_get xs i ≡ Some x
got_taken xs zero i x e = absurd (cc)
got_taken [] (suc n) i x e = absurd (cc)
got_taken (y ∷ xs) (suc n) zero x e = e
got_taken (y ∷ xs) (suc n) (suc i) x e = got_taken xs n i x e

pub total_le : (f g : ℕ → ℕ) (n : ℕ) → ((k : ℕ) → k < n → f k ≤ g k) → total f n ≤ total g n
unfolding total
total_le f g zero each = omega arith
total_le f g (suc n) each = let rest = total_le f g n (λ k lt. each k (omega (arith, lt))) in let here = each n (omega arith) in omega (arith, rest, here)

pub total_more : (f : ℕ → ℕ) (m n : ℕ) → total f m ≤ total f (m + n)
unfolding total
total_more f m zero = (let z : m + 0 ≡ m = omega arith in let e : total f (m + 0) ≡ total f m = ap (total f) z in omega (arith, e))
total_more f m (suc n) =
    let z : m + suc n ≡ suc (m + n) = omega arith in
    let e : total f (m + suc n) ≡ total f (m + n) + f (m + n) = ap (total f) z in
    let rest = total_more f m n in
    omega (arith, e, rest)
