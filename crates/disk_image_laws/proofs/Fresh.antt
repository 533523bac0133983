-- An aggregate that was just formatted has no faults.
use Rattle.std.proofs.Common.{◌≡◌, ◌<◌, ◌≤◌, ℕ, zero, suc, ◌+◌, ◌*◌, ◌/◌, List, [], ◌∷◌, ◌++◌, inl, inr, refl, sym, ◌∙◌, ap, arith, ◌⊎◌}
use Rattle.std.specs.Prelude.{Bool, true, false, ◌&&◌, ◌||◌, ◌==◌, not, nat_le, nat_lt}
use Rattle.std.specs.List.{list_all}
use Rattle.std.proofs.lemmas.Bool.{and_from, and_left, and_right, cases_eq, eq-eqb, ne_eqb, le-leb, lt-ltb, cond-true, cond-false, cases_Bool}
use Rattle.base_types.specs.Image.{byte_at, bytes_from}
use Rattle.disk_layout.specs.Numbers.{number_at}
use Rattle.disk_layout.specs.Places.{page_start}
use Rattle.disk_layout.proofs.Bytes.{number-same}
use Rattle.disk_pages.specs.Words.{each_below, are_zero}
use Rattle.disk_pages.specs.Server.{is_taken, is_rest, is_server_page}
use Rattle.disk_pages.specs.Numbers.{is_record, is_numbers_page}
use Rattle.disk_pages.specs.Anode.{is_object}
use Rattle.disk_pages.specs.Header.{state_for}
use Rattle.disk_pages.specs.declared.header.SlotState.TheVariants.{Free}
use Rattle.disk_image.specs.Joined.{joined, total}
use Rattle.disk_image.specs.Aggregate.{Aggregate, server_page, page_of, header_page, numbers_page, anode_page, header_number, anode_number}
use Rattle.disk_image.specs.Slots.{state_at, is_slot_free, is_slot_header, is_slot_numbers, has_root, is_whole}
use Rattle.disk_image.specs.Anodes.{unless, is_slot_anode, anode_faults, is_root_place, block_faults}
use Rattle.disk_image.specs.Reach.{reach_fault, reach_faults}
use Rattle.disk_image.specs.Counts.{uses_at, uses_of, is_count, is_count_place, is_count_page, count_fault, promise_by, promises, capacity_of, promise_fault}
use Rattle.disk_image.specs.Faults.{slot_faults, faults_in, one_fault}
use Rattle.std.proofs.lemmas.List.{append-nil}
use Rattle.disk_pages.proofs.Each.{each_fails}
use Rattle.disk_image.specs.declared.fault.Fault.{Fault}
use Rattle.disk_image.specs.declared.fault.Rule.{Rule}
use Rattle.disk_image.specs.declared.fault.Rule.TheVariants as rules
use Rattle.disk_image.proofs.Words.{zeros_pass}
use Rattle.disk_image_laws.specs.Fresh.{IsEmpty, FreshHasNone, CountIsTold}

each_true : (test : ℕ → Bool) (n : ℕ) → ((k : ℕ) → k < n → test k ≡ true) → each_below test n ≡ true
unfolding each_below
each_true test zero all = refl
each_true test (suc n) all = and_from (each_below test n) (test n) (each_true test n (λ k lt. all k (omega arith))) (all n (omega arith))

joined_nil : {A : Type 0} (part : ℕ → List A) (n : ℕ) → ((k : ℕ) → k < n → part k ≡ []) → joined part n ≡ []
unfolding joined
joined_nil part zero none = refl
joined_nil part (suc n) none = (λ i. joined_nil part n (λ k lt. none k (omega arith)) i ++ none n (omega arith) i)

total_zero : (number : ℕ → ℕ) (n : ℕ) → ((k : ℕ) → k < n → number k ≡ 0) → total number n ≡ 0
unfolding total
total_zero number zero none = refl
total_zero number (suc n) none = (λ i. total_zero number n (λ k lt. none k (omega arith)) i + none n (omega arith) i) ∙ omega arith

joined_one : {A : Type 0} (part : ℕ → List A) (n p : ℕ) → p < n → ((k : ℕ) → k < n → (k ≡ p → ⊥) → part k ≡ []) → joined part n ≡ part p
unfolding joined
joined_one part zero p lt none = absurd (omega arith)
joined_one part (suc n) p lt none = elim (cases_eq p n) [
  | inl e ↦ (λ i. joined_nil part n (λ k below. none k (omega arith) (λ is. omega (arith, is, e, below))) i ++ part n) ∙ ap part (sym e)
  | inr apart ↦ (λ i. joined_one part n p (omega (arith, apart)) (λ k below. none k (omega arith)) i ++ none n (omega arith) (λ is. apart (sym is)) i) ∙ append-nil (part p)
]

wrong : (test : Bool) (place : ℕ) (rule : Rule) → test ≡ false → unless test place rule ≡ record { place = place; rule = rule } ∷ []
wrong test place rule is = cond-false test [] (record { place = place; rule = rule } ∷ []) is

right : (test : Bool) (place : ℕ) (rule : Rule) → test ≡ true → unless test place rule ≡ []
right test place rule is = cond-true test [] (record { place = place; rule = rule } ∷ []) is

states_zero : (bytes : List ℕ) (at n : ℕ) → ((k : ℕ) → at ≤ k → k < at + n → byte_at bytes k ≡ 0) → list_all (λ state. nat_le state 3) (bytes_from bytes at n) ≡ true
unfolding bytes_from
states_zero bytes at zero all = refl
states_zero bytes at (suc n) all =
    let first = all at (omega arith) (omega arith) in
    and_from (nat_le (byte_at bytes at) 3) (list_all (λ state. nat_le state 3) (bytes_from bytes (suc at) n)) (le-leb (byte_at bytes at) 3 (omega (arith, first))) (states_zero bytes (suc at) n (λ k le lt. all k (omega arith) (omega arith)))

number_zero : (page : List ℕ) (n at : ℕ) → ((k : ℕ) → byte_at page k ≡ 0) → number_at n at page ≡ number_at n 0 []
number_zero page n at zero_all = number-same n at 0 page [] (λ j lt. zero_all (at + j))

-- pages of zeros
module _ (page : List ℕ) (none : (k : ℕ) → byte_at page k ≡ 0) where
  zero_page : (at n : ℕ) → are_zero at n page ≡ true
  zero_page at n = zeros_pass page at n (λ k le lt. none k)

  zero_record : (at : ℕ) → is_record at page ≡ true
  unfolding is_record
  zero_record at =
      let code = none (at + 16) in
      let right_of = none (at + 17) in
      and_from _ _ (and_from _ _ (le-leb (byte_at page (at + 16)) 21 (omega (arith, code))) (lt-ltb (byte_at page (at + 17)) 64 (omega (arith, right_of)))) (zero_page (at + 18) 6)

  zero_numbers : is_numbers_page page ≡ true
  unfolding is_numbers_page
  zero_numbers = and_from _ _ (each_true (λ host. is_record (24 * host) page) 17 (λ host lt. zero_record (24 * host))) (zero_page 408 104)

  first_zero : (byte_at page 0 == 0) ≡ true
  first_zero = eq-eqb (byte_at page 0) 0 (none 0)

  no_object : is_object page ≡ false
  no_object = (λ i. (none 0 i == 1) || (none 0 i == 2))

module _ (disk : Aggregate) (fresh : IsEmpty disk) where
  zeros : (p : ℕ) → 1 ≤ p → p < 1058 → (k : ℕ) → byte_at (page_of disk p) k ≡ 0
  zeros p some below k = fresh.zeros p some below k

  server_right : is_server_page (server_page disk) ≡ true
  unfolding is_server_page is_taken
  server_right =
      let page = server_page disk in
      let new = fresh.server in
      let next = new.next in
      let format = new.format in
      let low : (k : ℕ) → 12 ≤ k → k < 29 → byte_at page k ≡ 0 = λ k le lt. new.zeros k (inr (inl (le, lt))) in
      let high : (k : ℕ) → 30 ≤ k → k < 512 → byte_at page k ≡ 0 = λ k le lt. new.zeros k (inr (inr (le, lt))) in
      let taken : (at : ℕ) → 30 ≤ at → at + 16 ≤ 512 → is_taken at page ≡ true = λ at le lt.
      let code = high (at + 8) (omega arith) (omega arith) in
      and_from _ _ (le-leb (byte_at page (at + 8)) 21 (omega (arith, code))) (zeros_pass page (at + 9) 7 (λ k from below. high k (omega arith) (omega arith))) in
      let rest : is_rest page ≡ true = cond-false (byte_at page 29 == 0) _ _ (ne_eqb (byte_at page 29) 0 (λ e. omega (arith, e, format)))
      ∙ and_from _ _ (and_from _ _ (and_from _ _ (and_from _ _ (and_from _ _ (and_from _ _ (eq-eqb (byte_at page 29) 2 format) (zeros_pass page 30 2 (λ k from below. high k from (omega arith)))) (taken 40 (omega arith) (omega arith))) (taken 56 (omega arith) (omega arith)))
      (taken 72 (omega arith) (omega arith))) (taken 88 (omega arith) (omega arith))) (zeros_pass page 104 408 (λ k from below. high k (omega arith) (omega arith))) in
      and_from _ _ (and_from _ _ (and_from _ _ (le-leb 1 (number_at 4 8 page) (omega (arith, next))) (le-leb (number_at 4 8 page) 65536 (omega (arith, next)))) (states_zero page 12 17 (λ k from below. low k from (omega arith)))) rest

  header_zero : (slot : ℕ) → slot < 16 → (k : ℕ) → byte_at (header_page disk slot) k ≡ 0
  header_zero slot there k = zeros (header_number slot) (omega arith) (omega arith) k

  free : (slot : ℕ) → slot < 16 → is_slot_free disk slot ≡ true
  free slot there = first_zero (header_page disk slot) (header_zero slot there)

  state_free : (slot : ℕ) → slot < 16 → state_at disk slot ≡ Free
  state_free slot there = (λ i. state_for (byte_at (server_page disk) 29) (header_zero slot there 0 i))

  no_root : (slot i : ℕ) → slot < 16 → is_root_place disk slot i ≡ false
  no_root slot i there = (λ j. (i == 0) && has_root (state_free slot there j) (header_page disk slot)) ∙ and_right (i == 0) false refl

  header_right : (slot : ℕ) → slot < 16 → is_slot_header disk slot ≡ true
  unfolding is_slot_header
  header_right slot there = cond-true (is_slot_free disk slot) _ _ (free slot there) ∙ zero_page (header_page disk slot) (header_zero slot there) 0 512

  numbers_right : (slot : ℕ) → slot < 16 → is_slot_numbers disk slot ≡ true
  unfolding is_slot_numbers
  numbers_right slot there = cond-true (is_slot_free disk slot) _ _ (free slot there) ∙ zero_page (numbers_page disk slot) (zeros (header_number slot + 1) (omega arith) (omega arith)) 0 512

  anode_zero : (slot i : ℕ) → slot < 16 → i < 64 → (k : ℕ) → byte_at (anode_page disk slot i) k ≡ 0
  anode_zero slot i there lt k = zeros (anode_number slot i) (omega arith) (omega arith) k

  anode_right : (slot i : ℕ) → slot < 16 → i < 64 → is_slot_anode disk slot i ≡ true
  unfolding is_slot_anode
  anode_right slot i there lt =
      let page = anode_page disk slot i in
      cond-true (byte_at page 0 == 0) _ _ (first_zero page (anode_zero slot i there lt))
      ∙ and_from _ _ (cond-true (is_slot_free disk slot) _ _ (free slot there) ∙ zero_page page (anode_zero slot i there lt) 0 512) (λ j. not (no_root slot i there j))

  anode_none : (slot i : ℕ) → slot < 16 → i < 64 → anode_faults disk slot i ≡ []
  unfolding anode_faults
  anode_none slot i there lt =
      λ j. right (is_slot_anode disk slot i) (page_start (anode_number slot i)) rules.Anode (anode_right slot i there lt) j
      ++ cond-false (is_object (anode_page disk slot i)) (block_faults disk slot i) [] (no_object (anode_page disk slot i) (anode_zero slot i there lt)) j

  slot_none : (slot : ℕ) → slot < 16 → slot_faults disk slot ≡ []
  unfolding slot_faults
  slot_none slot there =
      λ j. (right (is_slot_header disk slot) (page_start (header_number slot)) rules.SlotHeader (header_right slot there) j
      ++ right (is_slot_numbers disk slot) (page_start (header_number slot + 1)) rules.CallNumbers (numbers_right slot there) j)
      ++ joined_nil (anode_faults disk slot) 64 (λ i lt. anode_none slot i there lt) j

  reach_none : (slot : ℕ) → slot < 16 → reach_faults disk slot ≡ []
  unfolding reach_faults
  reach_none slot there = cond-false (is_whole (state_at disk slot)) (joined (reach_fault disk slot) 64) [] (λ j. is_whole (state_free slot there j))

  uses_none : (slot i : ℕ) → slot < 16 → i < 64 → uses_at disk slot i ≡ []
  unfolding uses_at
  uses_none slot i there lt = cond-false (is_object (anode_page disk slot i)) _ [] (no_object (anode_page disk slot i) (anode_zero slot i there lt))

  no_uses : uses_of disk ≡ []
  no_uses = joined_nil (λ slot. joined (uses_at disk slot) 64) 16 (λ slot lt. joined_nil (uses_at disk slot) 64 (λ i below. uses_none slot i lt below))

  abbrev count_of : ℕ → ℕ → ℕ
  count_of p k = number_at 2 (2 * k) (page_of disk (1058 + p))

  unnamed : (block : ℕ) → is_count [] block 0 ≡ true
  unfolding is_count
  unnamed block = and_from _ _ (and_from _ _ refl (each_true (λ slot. true) 16 (λ slot lt. refl))) refl

  count_right : (p k : ℕ) → count_of p k ≡ 0 → is_count_place disk p k ≡ true
  unfolding is_count_place
  count_right p k none = by (cases_Bool (nat_lt (256 * p + k) disk.blocks))
    where
      by : (nat_lt (256 * p + k) disk.blocks ≡ true) ⊎ (nat_lt (256 * p + k) disk.blocks ≡ false) → is_count_place disk p k ≡ true
      by (inl is) = cond-true (nat_lt (256 * p + k) disk.blocks) _ _ is ∙ (λ j. is_count (no_uses j) (256 * p + k) (none j)) ∙ unnamed (256 * p + k)
      by (inr is) = cond-false (nat_lt (256 * p + k) disk.blocks) _ _ is ∙ eq-eqb (count_of p k) 0 none

  named : (block count : ℕ) → (count ≡ 0 → ⊥) → is_count [] block count ≡ false
  unfolding is_count
  named block count some = and_left _ _ (and_left _ _ (ne_eqb 0 count (λ e. some (sym e))))

  count_wrong : (p k : ℕ) → (count_of p k ≡ 0 → ⊥) → is_count_place disk p k ≡ false
  unfolding is_count_place
  count_wrong p k some = by (cases_Bool (nat_lt (256 * p + k) disk.blocks))
    where
      by : (nat_lt (256 * p + k) disk.blocks ≡ true) ⊎ (nat_lt (256 * p + k) disk.blocks ≡ false) → is_count_place disk p k ≡ false
      by (inl is) = cond-true (nat_lt (256 * p + k) disk.blocks) _ _ is ∙ (λ j. is_count (no_uses j) (256 * p + k) (count_of p k)) ∙ named (256 * p + k) (count_of p k) some
      by (inr is) = cond-false (nat_lt (256 * p + k) disk.blocks) _ _ is ∙ ne_eqb (count_of p k) 0 some

  count_none : (p : ℕ) → ((k : ℕ) → k < 256 → count_of p k ≡ 0) → count_fault disk p ≡ []
  unfolding is_count_page
  count_none p none = right (is_count_page disk p) (page_start (1058 + p)) rules.Count (each_true (is_count_place disk p) 256 (λ k lt. count_right p k (none k lt)))

  count_told : (p k : ℕ) → k < 256 → (count_of p k ≡ 0 → ⊥) → count_fault disk p ≡ one_fault (page_start (1058 + p)) rules.Count
  unfolding is_count_page
  count_told p k lt some = wrong (is_count_page disk p) (page_start (1058 + p)) rules.Count (each_fails (is_count_place disk p) k 256 lt (count_wrong p k some))

  promise_none : promise_fault disk ≡ []
  promise_none = right (nat_le (promises disk) (capacity_of disk)) 0 rules.Promises
      (le-leb (promises disk) (capacity_of disk) (let e : promises disk ≡ 0 = total_zero (λ slot. promise_by (state_at disk slot) disk slot) 16 (λ slot lt. λ j. promise_by (state_free slot lt j) disk slot) in omega (arith, e)))

  abbrev counts : List Fault
  counts = joined (count_fault disk) ((disk.blocks + 255) / 256)

  only_counts : (told : List Fault) → counts ≡ told → faults_in disk ≡ told
  unfolding faults_in
  only_counts told is =
      (λ j. ((((right (is_server_page (server_page disk)) (page_start 0) rules.ServerPage server_right j
      ++ right (is_numbers_page (page_of disk 1)) (page_start 1) rules.CallNumbers (zero_numbers (page_of disk 1) (zeros 1 (omega arith) (omega arith))) j)
      ++ joined_nil (slot_faults disk) 16 (λ slot lt. slot_none slot lt) j)
      ++ joined_nil (reach_faults disk) 16 (λ slot lt. reach_none slot lt) j)
      ++ is j)
      ++ promise_none j)
      ∙ append-nil told

pub fresh_none : FreshHasNone
fresh_none disk empty none = only_counts disk empty [] (joined_nil (count_fault disk) ((disk.blocks + 255) / 256) (λ p lt. count_none disk empty p (none p lt)))

pub count_is_told : CountIsTold
count_is_told disk empty p k there lt some others =
    only_counts disk empty (one_fault (page_start (1058 + p)) rules.Count)
    (joined_one (count_fault disk) ((disk.blocks + 255) / 256) p there (λ q below apart. count_none disk empty q (others q below apart)) ∙ count_told disk empty p k lt some)
