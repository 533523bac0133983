-- Pages of one meaning.
use Rattle.std.proofs.Common.{◌≡◌, ◌<◌, ℕ, zero, suc, ◌+◌, ◌*◌, List, [], ◌∷◌, length, get_or, inl, inr, refl, sym, ◌∙◌, ap, arith, ◌⊎◌}
use Rattle.std.specs.Prelude.{Bool, true, false, min, ◌&&◌, ◌==◌, if◌then◌else◌}
use Rattle.std.proofs.lemmas.Bool.{and_parts, cases_Bool, cases_eq, cond-true, cond-false, cond_both, eqb-true, leb-true, false≢true}
use Rattle.base_types.specs.Image.{AreBytes, byte_at}
use Rattle.disk_layout.specs.Numbers.{number_at}
use Rattle.disk_pages.specs.Words.{each_below, are_zero, name_at, is_name_at}
use Rattle.disk_pages.specs.Server.{is_taken, is_rest, is_server_page, server_of, taken_at}
use Rattle.disk_pages.specs.Numbers.{is_record, is_numbers_page, record_at}
use Rattle.disk_pages.specs.Header.{state_for, state_of, is_taken_slot, are_moves, is_behind, is_header, header_of}
use Rattle.disk_pages.specs.declared.header.SlotState.{SlotState}
use Rattle.disk_pages.specs.declared.header.SlotState.TheVariants.{Free, Writable, Clone, Leaving, Arriving, Gone, Unknown}
use Rattle.base_outside.proofs.Image.{length-bytes_from}
use Rattle.disk_pages.specs.Anode.{is_object_page, is_free_page}
use Rattle.disk_image_laws.specs.PageLaws.{ServerPagesAreOne, NumbersPagesAreOne, HeadersAreOne, ObjectPagesAreOne, FreePagesAreOne}
use Rattle.disk_pages.specs.declared.server.TakenShip.{TakenShip}
use Rattle.disk_image_laws.proofs.Same.{SameIn, then_same, one_same, zeros_same, bytes_same, number_same, name_same}

each_at : (test : ℕ → Bool) (n k : ℕ) → each_below test n ≡ true → k < n → test k ≡ true
unfolding each_below
each_at test zero k all lt = absurd (omega arith)
each_at test (suc n) k all lt =
    let parts = and_parts (each_below test n) (test n) all in
    elim (cases_eq k n) [
      | inl e ↦ ap test e ∙ parts.1
      | inr apart ↦ each_at test n k parts.0 (omega (arith, apart))
    ]

-- parts of one size, one behind another
parts_same : (a b : List ℕ) (start size n : ℕ) → ((i : ℕ) → i < n → SameIn a b (start + size * i) (start + size * i + size)) → SameIn a b start (start + size * n)
parts_same a b start size zero each k le lt = absurd (let z : size * zero ≡ 0 = omega arith in omega (arith, z))
parts_same a b start size (suc n) each k le lt =
    let last = each n (omega arith) in
    let e : size * suc n ≡ size * n + size = grind arith in
    then_same a b start (start + size * n) (start + size * suc n) (parts_same a b start size n (λ i below. each i (omega arith))) (λ m from below. last m from (omega (arith, e, below))) k le lt

pub free_pages : FreePagesAreOne
unfolding is_free_page
free_pages a b of_a of_b free_a free_b unique =
    let x = and_parts _ _ free_a in
    let y = and_parts _ _ free_b in
    let all = then_same a b 0 4 512 (zeros_same a b 0 4 4 refl x.0 y.0) (then_same a b 4 8 512 (number_same a b 4 4 8 refl of_a of_b unique) (zeros_same a b 8 504 512 refl x.1 y.1)) in
    λ k lt. all k (omega arith) lt

pub object_pages : ObjectPagesAreOne
unfolding is_object_page
object_pages blocks a b of_a of_b is_a is_b says =
    let x8 = and_parts _ _ is_a in
    let x7 = and_parts _ _ x8.0 in
    let x6 = and_parts _ _ x7.0 in
    let x5 = and_parts _ _ x6.0 in
    let x4 = and_parts _ _ x5.0 in
    let x3 = and_parts _ _ x4.0 in
    let x2 = and_parts _ _ x3.0 in
    let x1 = and_parts _ _ x2.0 in
    let y8 = and_parts _ _ is_b in
    let y7 = and_parts _ _ y8.0 in
    let y6 = and_parts _ _ y7.0 in
    let y5 = and_parts _ _ y6.0 in
    let y4 = and_parts _ _ y5.0 in
    let y3 = and_parts _ _ y4.0 in
    let y2 = and_parts _ _ y3.0 in
    let y1 = and_parts _ _ y2.0 in
    let all = then_same a b 0 1 512 (one_same a b 0 says.kind)
    (then_same a b 1 4 512 (zeros_same a b 1 3 4 refl x1.1 y1.1)
    (then_same a b 4 8 512 (number_same a b 4 4 8 refl of_a of_b says.unique)
    (then_same a b 8 12 512 (number_same a b 4 8 12 refl of_a of_b says.length)
    (then_same a b 12 76 512 (parts_same a b 12 4 16 (λ w lt. number_same a b 4 (12 + 4 * w) (12 + 4 * w + 4) refl of_a of_b (says.pointers w lt)))
    (then_same a b 76 137 512 (name_same a b 76 137 refl x6.1 y6.1 says.owner.0 says.owner.1)
    (then_same a b 137 198 512 (name_same a b 137 198 refl x7.1 y7.1 says.group.0 says.group.1) (zeros_same a b 198 314 512 refl x8.1 y8.1))))))) in
    λ k lt. all k (omega arith) lt

record_same : (a b : List ℕ) (at : ℕ) → AreBytes a → AreBytes b → is_record at a ≡ true → is_record at b ≡ true → record_at at a ≡ record_at at b → SameIn a b at (at + 24)
unfolding is_record
record_same a b at of_a of_b is_a is_b e =
    then_same a b at (at + 8) (at + 24) (number_same a b 8 at (at + 8) refl of_a of_b (λ i. (e i).change))
    (then_same a b (at + 8) (at + 16) (at + 24) (number_same a b 8 (at + 8) (at + 16) (omega arith) of_a of_b (λ i. (e i).give))
    (then_same a b (at + 16) (at + 17) (at + 24) (λ k le lt. one_same a b (at + 16) (λ i. (e i).code) k le (omega arith))
    (then_same a b (at + 17) (at + 18) (at + 24) (λ k le lt. one_same a b (at + 17) (λ i. (e i).right) k le (omega arith))
    (zeros_same a b (at + 18) 6 (at + 24) (omega arith) (and_parts _ _ is_a).1 (and_parts _ _ is_b).1))))

pub numbers_pages : NumbersPagesAreOne
unfolding is_numbers_page
numbers_pages a b of_a of_b is_a is_b says =
    let x = and_parts _ _ is_a in
    let y = and_parts _ _ is_b in
    let all = then_same a b 0 408 512 (parts_same a b 0 24 17 (λ host lt k le below. record_same a b (24 * host) of_a of_b (each_at _ 17 host x.0 lt) (each_at _ 17 host y.0 lt) (says host lt) k (omega arith) (omega arith))) (zeros_same a b 408 104 512 refl x.1 y.1) in
    λ k lt. all k (omega arith) lt

taken_same : (a b : List ℕ) (at : ℕ) → AreBytes a → AreBytes b → is_taken at a ≡ true → is_taken at b ≡ true → taken_at at a ≡ taken_at at b → SameIn a b at (at + 16)
unfolding is_taken
taken_same a b at of_a of_b is_a is_b e =
    then_same a b at (at + 8) (at + 16) (number_same a b 8 at (at + 8) refl of_a of_b (λ i. (e i).ship))
    (then_same a b (at + 8) (at + 9) (at + 16) (λ k le lt. one_same a b (at + 8) (λ i. (e i).code) k le (omega arith))
    (zeros_same a b (at + 9) 7 (at + 16) (omega arith) (and_parts _ _ is_a).1 (and_parts _ _ is_b).1))

-- what stands behind the states of hosts, in format 2
abbrev rest_2 : List ℕ → Bool
rest_2 page =
    (byte_at page 29 == 2) && are_zero 30 2 page && is_taken 40 page && is_taken 56 page && is_taken 72 page && is_taken 88 page && are_zero 104 408 page

rest_same : (a b : List ℕ) → AreBytes a → AreBytes b → byte_at a 29 ≡ byte_at b 29 → number_at 8 32 a ≡ number_at 8 32 b
    → taken_at 40 a ≡ taken_at 40 b → taken_at 56 a ≡ taken_at 56 b → taken_at 72 a ≡ taken_at 72 b → taken_at 88 a ≡ taken_at 88 b
    → is_rest a ≡ true → is_rest b ≡ true → SameIn a b 30 512
rest_same a b of_a of_b format ship t1 t2 t3 t4 is_a is_b = by (cases_Bool (byte_at a 29 == 0))
  where
    by : ((byte_at a 29 == 0) ≡ true) ⊎ ((byte_at a 29 == 0) ≡ false) → SameIn a b 30 512
    by (inl old) =
        let old_b : (byte_at b 29 == 0) ≡ true = (λ i. sym format i == 0) ∙ old in
        zeros_same a b 30 482 512 refl (sym (cond-true (byte_at a 29 == 0) (are_zero 30 482 a) (rest_2 a) old) ∙ is_a) (sym (cond-true (byte_at b 29 == 0) (are_zero 30 482 b) (rest_2 b) old_b) ∙ is_b)
    by (inr new) =
        let new_b : (byte_at b 29 == 0) ≡ false = (λ i. sym format i == 0) ∙ new in
        let x6 = and_parts _ _ (sym (cond-false (byte_at a 29 == 0) (are_zero 30 482 a) (rest_2 a) new) ∙ is_a) in
        let x5 = and_parts _ _ x6.0 in
        let x4 = and_parts _ _ x5.0 in
        let x3 = and_parts _ _ x4.0 in
        let x2 = and_parts _ _ x3.0 in
        let x1 = and_parts _ _ x2.0 in
        let y6 = and_parts _ _ (sym (cond-false (byte_at b 29 == 0) (are_zero 30 482 b) (rest_2 b) new_b) ∙ is_b) in
        let y5 = and_parts _ _ y6.0 in
        let y4 = and_parts _ _ y5.0 in
        let y3 = and_parts _ _ y4.0 in
        let y2 = and_parts _ _ y3.0 in
        let y1 = and_parts _ _ y2.0 in
        then_same a b 30 32 512 (zeros_same a b 30 2 32 refl x1.1 y1.1)
        (then_same a b 32 40 512 (number_same a b 8 32 40 refl of_a of_b ship)
        (then_same a b 40 56 512 (taken_same a b 40 of_a of_b x2.1 y2.1 t1)
        (then_same a b 56 72 512 (taken_same a b 56 of_a of_b x3.1 y3.1 t2)
        (then_same a b 72 88 512 (taken_same a b 72 of_a of_b x4.1 y4.1 t3)
        (then_same a b 88 104 512 (taken_same a b 88 of_a of_b x5.1 y5.1 t4) (zeros_same a b 104 408 512 refl x6.1 y6.1))))))

pub server_pages : ServerPagesAreOne
unfolding is_server_page server_of
server_pages a b of_a of_b is_a is_b e =
    let x = and_parts _ _ is_a in
    let y = and_parts _ _ is_b in
    let none : TakenShip = record { ship = 0; code = 0 } in
    let taken : taken_at 40 a ∷ taken_at 56 a ∷ taken_at 72 a ∷ taken_at 88 a ∷ [] ≡ taken_at 40 b ∷ taken_at 56 b ∷ taken_at 72 b ∷ taken_at 88 b ∷ [] = λ i. (e i).taken in
    let at = λ (k : ℕ). ap (λ (l : List TakenShip). get_or l k none) taken in
    let all = then_same a b 0 8 512 (number_same a b 8 0 8 refl of_a of_b (λ i. (e i).epoch))
    (then_same a b 8 12 512 (number_same a b 4 8 12 refl of_a of_b (λ i. (e i).next))
    (then_same a b 12 29 512 (bytes_same a b 12 17 29 refl (λ i. (e i).hosts))
    (then_same a b 29 30 512 (one_same a b 29 (λ i. (e i).format))
    (rest_same a b of_a of_b (λ i. (e i).format) (λ i. (e i).ship) (at 0) (at 1) (at 2) (at 3) x.1 y.1)))) in
    λ k lt. all k (omega arith) lt

-- the byte of a state
abbrev byte_for : SlotState → ℕ
byte_for Free = 0
byte_for Writable = 1
byte_for Clone = 2
byte_for Leaving = 3
byte_for Arriving = 4
byte_for Gone = 5
byte_for Unknown = 6

module _ (format byte : ℕ) where
  abbrev moving : SlotState
  moving = if byte == 3 then Leaving else if byte == 4 then Arriving else if byte == 5 then Gone else Unknown

  abbrev Holds : SlotState → Type 0
  Holds state = is_taken_slot state ≡ true → byte_for state ≡ byte

  of_moving : Holds moving
  of_moving = cond_both (byte == 3) Leaving (if byte == 4 then Arriving else if byte == 5 then Gone else Unknown) Holds (λ e taken. sym (eqb-true byte 3 e))
      (λ a. cond_both (byte == 4) Arriving (if byte == 5 then Gone else Unknown) Holds (λ e taken. sym (eqb-true byte 4 e))
      (λ b. cond_both (byte == 5) Gone Unknown Holds (λ e taken. sym (eqb-true byte 5 e)) (λ d taken. absurd (false≢true taken))))

  state_byte : Holds (state_for format byte)
  state_byte = cond_both (byte == 0) Free (if byte == 1 then Writable else if byte == 2 then Clone else if format == 0 then Unknown else moving) Holds (λ e taken. absurd (false≢true taken))
      (λ a. cond_both (byte == 1) Writable (if byte == 2 then Clone else if format == 0 then Unknown else moving) Holds (λ e taken. sym (eqb-true byte 1 e))
      (λ b. cond_both (byte == 2) Clone (if format == 0 then Unknown else moving) Holds (λ e taken. sym (eqb-true byte 2 e))
      (λ d. cond_both (format == 0) Unknown moving Holds (λ e taken. absurd (false≢true taken)) (λ f. of_moving))))

-- the length of a name that stands
size_same : (a b : List ℕ) (at : ℕ) → is_name_at at a ≡ true → is_name_at at b ≡ true → name_at at a ≡ name_at at b → byte_at a at ≡ byte_at b at
unfolding is_name_at name_at
size_same a b at of_a of_b e =
    let short_a = leb-true (byte_at a at) 60 (and_parts _ _ (and_parts _ _ of_a).0).0 in
    let short_b = leb-true (byte_at b at) 60 (and_parts _ _ (and_parts _ _ of_b).0).0 in
    let sizes : min (byte_at a at) 60 ≡ min (byte_at b at) 60 =
    sym (length-bytes_from a (at + 1) (min (byte_at a at) 60)) ∙ ap (λ (l : List ℕ). length l) e ∙ length-bytes_from b (at + 1) (min (byte_at b at) 60) in
    omega (arith, short_a, short_b, sizes)

-- what stands behind a name, in format 2
abbrev moves_2 : ℕ → List ℕ → List ℕ → Bool
moves_2 home server page = are_zero 74 2 page && are_moves home server page (state_of server page) && are_zero 92 420 page

behind_same : (home : ℕ) (server a b : List ℕ) → AreBytes a → AreBytes b → byte_at a 73 ≡ byte_at b 73 → number_at 4 76 a ≡ number_at 4 76 b → number_at 8 80 a ≡ number_at 8 80 b
    → number_at 4 88 a ≡ number_at 4 88 b → is_behind home server a ≡ true → is_behind home server b ≡ true → SameIn a b 73 512
behind_same home server a b of_a of_b other moves ship parts is_a is_b = by (cases_Bool (byte_at server 29 == 0))
  where
    by : ((byte_at server 29 == 0) ≡ true) ⊎ ((byte_at server 29 == 0) ≡ false) → SameIn a b 73 512
    by (inl old) = zeros_same a b 73 439 512 refl (sym (cond-true (byte_at server 29 == 0) (are_zero 73 439 a) (moves_2 home server a) old) ∙ is_a) (sym (cond-true (byte_at server 29 == 0) (are_zero 73 439 b) (moves_2 home server b) old) ∙ is_b)
    by (inr new) =
        let x2 = and_parts _ _ (sym (cond-false (byte_at server 29 == 0) (are_zero 73 439 a) (moves_2 home server a) new) ∙ is_a) in
        let x1 = and_parts _ _ x2.0 in
        let y2 = and_parts _ _ (sym (cond-false (byte_at server 29 == 0) (are_zero 73 439 b) (moves_2 home server b) new) ∙ is_b) in
        let y1 = and_parts _ _ y2.0 in
        then_same a b 73 74 512 (one_same a b 73 other)
        (then_same a b 74 76 512 (zeros_same a b 74 2 76 refl x1.0 y1.0)
        (then_same a b 76 80 512 (number_same a b 4 76 80 refl of_a of_b moves)
        (then_same a b 80 88 512 (number_same a b 8 80 88 refl of_a of_b ship)
        (then_same a b 88 92 512 (number_same a b 4 88 92 refl of_a of_b parts) (zeros_same a b 92 420 512 refl x2.1 y2.1)))))

pub headers : HeadersAreOne
unfolding is_header header_of
headers home server a b of_a of_b is_a is_b e =
    let x5 = and_parts _ _ is_a in
    let x4 = and_parts _ _ x5.0 in
    let x3 = and_parts _ _ x4.0 in
    let x2 = and_parts _ _ x3.0 in
    let x1 = and_parts _ _ x2.0 in
    let y5 = and_parts _ _ is_b in
    let y4 = and_parts _ _ y5.0 in
    let y3 = and_parts _ _ y4.0 in
    let y2 = and_parts _ _ y3.0 in
    let y1 = and_parts _ _ y2.0 in
    let states : state_of server a ≡ state_of server b = λ i. (e i).state in
    let state : byte_at a 0 ≡ byte_at b 0 = sym (state_byte (byte_at server 29) (byte_at a 0) x1.0) ∙ ap byte_for states ∙ state_byte (byte_at server 29) (byte_at b 0) y1.0 in
    let all = then_same a b 0 1 512 (one_same a b 0 state)
    (then_same a b 1 4 512 (zeros_same a b 1 3 4 refl x1.1 y1.1)
    (then_same a b 4 8 512 (number_same a b 4 4 8 refl of_a of_b (λ i. (e i).id.0))
    (then_same a b 8 12 512 (number_same a b 4 8 12 refl of_a of_b (λ i. (e i).objects))
    (then_same a b 12 73 512 (name_same a b 12 73 refl x4.1 y4.1 (size_same a b 12 x4.1 y4.1 (λ i. (e i).name)) (λ i. (e i).name))
    (behind_same home server a b of_a of_b (λ i. (e i).other) (λ i. (e i).moves) (λ i. (e i).ship) (λ i. (e i).parts) x5.1 y5.1))))) in
    λ k lt. all k (omega arith) lt
