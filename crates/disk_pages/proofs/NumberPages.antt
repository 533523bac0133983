-- Pages of call numbers, as they are written and as they are judged.
use Rattle.std.proofs.Common.{◌≡◌, ◌<◌, ◌≤◌, ◌⊎◌, ℕ, zero, suc, ◌+◌, ◌-◌, ◌*◌, List, [], ◌∷◌, length, get_or, inl, inr, refl, sym, ◌∙◌, ap, arith}
use Rattle.std.specs.Prelude.{Bool, true, ◌&&◌, nat_lt}
use Rattle.std.specs.List.{list_all}
use Rattle.std.proofs.lemmas.Bool.{and_parts, and_from, cases_eq, cases_lt, eqb-true}
use Rattle.std.proofs.lemmas.List.{get_or_past}
use Rattle.base_types.specs.Image.{byte_at, Torn, Holds}
use Rattle.base_outside.proofs.Image.{get_or-bytes_from}
use Rattle.tree_calls.specs.declared.ship.Record.{Record}
use Rattle.disk_layout.specs.Numbers.{number_at}
use Rattle.disk_layout.proofs.Bytes.{number-same}
use Rattle.disk_pages.specs.Words.{each_below, are_zero}
use Rattle.disk_pages.specs.Server.{is_code}
use Rattle.disk_pages.specs.Numbers.{is_record, is_numbers_page, record_at}
use Rattle.disk_pages.specs.Fields.{IsZeroFrom}
use Rattle.disk_pages.specs.Sound.{no_record, record_in, is_sound_record}
use Rattle.disk_pages.specs.Laws.{RecordsAreSound}
use Rattle.disk_pages.proofs.Tests.{and_passes}
use Rattle.disk_pages.proofs.Zeros.{zeros_at, zeros_same, zero_number}

-- tests of all numbers below one
pub each_at : (test : ℕ → Bool) (n k : ℕ) → each_below test n ≡ true → k < n → test k ≡ true
unfolding each_below
each_at test zero k all lt = absurd (omega arith)
each_at test (suc n) k all lt =
    let parts = and_parts (each_below test n) (test n) all in
    elim (cases_eq k n) [
      | inl e ↦ ap test e ∙ parts.1
      | inr apart ↦ each_at test n k parts.0 (omega (arith, apart))
    ]

pub each_true : (test : ℕ → Bool) (n : ℕ) → ((k : ℕ) → k < n → test k ≡ true) → each_below test n ≡ true
unfolding each_below
each_true test zero all = refl
each_true test (suc n) all =
    and_from (each_below test n) (test n) (each_true test n (λ k lt. all k (omega arith))) (all n (omega arith))

-- all but one pass
pub each_but : (test : ℕ → Bool) (n k : ℕ) → k < n → ((j : ℕ) → j < n → (j ≡ k → ⊥) → test j ≡ true)
    → each_below test n ≡ test k
unfolding each_below
each_but test zero k lt others = absurd (omega arith)
each_but test (suc n) k lt others = elim (cases_eq k n) [
  | inl e ↦
      let all = each_true test n (λ j below. others j (omega arith) (λ is. absurd (omega (arith, is, e, below)))) in
      (λ i. all i && test n) ∙ ap test (sym e)
  | inr apart ↦
      and_passes (each_below test n) (test n) (others n (omega arith) (λ is. apart (sym is)))
      ∙ each_but test n k (omega (arith, apart)) (λ j below. others j (omega arith))
]

pub records_sound : RecordsAreSound
unfolding is_numbers_page is_record
records_sound page host is lt =
    (and_parts _ _ (each_at (λ (h : ℕ). is_record (24 * h) page) 17 host (and_parts _ _ is).0 lt)).0

-- a byte of a piece
pub held_at : (at j : ℕ) (piece image : List ℕ) → Holds at piece image → j < length piece
    → byte_at image (at + j) ≡ get_or piece j 0
held_at at j piece image holds lt =
    sym (get_or-bytes_from image at (length piece) j lt) ∙ ap (λ (l : List ℕ). get_or l j 0) holds.inside

no_tail : (code right j : ℕ) → 2 ≤ j → get_or (code ∷ right ∷ 0 ∷ 0 ∷ 0 ∷ 0 ∷ 0 ∷ 0 ∷ []) j 0 ≡ 0
no_tail code right zero le = absurd (omega arith)
no_tail code right (suc zero) le = absurd (omega arith)
no_tail code right (suc (suc zero)) le = refl
no_tail code right (suc (suc (suc zero))) le = refl
no_tail code right (suc (suc (suc (suc zero)))) le = refl
no_tail code right (suc (suc (suc (suc (suc zero))))) le = refl
no_tail code right (suc (suc (suc (suc (suc (suc zero)))))) le = refl
no_tail code right (suc (suc (suc (suc (suc (suc (suc zero))))))) le = refl
no_tail code right (suc (suc (suc (suc (suc (suc (suc (suc j)))))))) le = refl

-- the same bytes there
record_same : (at : ℕ) (a b : List ℕ) → ((k : ℕ) → at ≤ k → k < at + 24 → byte_at b k ≡ byte_at a k)
    → record_at at b ≡ record_at at a
record_same at a b same =
    let change = number-same 8 at at b a (λ j lt. same (at + j) (omega arith) (omega arith)) in
    let give = number-same 8 (at + 8) (at + 8) b a (λ j lt. same (at + 8 + j) (omega arith) (omega arith)) in
    let code = same (at + 16) (omega arith) (omega arith) in
    let right = same (at + 17) (omega arith) (omega arith) in
    λ i. record { change = change i; give = give i; code = code i; right = right i }

is_record_same : (at : ℕ) (a b : List ℕ) → ((k : ℕ) → at ≤ k → k < at + 24 → byte_at b k ≡ byte_at a k)
    → is_record at b ≡ is_record at a
unfolding is_record
is_record_same at a b same =
    let code = same (at + 16) (omega arith) (omega arith) in
    let right = same (at + 17) (omega arith) (omega arith) in
    let zeros = zeros_same (at + 18) 6 a b (λ k low high. same k (omega arith) (omega arith)) in
    λ i. is_code (code i) && nat_lt (right i) 64 && zeros i

record_told : (at : ℕ) (page : List ℕ) → are_zero (at + 18) 6 page ≡ true → is_record at page ≡ is_sound_record (record_at at page)
unfolding is_record
record_told at page zeros =
    and_passes (is_code (byte_at page (at + 16)) && nat_lt (byte_at page (at + 17)) 64) (are_zero (at + 18) 6 page) zeros

-- what is kept of a host, as it is written
module _ (host : ℕ) (lt : host < 17) (kept : Record) (p0 p1 p2 p3 : List ℕ)
    (t1 : Torn (24 * host) 8 p0 p1) (t2 : Torn (24 * host + 8) 8 p1 p2) (t3 : Torn (24 * host + 16) 8 p2 p3)
    (change : number_at 8 (24 * host) p1 ≡ kept.change) (give : number_at 8 (24 * host + 8) p2 ≡ kept.give)
    (held : Holds (24 * host + 16) (kept.code ∷ kept.right ∷ 0 ∷ 0 ∷ 0 ∷ 0 ∷ 0 ∷ 0 ∷ []) p3) where
  abbrev at : ℕ
  at = 24 * host

  outside : (k : ℕ) → (k < at) ⊎ (at + 24 ≤ k) → byte_at p3 k ≡ byte_at p0 k
  outside k (inl low) = t3.before k (omega arith) ∙ t2.before k (omega arith) ∙ t1.before k (omega arith)
  outside k (inr high) = t3.after k (omega arith) ∙ t2.after k (omega arith) ∙ t1.after k (omega arith)

  beside : (other : ℕ) → (other ≡ host → ⊥) → (k : ℕ) → 24 * other ≤ k → k < 24 * other + 24 → byte_at p3 k ≡ byte_at p0 k
  beside other apart k low high = elim (cases_lt other host) [
    | inl below ↦ outside k (inl (omega arith))
    | inr above ↦ outside k (inr (omega (arith, apart)))
  ]

  pub record_there : record_at at p3 ≡ kept
  record_there =
      let e1 = number-same 8 at at p3 p1 (λ j below. t3.before (at + j) (omega arith) ∙ t2.before (at + j) (omega arith)) ∙ change in
      let e2 = number-same 8 (at + 8) (at + 8) p3 p2 (λ j below. t3.before (at + 8 + j) (omega arith)) ∙ give in
      let piece = kept.code ∷ kept.right ∷ 0 ∷ 0 ∷ 0 ∷ 0 ∷ 0 ∷ 0 ∷ [] in
      let e3 = (let e : at + 16 ≡ at + 16 + 0 = omega arith in ap (byte_at p3) e) ∙ held_at (at + 16) 0 piece p3 held (omega arith) in
      let e4 = (let e : at + 17 ≡ at + 16 + 1 = omega arith in ap (byte_at p3) e) ∙ held_at (at + 16) 1 piece p3 held (omega arith) in
      λ i. record { change = e1 i; give = e2 i; code = e3 i; right = e4 i }

  zeros : are_zero (at + 18) 6 p3 ≡ true
  zeros = zeros_at (at + 18) 6 p3 (λ k low high.
      let e : k ≡ at + 16 + (k - at - 16) = omega arith in
      ap (byte_at p3) e
      ∙ held_at (at + 16) (k - at - 16) (kept.code ∷ kept.right ∷ 0 ∷ 0 ∷ 0 ∷ 0 ∷ 0 ∷ 0 ∷ []) p3 held (omega arith)
      ∙ no_tail kept.code kept.right (k - at - 16) (omega arith))

  pub others_there : (other : ℕ) → (other ≡ host → ⊥) → record_at (24 * other) p3 ≡ record_at (24 * other) p0
  others_there other apart = record_same (24 * other) p0 p3 (beside other apart)

  pub numbers_told : is_numbers_page p0 ≡ true → is_numbers_page p3 ≡ is_sound_record kept
  unfolding is_numbers_page
  numbers_told is =
      let parts = and_parts _ _ is in
      let tail = zeros_same 408 104 p0 p3 (λ k low high. outside k (inr (omega arith))) ∙ parts.1 in
      and_passes (each_below (λ (h : ℕ). is_record (24 * h) p3) 17) (are_zero 408 104 p3) tail
      ∙ each_but (λ (h : ℕ). is_record (24 * h) p3) 17 host lt (λ other below apart.
      is_record_same (24 * other) p0 p3 (beside other apart)
      ∙ each_at (λ (h : ℕ). is_record (24 * h) p0) 17 other parts.0 below)
      ∙ record_told at p3 zeros ∙ ap is_sound_record record_there

-- a page of zeros keeps nothing
no_number : (n at : ℕ) (page : List ℕ) → IsZeroFrom 0 page → number_at n at page ≡ 0
no_number n at page blank =
    eqb-true (number_at n at page) 0
    (sym (zero_number n at page) ∙ zeros_at at n page (λ k low high. blank k (omega arith)))

pub nothing_kept : (at : ℕ) (page : List ℕ) → IsZeroFrom 0 page → record_at at page ≡ no_record
nothing_kept at page blank =
    let change = no_number 8 at page blank in
    let give = no_number 8 (at + 8) page blank in
    let code = blank (at + 16) (omega arith) in
    let right = blank (at + 17) (omega arith) in
    λ i. record { change = change i; give = give i; code = code i; right = right i }

pub zeros_numbers : (page : List ℕ) → IsZeroFrom 0 page → is_numbers_page page ≡ true
unfolding is_numbers_page
zeros_numbers page blank =
    and_from _ _
    (each_true (λ (h : ℕ). is_record (24 * h) page) 17 (λ h lt.
    record_told (24 * h) page (zeros_at (24 * h + 18) 6 page (λ k low high. blank k (omega arith)))
    ∙ ap is_sound_record (nothing_kept (24 * h) page blank)))
    (zeros_at 408 104 page (λ k low high. blank k (omega arith)))

-- one of a list whose items all are sound
pub sound_at : (kept : List Record) (host : ℕ) → list_all is_sound_record kept ≡ true → host < length kept
    → is_sound_record (record_in kept host) ≡ true
sound_at [] host all lt = absurd (omega arith)
sound_at (one ∷ kept) zero all lt = (and_parts (is_sound_record one) (list_all is_sound_record kept) all).0
sound_at (one ∷ kept) (suc host) all lt =
    sound_at kept host (and_parts (is_sound_record one) (list_all is_sound_record kept) all).1 (omega arith)

-- what a page keeps of the first hosts of a list, and of no other
pub record Keeps (kept : List Record) (hosts : ℕ) (page : List ℕ) : Type 0 where
  pub told : (host : ℕ) → host < hosts → record_at (24 * host) page ≡ record_in kept host
  pub none : (host : ℕ) → hosts ≤ host → host < 17 → record_at (24 * host) page ≡ no_record
  pub sound : list_all is_sound_record kept ≡ true → is_numbers_page page ≡ true

pub keeps_none : (kept : List Record) (page : List ℕ) → IsZeroFrom 0 page → Keeps kept 0 page
keeps_none kept page blank = record {
  told = λ host lt. absurd (omega arith);
  none = λ host le lt. nothing_kept (24 * host) page blank;
  sound = λ all. zeros_numbers page blank;
}

pub keeps_more : (kept : List Record) (host : ℕ) (a b : List ℕ) → Keeps kept host a → host < length kept → length kept ≤ 17
    → record_at (24 * host) b ≡ record_in kept host
    → ((other : ℕ) → other < 17 → (other ≡ host → ⊥) → record_at (24 * other) b ≡ record_at (24 * other) a)
    → (is_numbers_page a ≡ true → is_numbers_page b ≡ is_sound_record (record_in kept host)) → Keeps kept (host + 1) b
keeps_more kept host a b keeps lt few here others is = record {
  told = λ h below. elim (cases_eq h host) [
    | inl e ↦ ap (λ (k : ℕ). record_at (24 * k) b) e ∙ here ∙ ap (record_in kept) (sym e)
    | inr apart ↦ others h (omega arith) apart ∙ keeps.told h (omega (arith, apart))
  ];
  none = λ h le high. others h high (λ e. absurd (omega (arith, e))) ∙ keeps.none h (omega arith) high;
  sound = λ all. is (keeps.sound all) ∙ sound_at kept host all lt;
}

-- all of a list
pub keeps_all : (kept : List Record) (n : ℕ) (page : List ℕ) → Keeps kept n page → length kept ≤ n
    → (host : ℕ) → host < 17 → record_at (24 * host) page ≡ record_in kept host
keeps_all kept n page keeps le host lt = elim (cases_lt host n) [
  | inl below ↦ keeps.told host below
  | inr above ↦ keeps.none host above lt ∙ sym (get_or_past kept host no_record (omega arith))
]
