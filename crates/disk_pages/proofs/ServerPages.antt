-- The page of a server, as it is written and as it is judged.
use Rattle.std.proofs.Common.{◌≡◌, ◌<◌, ◌≤◌, ℕ, ◌+◌, List, [], ◌∷◌, length, get_or, replicate, inl, inr, refl, sym, ◌∙◌, ap, arith}
use Rattle.std.specs.Prelude.{Bool, true, ◌==◌, ◌&&◌, nat_le, if◌then◌else◌}
use Rattle.std.specs.List.{list_all}
use Rattle.std.proofs.lemmas.Bool.{and_parts, and_from, cases_Bool, cond-true, cond-false}
use Rattle.base_types.specs.Image.{byte_at, bytes_from, Torn, Holds}
use Rattle.disk_layout.specs.Numbers.{number_at}
use Rattle.disk_layout.proofs.Words.{no_byte}
use Rattle.disk_pages.specs.Words.{are_zero}
use Rattle.disk_pages.specs.Server.{is_code, is_taken, is_rest, is_server_page, server_of, taken_at}
use Rattle.disk_pages.specs.declared.server.ServerFacts.{ServerFacts}
use Rattle.disk_pages.specs.declared.server.TakenShip.{TakenShip}
use Rattle.disk_pages.specs.Fields.{IsZeroFrom}
use Rattle.disk_pages.specs.Sound.{are_facts}
use Rattle.disk_pages.specs.Laws.{FactsAreSound}
use Rattle.disk_pages.proofs.Tests.{and_passes, four_assoc}
use Rattle.disk_pages.proofs.Kept.{IsSameBefore, write_more, fewer, zero_behind, number_kept, bytes_kept, taken_kept}
use Rattle.disk_pages.proofs.Zeros.{zeros_at, zero_in}

-- whether the codes of what was taken are told
abbrev are_told : List TakenShip → Bool
are_told taken = list_all (λ (one : TakenShip). is_code one.code) taken

abbrev all_taken : List ℕ → List TakenShip
all_taken page = taken_at 40 page ∷ taken_at 56 page ∷ taken_at 72 page ∷ taken_at 88 page ∷ []

taken_told : (at : ℕ) (page : List ℕ) → are_zero (at + 9) 7 page ≡ true → is_taken at page ≡ is_code (byte_at page (at + 8))
unfolding is_taken
taken_told at page zeros = and_passes (is_code (byte_at page (at + 8))) (are_zero (at + 9) 7 page) zeros

-- the bytes of a page of format 2 that are zero
pub record HasGaps (page : List ℕ) : Type 0 where
  pub format : byte_at page 29 ≡ 2
  pub gap : are_zero 30 2 page ≡ true
  pub first : are_zero 49 7 page ≡ true
  pub second : are_zero 65 7 page ≡ true
  pub third : are_zero 81 7 page ≡ true
  pub fourth : are_zero 97 7 page ≡ true
  pub last : are_zero 104 408 page ≡ true

rest_told : (page : List ℕ) → HasGaps page → is_rest page ≡ are_told (all_taken page)
rest_told page gaps =
    let format = gaps.format in
    let gap = gaps.gap in
    let last = gaps.last in
    let first = taken_told 40 page gaps.first in
    let second = taken_told 56 page gaps.second in
    let third = taken_told 72 page gaps.third in
    let fourth = taken_told 88 page gaps.fourth in
    (λ i. if format i == 0 then are_zero 30 482 page
    else ((((((format i == 2) && gap i) && first i) && second i) && third i) && fourth i) && last i)
    ∙ four_assoc (is_code (byte_at page 48)) (is_code (byte_at page 64)) (is_code (byte_at page 80)) (is_code (byte_at page 96)) true

pub page_told : (page : List ℕ) → HasGaps page → is_server_page page ≡ are_facts (server_of page)
unfolding is_server_page server_of
page_told page gaps =
    let next = number_at 4 8 page in
    ap (λ (b : Bool). ((nat_le 1 next && nat_le next 65536) && list_all (λ (state : ℕ). nat_le state 3) (bytes_from page 12 17)) && b) (rest_told page gaps)

-- what a page says is sound
four_pass : (a b c d : Bool) → a ≡ true → b ≡ true → c ≡ true → d ≡ true → (a && (b && (c && (d && true)))) ≡ true
four_pass a b c d of_a of_b of_c of_d = λ i. of_a i && (of_b i && (of_c i && (of_d i && true)))

taken_code : (at : ℕ) (page : List ℕ) → is_taken at page ≡ true → is_code (byte_at page (at + 8)) ≡ true
unfolding is_taken
taken_code at page is = (and_parts _ _ is).0

abbrev second_rest : List ℕ → Bool
second_rest page =
    (byte_at page 29 == 2) && are_zero 30 2 page && is_taken 40 page && is_taken 56 page && is_taken 72 page && is_taken 88 page && are_zero 104 408 page

old_codes : (page : List ℕ) → are_zero 30 482 page ≡ true → are_told (all_taken page) ≡ true
old_codes page zeros =
    let none = λ (at : ℕ) (low : 30 ≤ at) (high : at < 512). ap is_code (zero_in 30 482 page zeros at low (omega arith)) in
    four_pass (is_code (byte_at page 48)) (is_code (byte_at page 64)) (is_code (byte_at page 80)) (is_code (byte_at page 96))
    (none 48 (omega arith) (omega arith)) (none 64 (omega arith) (omega arith)) (none 80 (omega arith) (omega arith)) (none 96 (omega arith) (omega arith))

new_codes : (page : List ℕ) → second_rest page ≡ true → are_told (all_taken page) ≡ true
new_codes page is =
    let x6 = and_parts _ _ is in
    let x5 = and_parts _ _ x6.0 in
    let x4 = and_parts _ _ x5.0 in
    let x3 = and_parts _ _ x4.0 in
    let x2 = and_parts _ _ x3.0 in
    four_pass (is_code (byte_at page 48)) (is_code (byte_at page 64)) (is_code (byte_at page 80)) (is_code (byte_at page 96))
    (taken_code 40 page x2.1) (taken_code 56 page x3.1) (taken_code 72 page x4.1) (taken_code 88 page x5.1)

rest_sound : (page : List ℕ) → is_rest page ≡ true → are_told (all_taken page) ≡ true
rest_sound page is = elim (cases_Bool (byte_at page 29 == 0)) [
  | inl old ↦ old_codes page (sym (cond-true (byte_at page 29 == 0) (are_zero 30 482 page) (second_rest page) old) ∙ is)
  | inr new ↦ new_codes page (sym (cond-false (byte_at page 29 == 0) (are_zero 30 482 page) (second_rest page) new) ∙ is)
]

pub facts_sound : FactsAreSound
unfolding is_server_page server_of
facts_sound page is =
    let x = and_parts _ _ is in
    and_from _ _ x.0 (rest_sound page x.1)

-- the page as it is written
module _ (facts : ServerFacts) (p1 p2 p3 p4 p5 p6 p7 p8 p9 : List ℕ)
    (t1 : Torn 0 8 (replicate 512 0) p1) (t2 : Torn 8 4 p1 p2) (t3 : Torn 12 (length facts.hosts) p2 p3) (t4 : Torn 29 1 p3 p4)
    (t5 : Torn 32 8 p4 p5) (t6 : Torn 40 9 p5 p6) (t7 : Torn 56 9 p6 p7) (t8 : Torn 72 9 p7 p8) (t9 : Torn 88 9 p8 p9)
    (many : length facts.hosts ≡ 17) where
  s8 : IsSameBefore 88 p8 p9
  s8 = t9.before

  s7 : IsSameBefore 72 p7 p9
  s7 = write_more 72 72 9 p7 p8 p9 (omega arith) t8 (fewer 72 88 p8 p9 (omega arith) s8)

  s6 : IsSameBefore 56 p6 p9
  s6 = write_more 56 56 9 p6 p7 p9 (omega arith) t7 (fewer 56 72 p7 p9 (omega arith) s7)

  s5 : IsSameBefore 40 p5 p9
  s5 = write_more 40 40 9 p5 p6 p9 (omega arith) t6 (fewer 40 56 p6 p9 (omega arith) s6)

  s4 : IsSameBefore 32 p4 p9
  s4 = write_more 32 32 8 p4 p5 p9 (omega arith) t5 (fewer 32 40 p5 p9 (omega arith) s5)

  s3 : IsSameBefore 29 p3 p9
  s3 = write_more 29 29 1 p3 p4 p9 (omega arith) t4 (fewer 29 32 p4 p9 (omega arith) s4)

  s2 : IsSameBefore 12 p2 p9
  s2 = write_more 12 12 (length facts.hosts) p2 p3 p9 (omega arith) t3 (fewer 12 29 p3 p9 (omega arith) s3)

  s1 : IsSameBefore 8 p1 p9
  s1 = write_more 8 8 4 p1 p2 p9 (omega arith) t2 (fewer 8 12 p2 p9 (omega arith) s2)

  z1 : IsZeroFrom 8 p1
  z1 k from = t1.after k from ∙ no_byte 512 k

  z2 : IsZeroFrom 12 p2
  z2 = zero_behind 8 8 4 12 p1 p2 z1 t2 (omega arith) (omega arith)

  z3 : IsZeroFrom 29 p3
  z3 = zero_behind 12 12 (length facts.hosts) 29 p2 p3 z2 t3 (omega arith) (omega (arith, many))

  z4 : IsZeroFrom 30 p4
  z4 = zero_behind 29 29 1 30 p3 p4 z3 t4 (omega arith) (omega arith)

  z5 : IsZeroFrom 40 p5
  z5 = zero_behind 30 32 8 40 p4 p5 z4 t5 (omega arith) (omega arith)

  z6 : IsZeroFrom 49 p6
  z6 = zero_behind 40 40 9 49 p5 p6 z5 t6 (omega arith) (omega arith)

  z7 : IsZeroFrom 65 p7
  z7 = zero_behind 49 56 9 65 p6 p7 z6 t7 (omega arith) (omega arith)

  z8 : IsZeroFrom 81 p8
  z8 = zero_behind 65 72 9 81 p7 p8 z7 t8 (omega arith) (omega arith)

  z9 : IsZeroFrom 97 p9
  z9 = zero_behind 81 88 9 97 p8 p9 z8 t9 (omega arith) (omega arith)

  pub server_gaps : facts.format ≡ 2 → byte_at p4 29 ≡ facts.format → HasGaps p9
  server_gaps two format = record {
    format = s4 29 (omega arith) ∙ format ∙ two;
    gap = zeros_at 30 2 p9 (λ k low high. s4 k (omega arith) ∙ z4 k low);
    first = zeros_at 49 7 p9 (λ k low high. s6 k (omega arith) ∙ z6 k low);
    second = zeros_at 65 7 p9 (λ k low high. s7 k (omega arith) ∙ z7 k low);
    third = zeros_at 81 7 p9 (λ k low high. s8 k (omega arith) ∙ z8 k low);
    fourth = zeros_at 97 7 p9 (λ k low high. z9 k low);
    last = zeros_at 104 408 p9 (λ k low high. z9 k (omega arith));
  }

  pub server_says : (a b c d : TakenShip) → number_at 8 0 p1 ≡ facts.epoch → number_at 4 8 p2 ≡ facts.next → Holds 12 facts.hosts p3
      → byte_at p4 29 ≡ facts.format → number_at 8 32 p5 ≡ facts.ship
      → taken_at 40 p6 ≡ a → taken_at 56 p7 ≡ b → taken_at 72 p8 ≡ c → taken_at 88 p9 ≡ d
      → a ∷ b ∷ c ∷ d ∷ [] ≡ facts.taken → server_of p9 ≡ facts
  unfolding server_of
  server_says a b c d epoch next hosts format ship first second third fourth list =
      let e1 : number_at 8 0 p9 ≡ facts.epoch = number_kept 8 0 8 p1 p9 (omega arith) s1 ∙ epoch in
      let e2 : number_at 4 8 p9 ≡ facts.next = number_kept 4 8 12 p2 p9 (omega arith) s2 ∙ next in
      let e3 : bytes_from p9 12 17 ≡ facts.hosts =
      bytes_kept 17 12 29 p3 p9 (omega arith) s3 ∙ ap (bytes_from p3 12) (sym many) ∙ hosts.inside in
      let e4 : byte_at p9 29 ≡ facts.format = s4 29 (omega arith) ∙ format in
      let e5 : number_at 8 32 p9 ≡ facts.ship = number_kept 8 32 40 p5 p9 (omega arith) s5 ∙ ship in
      let a1 = taken_kept 40 56 p6 p9 (omega arith) s6 ∙ first in
      let a2 = taken_kept 56 72 p7 p9 (omega arith) s7 ∙ second in
      let a3 = taken_kept 72 88 p8 p9 (omega arith) s8 ∙ third in
      let e6 : all_taken p9 ≡ facts.taken = (λ i. a1 i ∷ a2 i ∷ a3 i ∷ fourth i ∷ []) ∙ list in
      λ i. record { epoch = e1 i; next = e2 i; hosts = e3 i; format = e4 i; ship = e5 i; taken = e6 i }

-- a list of four
pub four_items : (xs : List TakenShip) (a b c d : TakenShip) → length xs ≡ 4
    → get_or xs 0 a ∷ get_or xs 1 b ∷ get_or xs 2 c ∷ get_or xs 3 d ∷ [] ≡ xs
four_items [] a b c d four = absurd (omega arith)
four_items (x ∷ []) a b c d four = absurd (omega arith)
four_items (x ∷ y ∷ []) a b c d four = absurd (omega arith)
four_items (x ∷ y ∷ z ∷ []) a b c d four = absurd (omega arith)
four_items (x ∷ y ∷ z ∷ w ∷ []) a b c d four = refl
four_items (x ∷ y ∷ z ∷ w ∷ v ∷ rest) a b c d four = absurd (omega arith)
