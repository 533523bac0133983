-- Headers of slots, as they are written and as they are judged.
use Rattle.std.proofs.Common.{◌≡◌, ℕ, List, replicate, refl, sym, ◌∙◌, ap, arith}
use Rattle.std.specs.Prelude.{Bool, true, false, ◌==◌, ◌&&◌, nat_le, if◌then◌else◌}
use Rattle.std.proofs.lemmas.Bool.{and_parts, and_from, cond-true, cond-false, false≢true}
use Rattle.base_types.specs.Image.{byte_at, bytes_from, Torn}
use Rattle.disk_layout.specs.Numbers.{number_at}
use Rattle.disk_layout.proofs.Words.{no_byte}
use Rattle.disk_pages.specs.Words.{are_zero, name_at, is_name_at}
use Rattle.disk_pages.specs.Server.{server_of}
use Rattle.disk_pages.specs.Header.{state_for, state_of, is_taken_slot, is_id, is_limit, is_other, are_moves, is_behind, is_header, header_of, id_of}
use Rattle.disk_pages.specs.declared.header.SlotHeader.{SlotHeader}
use Rattle.disk_pages.specs.declared.header.SlotState.{SlotState}
use Rattle.disk_pages.specs.declared.header.SlotState.TheVariants.{Free, Writable, Clone, Leaving, Arriving, Gone, Unknown}
use Rattle.disk_pages.specs.Fields.{IsZeroFrom}
use Rattle.disk_pages.specs.Sound.{are_sound_moves, is_sound_header}
use Rattle.disk_pages.specs.Laws.{HeadersAreSound, HeadersChangeFormat}
use Rattle.disk_pages.proofs.Tests.{and_true, and_assoc}
use Rattle.disk_pages.proofs.Kept.{IsSameBefore, write_more, fewer, zero_behind, number_kept, name_kept, is_name_kept}
use Rattle.disk_pages.proofs.Zeros.{zeros_at, zero_in, zeros_split, zero_number}

-- the ship number and the parts are zero
both_zero : (page : List ℕ) → are_zero 80 12 page ≡ ((number_at 8 80 page == 0) && (number_at 4 88 page == 0))
both_zero page = zeros_split 80 8 4 page ∙ (λ i. zero_number 8 80 page i && zero_number 4 88 page i)

one_zero : (at : ℕ) (page : List ℕ) → are_zero at 1 page ≡ (byte_at page at == 0)
unfolding are_zero bytes_from
one_zero at page = and_true (byte_at page at == 0)

unmoved : (page : List ℕ)
    → (are_zero 73 1 page && are_zero 80 12 page) ≡ ((byte_at page 73 == 0) && (number_at 8 80 page == 0) && (number_at 4 88 page == 0))
unmoved page =
    (λ i. one_zero 73 page i && both_zero page i)
    ∙ sym (and_assoc (byte_at page 73 == 0) (number_at 8 80 page == 0) (number_at 4 88 page == 0))

-- what a header says of moves
moves_told : (home : ℕ) (server page : List ℕ) (state : SlotState)
    → are_moves home server page state ≡ are_sound_moves home (server_of server).ship (header_of server page) state
unfolding server_of header_of
moves_told home server page Leaving =
    ap (λ (b : Bool). is_other home (byte_at page 73) && nat_le (number_at 8 80 page) (number_at 8 32 server) && b) (zero_number 4 88 page)
moves_told home server page Arriving = refl
moves_told home server page Gone =
    let other = is_other home (byte_at page 73) in
    ap (λ (b : Bool). other && b) (both_zero page) ∙ sym (and_assoc other (number_at 8 80 page == 0) (number_at 4 88 page == 0))
moves_told home server page Free = unmoved page
moves_told home server page Writable = unmoved page
moves_told home server page Clone = unmoved page
moves_told home server page Unknown = unmoved page

-- the bytes of a header in format 2 that are zero, and its name
pub record HasSpaces (page : List ℕ) : Type 0 where
  pub first : are_zero 1 3 page ≡ true
  pub name : is_name_at 12 page ≡ true
  pub gap : are_zero 74 2 page ≡ true
  pub last : are_zero 92 420 page ≡ true

pub header_told : (home : ℕ) (server page : List ℕ) → byte_at server 29 ≡ 2 → HasSpaces page
    → is_header home server page ≡ is_sound_header home (server_of server) (header_of server page)
unfolding is_header server_of header_of
header_told home server page two spaces =
    let first = spaces.first in
    let named = spaces.name in
    let gap = spaces.gap in
    let last = spaces.last in
    let taken = is_taken_slot (state_of server page) in
    let id = is_id home (number_at 4 8 server) (id_of page) in
    let limit = is_limit (number_at 4 8 page) in
    let moves = are_moves home server page (state_of server page) in
    (λ i. taken && first i && id && limit && named i
    && (if two i == 0 then are_zero 73 439 page else gap i && moves && last i))
    ∙ (λ i. and_true (and_true taken i && id && limit) i && and_true moves i)
    ∙ ap (λ (b : Bool). taken && id && limit && b) (moves_told home server page (state_of server page))

pub headers_sound : HeadersAreSound
unfolding is_header
headers_sound home server page two is =
    let x5 = and_parts _ _ is in
    let x4 = and_parts _ _ x5.0 in
    let x3 = and_parts _ _ x4.0 in
    let x2 = and_parts _ _ x3.0 in
    let x1 = and_parts _ _ x2.0 in
    let new : (byte_at server 29 == 0) ≡ false = ap (λ (n : ℕ). n == 0) two in
    let behind = are_zero 74 2 page && are_moves home server page (state_of server page) && are_zero 92 420 page in
    let y2 = and_parts _ _ (sym (cond-false (byte_at server 29 == 0) (are_zero 73 439 page) behind new) ∙ x5.1) in
    let y1 = and_parts _ _ y2.0 in
    sym (header_told home server page two (record { first = x1.1; name = x4.1; gap = y1.0; last = y2.1 })) ∙ is

-- a slot of format 1 in format 2
old_state : (a b c : Bool) (moving : SlotState)
    → is_taken_slot (if a then Free else if b then Writable else if c then Clone else Unknown) ≡ true
    → (if a then Free else if b then Writable else if c then Clone else moving)
    ≡ (if a then Free else if b then Writable else if c then Clone else Unknown)
old_state true b c moving is = refl
old_state false true c moving is = refl
old_state false false true moving is = refl
old_state false false false moving is = absurd (false≢true is)

old_moves : (home : ℕ) (server page : List ℕ) (a b c : Bool)
    → are_moves home server page (if a then Free else if b then Writable else if c then Clone else Unknown)
    ≡ (are_zero 73 1 page && are_zero 80 12 page)
old_moves home server page true b c = refl
old_moves home server page false true c = refl
old_moves home server page false false true = refl
old_moves home server page false false false = refl

pub headers_change : HeadersChangeFormat
unfolding is_header header_of server_of
headers_change home old new page reformed is =
    let from = reformed.from in
    let to = reformed.to in
    let byte = byte_at page 0 in
    let two : byte_at new 29 ≡ 2 = λ i. (to i).format in
    let next : number_at 4 8 new ≡ number_at 4 8 old = λ i. (to i).next in
    let x5 = and_parts _ _ is in
    let x4 = and_parts _ _ x5.0 in
    let x3 = and_parts _ _ x4.0 in
    let x2 = and_parts _ _ x3.0 in
    let x1 = and_parts _ _ x2.0 in
    let was : state_of old page ≡ state_for 0 byte = λ i. state_for (from i) byte in
    let taken : is_taken_slot (state_for 0 byte) ≡ true = sym (ap is_taken_slot was) ∙ x1.0 in
    let moving = if byte == 3 then Leaving else if byte == 4 then Arriving else if byte == 5 then Gone else Unknown in
    let now : state_of new page ≡ state_for 0 byte =
    (λ i. state_for (two i) byte) ∙ old_state (byte == 0) (byte == 1) (byte == 2) moving taken in
    let states : state_of new page ≡ state_of old page = now ∙ sym was in
    let first : (byte_at old 29 == 0) ≡ true = ap (λ (n : ℕ). n == 0) from in
    let behind = are_zero 74 2 page && are_moves home old page (state_of old page) && are_zero 92 420 page in
    let zeros : are_zero 73 439 page ≡ true =
    sym (cond-true (byte_at old 29 == 0) (are_zero 73 439 page) behind first) ∙ x5.1 in
    let none = zero_in 73 439 page zeros in
    let gap = zeros_at 74 2 page (λ k low high. none k (omega arith) (omega arith)) in
    let last = zeros_at 92 420 page (λ k low high. none k (omega arith) (omega arith)) in
    let other = zeros_at 73 1 page (λ k low high. none k (omega arith) (omega arith)) in
    let rest = zeros_at 80 12 page (λ k low high. none k (omega arith) (omega arith)) in
    let moves : are_moves home new page (state_of new page) ≡ true =
    ap (are_moves home new page) now ∙ old_moves home new page (byte == 0) (byte == 1) (byte == 2)
    ∙ and_from _ _ other rest in
    let second : (byte_at new 29 == 0) ≡ false = ap (λ (n : ℕ). n == 0) two in
    let ends : is_behind home new page ≡ true =
    cond-false (byte_at new 29 == 0) (are_zero 73 439 page)
    (are_zero 74 2 page && are_moves home new page (state_of new page) && are_zero 92 420 page) second
    ∙ and_from _ _ (and_from _ _ gap moves) last in
    let id : is_id home (number_at 4 8 new) (id_of page) ≡ true = (λ i. is_id home (next i) (id_of page)) ∙ x2.1 in
    let state : is_taken_slot (state_of new page) ≡ true = ap is_taken_slot states ∙ x1.0 in (
      and_from _ _ (and_from _ _ (and_from _ _ (and_from _ _ (and_from _ _ state x1.1) id) x3.1) x4.1) ends,
      λ i. record { state = states i; id = record { 0 = id_of page }; objects = number_at 4 8 page; name = name_at 12 page; other = byte_at page 73; moves = number_at 4 76 page; ship = number_at 8 80 page; parts = number_at 4 88 page },
    )

-- the page before the name is zero
pub before_name : (p1 p2 p3 : List ℕ) → Torn 0 1 (replicate 512 0) p1 → Torn 4 4 p1 p2 → Torn 8 4 p2 p3
    → IsZeroFrom 12 p3
before_name p1 p2 p3 t1 t2 t3 k from =
    t3.after k (omega arith) ∙ t2.after k (omega arith) ∙ t1.after k (omega arith) ∙ no_byte 512 k

-- the header as it is written
module _ (p1 p2 p3 p4 p5 p6 p7 p8 : List ℕ)
    (t1 : Torn 0 1 (replicate 512 0) p1) (t2 : Torn 4 4 p1 p2) (t3 : Torn 8 4 p2 p3) (t4 : Torn 12 61 p3 p4)
    (t5 : Torn 73 1 p4 p5) (t6 : Torn 76 4 p5 p6) (t7 : Torn 80 8 p6 p7) (t8 : Torn 88 4 p7 p8) where
  z1 : IsZeroFrom 1 p1
  z1 k from = t1.after k from ∙ no_byte 512 k

  z3 : IsZeroFrom 12 p3
  z3 = before_name p1 p2 p3 t1 t2 t3

  s7 : IsSameBefore 88 p7 p8
  s7 = t8.before

  s6 : IsSameBefore 80 p6 p8
  s6 = write_more 80 80 8 p6 p7 p8 (omega arith) t7 (fewer 80 88 p7 p8 (omega arith) s7)

  s5 : IsSameBefore 76 p5 p8
  s5 = write_more 76 76 4 p5 p6 p8 (omega arith) t6 (fewer 76 80 p6 p8 (omega arith) s6)

  s4 : IsSameBefore 73 p4 p8
  s4 = write_more 73 73 1 p4 p5 p8 (omega arith) t5 (fewer 73 76 p5 p8 (omega arith) s5)

  s3 : IsSameBefore 12 p3 p8
  s3 = write_more 12 12 61 p3 p4 p8 (omega arith) t4 (fewer 12 73 p4 p8 (omega arith) s4)

  s2 : IsSameBefore 8 p2 p8
  s2 = write_more 8 8 4 p2 p3 p8 (omega arith) t3 (fewer 8 12 p3 p8 (omega arith) s3)

  s1 : IsSameBefore 4 p1 p8
  s1 = write_more 4 4 4 p1 p2 p8 (omega arith) t2 (fewer 4 8 p2 p8 (omega arith) s2)

  z4 : IsZeroFrom 73 p4
  z4 = zero_behind 12 12 61 73 p3 p4 z3 t4 (omega arith) (omega arith)

  z5 : IsZeroFrom 74 p5
  z5 = zero_behind 73 73 1 74 p4 p5 z4 t5 (omega arith) (omega arith)

  z6 : IsZeroFrom 80 p6
  z6 = zero_behind 74 76 4 80 p5 p6 z5 t6 (omega arith) (omega arith)

  z7 : IsZeroFrom 88 p7
  z7 = zero_behind 80 80 8 88 p6 p7 z6 t7 (omega arith) (omega arith)

  z8 : IsZeroFrom 92 p8
  z8 = zero_behind 88 88 4 92 p7 p8 z7 t8 (omega arith) (omega arith)

  pub header_spaces : is_name_at 12 p4 ≡ true → HasSpaces p8
  header_spaces named = record {
    first = zeros_at 1 3 p8 (λ k low high. s1 k (omega arith) ∙ z1 k low);
    name = is_name_kept 12 73 p4 p8 (omega arith) s4 ∙ named;
    gap = zeros_at 74 2 p8 (λ k low high. s5 k (omega arith) ∙ z5 k low);
    last = zeros_at 92 420 p8 (λ k low high. z8 k low);
  }

  pub header_says : (header : SlotHeader) (byte : ℕ) (server : List ℕ) → state_for 2 byte ≡ header.state
      → byte_at p1 0 ≡ byte → number_at 4 4 p2 ≡ header.id.0 → number_at 4 8 p3 ≡ header.objects
      → name_at 12 p4 ≡ header.name → byte_at p5 73 ≡ header.other → number_at 4 76 p6 ≡ header.moves
      → number_at 8 80 p7 ≡ header.ship → number_at 4 88 p8 ≡ header.parts → byte_at server 29 ≡ 2
      → header_of server p8 ≡ header
  unfolding header_of
  header_says header byte server told first id objects name other moves ship parts two =
      let e1 : byte_at p8 0 ≡ byte = s1 0 (omega arith) ∙ first in
      let state : state_of server p8 ≡ header.state = (λ i. state_for (two i) (e1 i)) ∙ told in
      let e2 : number_at 4 4 p8 ≡ header.id.0 = number_kept 4 4 8 p2 p8 (omega arith) s2 ∙ id in
      let e3 : number_at 4 8 p8 ≡ header.objects = number_kept 4 8 12 p3 p8 (omega arith) s3 ∙ objects in
      let e4 : name_at 12 p8 ≡ header.name = name_kept 12 73 p4 p8 (omega arith) s4 ∙ name in
      let e5 : byte_at p8 73 ≡ header.other = s5 73 (omega arith) ∙ other in
      let e6 : number_at 4 76 p8 ≡ header.moves = number_kept 4 76 80 p6 p8 (omega arith) s6 ∙ moves in
      let e7 : number_at 8 80 p8 ≡ header.ship = number_kept 8 80 88 p7 p8 (omega arith) s7 ∙ ship in
      λ i. record { state = state i; id = record { 0 = e2 i }; objects = e3 i; name = e4 i; other = e5 i; moves = e6 i; ship = e7 i; parts = parts i }
