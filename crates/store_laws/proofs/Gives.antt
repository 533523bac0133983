-- What a host gives back of a file is what it stores of it.
use Rattle.std.proofs.Common.{
  ◌≡◌,
  ◌≢◌,
  ◌≤◌,
  ◌<◌,
  ◌⊎◌,
  ℕ,
  zero,
  suc,
  ◌+◌,
  ◌-◌,
  ◌==◌,
  nat_lt,
  nat_le,
  Bool,
  true,
  false,
  ◌&&◌,
  ◌||◌,
  if◌then◌else◌,
  cond,
  List,
  [],
  ◌∷◌,
  length,
  get_or,
  set,
  map,
  filter,
  min,
  max,
  Option,
  Some,
  None,
  unwrap_or,
  refl,
  sym,
  ap,
  ◌∙◌,
  subst,
  inl,
  inr,
  arith,
}
use Rattle.std.specs.List.{list_any, list_all}
use Rattle.std.specs.Option.{option_map_or}
use Rattle.std.proofs.lemmas.Bool.{leb-true, lt-leb, le-leb}
use Rattle.std.proofs.lemmas.Bool.Decides.{eqb_tells, leb_tells}
use Rattle.std.proofs.lemmas.Grind.{common_steps}
use Rattle.std.proofs.lemmas.List.{get_or-set_same, get_or-set_other}
use Rattle.base_types.specs.Image.{byte_at}
use Rattle.base_types.specs.Spans.{has_byte, in_spans}
use Rattle.base_types.specs.declared.access.AccessEntry.{AccessEntry}
use Rattle.base_types.specs.declared.ids.HostId.{HostId}
use Rattle.base_types.specs.declared.span.Span.{Span}
use Rattle.tree_calls.specs.declared.part.Piece.{Piece}
use Rattle.tree_objects.specs.declared.content.Content.TheVariants.{File}
use Rattle.tree_objects.specs.declared.content.Unsaved.{Unsaved}
use Rattle.tree_objects.specs.declared.content.UnsavedLength.{UnsavedLength}
use Rattle.tree_objects.specs.Files.{byte_over, bytes_over, unsaved_at, resized}
use Rattle.tree_objects.specs.Positions.{positions_rise}
use Rattle.tree_objects.specs.Stores.{content_stored, is_storable, is_storable_length, is_stored, has_written}
use Rattle.tree_objects.proofs.Observed.{
  over_get,
  over_length,
  get_past,
  and_left,
  and_right,
  passing,
  find_rising,
  length_resized,
}
use Rattle.tree_objects.proofs.Overlays.{over_nothing}
use Rattle.store_state.specs.Giving.{put_bytes, put_pieces, lengthened, content_given}
use Rattle.store_laws.specs.Gives.{piece_of, GivesAreStores}

length_set : (xs : List ℕ) (i x : ℕ) → length (set xs i x) ≡ length xs
length_set [] i x = refl
length_set (y ∷ xs) zero x = refl
length_set (y ∷ xs) (suc i) x = ap suc (length_set xs i x)

length_put : (xs : List ℕ) (at : ℕ) (bytes : List ℕ) → length (put_bytes xs at bytes) ≡ length xs
length_put xs at [] = refl
length_put xs at (value ∷ bytes) = length_put (set xs at value) (at + 1) bytes ∙ length_set xs at value

length_pieces : (xs : List ℕ) (pieces : List Piece) → length (put_pieces xs pieces) ≡ length xs
length_pieces xs [] = refl
length_pieces xs (piece ∷ pieces) =
    length_pieces (put_bytes xs piece.from piece.bytes) pieces ∙ length_put xs piece.from piece.bytes

-- the next position
next : (a : ℕ) → suc a ≡ a + 1
next a = omega arith

-- a byte outside of those that are put
outside : (kept : List ℕ) (unsaved : List Unsaved) (xs : List ℕ) (a n at : ℕ) → (at < a) ⊎ (a + n ≤ at) →
    get_or (put_bytes xs a (bytes_over kept unsaved a n)) at 0 ≡ get_or xs at 0
outside kept unsaved xs a zero at h = refl
outside kept unsaved xs a (suc n) at h =
    let value = byte_over kept unsaved a in
    let P : ℕ → Type 0 = λ m. get_or (put_bytes (set xs a value) m (bytes_over kept unsaved (suc a) n)) at 0 ≡ get_or
    xs at 0 in
    let other : at ≢ a = elim h as (λ _. at ≢ a) [ inl low ↦ omega (arith, low) | inr high ↦ omega (arith, high) ] in
    let beside : (at < suc a) ⊎ (suc a + n ≤ at) = elim h as (λ _. (at < suc a) ⊎ (suc a + n ≤ at))
    [ inl low ↦ inl (omega (arith, low)) | inr high ↦ inr (omega (arith, high)) ] in
    subst P (next a) (outside kept unsaved (set xs a value) (suc a) n at beside
    ∙ get_or-set_other xs a at value 0 other)

-- a byte inside
inside : (kept : List ℕ) (unsaved : List Unsaved) (xs : List ℕ) (a n at : ℕ) → a ≤ at → at < a + n → at < length xs →
    get_or (put_bytes xs a (bytes_over kept unsaved a n)) at 0 ≡ byte_over kept unsaved at
inside kept unsaved xs a zero at l h k = absurd (omega (arith, l, h))
inside kept unsaved xs a (suc n) at l h k =
    let value = byte_over kept unsaved a in
    let P : ℕ → Type 0 = λ m. get_or (put_bytes (set xs a value) m (bytes_over kept unsaved (suc a) n)) at 0 ≡
    byte_over kept unsaved at in
    let size = length_set xs a value in
    elim (eqb_tells a at) as (λ _. get_or (put_bytes (set xs a value) (a + 1) (bytes_over kept unsaved (suc a) n)) at 0
    ≡ byte_over kept unsaved at) [
      | inl (e, same) ↦
          let low : (at < suc a) ⊎ (suc a + n ≤ at) = inl (omega (arith, same)) in
          let first : get_or (set xs a value) at 0 ≡ byte_over kept unsaved at =
          (let Q : ℕ → Type 0 = λ p. get_or (set xs a value) p 0 ≡ byte_over kept unsaved p in
          subst Q same (get_or-set_same xs a value 0 (omega (arith, same, k)))) in
          subst P (next a) (outside kept unsaved (set xs a value) (suc a) n at low ∙ first)
      | inr (e, differs) ↦
          subst P (next a) (inside kept unsaved (set xs a value) (suc a) n at (omega (arith, l, differs))
          (omega (arith, h)) (omega (arith, k, size)))
    ]

-- a byte that no span has
uncovered : (kept : List ℕ) (unsaved : List Unsaved) (xs : List ℕ) (spans : List Span) (at : ℕ) →
    in_spans spans at ≡ false →
    get_or (put_pieces xs (map (piece_of kept unsaved) spans)) at 0 ≡ get_or xs at 0
uncovered kept unsaved xs [] at h = refl
uncovered kept unsaved xs (span ∷ spans) at h =
    let mine : has_byte span at ≡ false = (let g = h in or_left (has_byte span at) (in_spans spans at) g) in
    let rest : in_spans spans at ≡ false = or_right (has_byte span at) (in_spans spans at) h in
    uncovered kept unsaved (put_bytes xs span.from (bytes_over kept unsaved span.from (span.to - span.from))) spans at
    rest
    ∙ outside kept unsaved xs span.from (span.to - span.from) at (beside span at mine)
  where
    or_left : (a b : Bool) → (a || b) ≡ false → a ≡ false
    or_left true b h = absurd (cc)
    or_left false b h = refl

    or_right : (a b : Bool) → (a || b) ≡ false → b ≡ false
    or_right true b h = absurd (cc)
    or_right false b h = h

    beside : (span : Span) (at : ℕ) → has_byte span at ≡ false →
        (at < span.from) ⊎ (span.from + (span.to - span.from) ≤ at)
    beside span at h =
        elim (leb_tells span.from at) as (λ _. (at < span.from) ⊎ (span.from + (span.to - span.from) ≤ at)) [
          | inl (e, l) ↦
              let o = span.ordered in
              elim (leb_tells (suc at) span.to) as (λ _. (at < span.from) ⊎ (span.from + (span.to - span.from) ≤ at)) [
                | inl (f, m) ↦ absurd (grind (arith, common_steps, h, l, m))
                | inr (f, m) ↦ inr (omega (arith, m, o))
              ]
          | inr (e, l) ↦ inl (omega (arith, l))
        ]

or_either : (a b : Bool) → (a || b) ≡ true → b ≡ false → a ≡ true
or_either true b h k = refl
or_either false b h k = absurd (cc)

in_span : (span : Span) (at : ℕ) → has_byte span at ≡ true → (span.from ≤ at) × (at < span.from + (span.to - span.from))
in_span span at k =
    let low = leb-true span.from at (and_left (nat_le span.from at) (nat_lt at span.to) k) in
    let high : at < span.to = (let b = and_right (nat_le span.from at) (nat_lt at span.to) k in grind
    (arith, common_steps, b)) in
    let o = span.ordered in
    (low, omega (arith, high, o))

-- a byte that some span has
covered : (kept : List ℕ) (unsaved : List Unsaved) (xs : List ℕ) (spans : List Span) (at : ℕ) →
    in_spans spans at ≡ true → at < length xs →
    get_or (put_pieces xs (map (piece_of kept unsaved) spans)) at 0 ≡ byte_over kept unsaved at
covered kept unsaved xs [] at h l = absurd (cc)
covered kept unsaved xs (span ∷ spans) at h l =
    let len = span.to - span.from in
    let more = put_bytes xs span.from (bytes_over kept unsaved span.from len) in
    let size = length_put xs span.from (bytes_over kept unsaved span.from len) in
    by span spans at h more (λ k. covered kept unsaved more spans at k (omega (arith, l, size)))
    (λ k m. uncovered kept unsaved more spans at k
    ∙ inside kept unsaved xs span.from len at (in_span span at m).0 (in_span span at m).1 l)
    (in_spans spans at) refl
  where
    by : (span : Span) (spans : List Span) (at : ℕ) → (has_byte span at || in_spans spans at) ≡ true → (more : List ℕ) →
        (in_spans spans at ≡ true → get_or (put_pieces more (map (piece_of kept unsaved) spans)) at 0 ≡ byte_over kept
        unsaved at) →
        (in_spans spans at ≡ false → has_byte span at ≡ true →
        get_or (put_pieces more (map (piece_of kept unsaved) spans)) at 0 ≡ byte_over kept unsaved at) →
        (b : Bool) → in_spans spans at ≡ b →
        get_or (put_pieces more (map (piece_of kept unsaved) spans)) at 0 ≡ byte_over kept unsaved at
    by span spans at h more later now true k = later k
    by span spans at h more later now false k = now k (or_either (has_byte span at) (in_spans spans at) h k)

-- the length that is left, where the length may be stored
end_is : (host : HostId) (kept : List ℕ) (len : Option UnsavedLength) (stored : Option ℕ) →
    is_storable_length host kept len stored ≡ true →
    max (unwrap_or stored 0) (length kept) ≡ unwrap_or stored (length kept)
end_is host kept len None h = omega arith
end_is host kept len (Some n) h =
    let low = leb-true (length kept) n (and_left _ _ (and_left _ _ h)) in omega (arith, low)

-- an unsaved byte stands at its position
found_at : (unsaved : List Unsaved) (at : ℕ) (byte : Unsaved) → unsaved_at unsaved at ≡ Some byte → byte.at ≡ at
found_at [] at byte e = absurd (cc)
found_at (first ∷ unsaved) at byte e =
    elim (eqb_tells first.at at) as (λ _. byte.at ≡ at) [
      | inl (t, k) ↦ (let same : first ≡ byte = (let g = rw t at e in cc) in ap (λ b. b.at) (sym same) ∙ k)
      | inr (t, k) ↦ found_at unsaved at byte (rw t at e)
    ]

-- what a host has written in a span
written_at : (host : HostId) (unsaved : List Unsaved) (end from n at : ℕ) →
    has_written host unsaved end from n ≡ true → from ≤ at → at < from + n →
    (option_map_or (λ byte. byte.writer.0 == host.0) (unsaved_at unsaved at) false ≡ true) × (nat_lt at end ≡ true)
written_at host unsaved end from zero at h l m = absurd (omega (arith, l, m))
written_at host unsaved end from (suc n) at h l m =
    elim (eqb_tells from at) as (λ _. (option_map_or (λ byte. byte.writer.0 == host.0) (unsaved_at unsaved at) false
    ≡ true) × (nat_lt at end ≡ true)) [
      | inl (e, k) ↦
          let P : ℕ → Type 0 = λ p. (option_map_or (λ byte. byte.writer.0 == host.0) (unsaved_at unsaved p) false
          ≡ true) × (nat_lt p end ≡ true) in
          let first = and_left _ _ h in
          subst P k (and_left _ _ first, and_right _ _ first)
      | inr (e, k) ↦ written_at host unsaved end (suc from) n at (and_right _ _ h) (omega (arith, l, k))
          (omega (arith, m))
    ]

spans_written : (host : HostId) (unsaved : List Unsaved) (end : ℕ) (spans : List Span) (at : ℕ) →
    list_all (λ span. has_written host unsaved end span.from (span.to - span.from)) spans ≡ true →
    in_spans spans at ≡ true →
    (option_map_or (λ byte. byte.writer.0 == host.0) (unsaved_at unsaved at) false ≡ true) × (nat_lt at end ≡ true)
spans_written host unsaved end [] at h i = absurd (cc)
spans_written host unsaved end (span ∷ spans) at h i =
    by (has_byte span at) refl (λ k. written_at host unsaved end span.from (span.to - span.from) at (and_left _ _ h)
    (in_span span at k).0 (in_span span at k).1)
    (λ k. spans_written host unsaved end spans at (and_right _ _ h) k) i
  where
    Goal : Type 0
    Goal = (option_map_or (λ byte. byte.writer.0 == host.0) (unsaved_at unsaved at) false ≡ true)
        × (nat_lt at end ≡ true)

    by : (b : Bool) → has_byte span at ≡ b → (has_byte span at ≡ true → Goal) → (in_spans spans at ≡ true → Goal) →
        (b || in_spans spans at) ≡ true → Goal
    by true k now later i = now k
    by false k now later i = later i

same_either : (b : Bool) (n : ℕ) → n ≡ (if b then n else n)
same_either true n = refl
same_either false n = refl

and_no : (a b : Bool) → b ≡ false → (a && b) ≡ false
and_no true b h = h
and_no false b h = refl

-- what is stored of a byte: the unsaved one in a span, and else the kept one
stored_at : (host : HostId) (spans : List Span) (end : ℕ) (kept : List ℕ) (unsaved : List Unsaved) (at : ℕ) →
    positions_rise unsaved ≡ true →
    list_all (λ span. has_written host unsaved end span.from (span.to - span.from)) spans ≡ true →
    byte_over kept (filter (is_stored host spans end) unsaved) at
    ≡ (if in_spans spans at then byte_over kept unsaved at else byte_at kept at)
stored_at host spans end kept unsaved at rise h =
    ap (λ o. option_map_or (λ byte. byte.value) o (byte_at kept at))
    (find_rising (is_stored host spans end) at unsaved rise)
    ∙ by (unsaved_at unsaved at) refl
  where
    some : (byte : Unsaved) → unsaved_at unsaved at ≡ Some byte → (b : Bool) → in_spans spans at ≡ b →
        option_map_or (λ byte. byte.value) (cond (is_stored host spans end byte) (Some byte) None) (byte_at kept at)
        ≡ (if b then byte.value else byte_at kept at)
    some byte e true k =
        let place = found_at unsaved at byte e in
        let (own, low) = spans_written host unsaved end spans at h k in
        let mine : (byte.writer.0 == host.0)
        ≡ true = ap (λ o. option_map_or (λ b. b.writer.0 == host.0) o false) (sym e) ∙ own in
        let below : nat_lt byte.at end ≡ true = ap (λ p. nat_lt p end) place ∙ low in
        let within : in_spans spans byte.at ≡ true = ap (in_spans spans) place ∙ k in
        rw mine (rw below (rw within refl))
    some byte e false k =
        let place = found_at unsaved at byte e in
        let within : in_spans spans byte.at ≡ false = ap (in_spans spans) place ∙ k in
        let no : is_stored host spans end byte
        ≡ false = and_no ((byte.writer.0 == host.0) && nat_lt byte.at end) (in_spans spans byte.at) within in
        rw no refl

    by : (o : Option Unsaved) → unsaved_at unsaved at ≡ o →
        option_map_or (λ byte. byte.value) (passing (is_stored host spans end) o) (byte_at kept at)
        ≡ (if in_spans spans at then option_map_or (λ byte. byte.value) o (byte_at kept at) else byte_at kept at)
    by None e = same_either (in_spans spans at) (byte_at kept at)
    by (Some byte) e = some byte e (in_spans spans at) refl

size_is : (host : HostId) (spans : List Span) (stored : Option ℕ) (list : List AccessEntry) (kept : List ℕ)
    (unsaved : List Unsaved) (len : Option UnsavedLength) →
    is_storable host spans stored (File list kept unsaved len) ≡ true →
    length (lengthened kept stored) ≡ unwrap_or stored (length kept)
size_is host spans stored list kept unsaved len h =
    length_resized kept (max (unwrap_or stored 0) (length kept)) ∙ end_is host kept len stored (and_left _ _ h)

sizes : (host : HostId) (spans : List Span) (stored : Option ℕ) (list : List AccessEntry) (kept : List ℕ)
    (unsaved : List Unsaved) (len : Option UnsavedLength) →
    is_storable host spans stored (File list kept unsaved len) ≡ true →
    length (put_pieces (lengthened kept stored) (map (piece_of kept unsaved) spans))
    ≡ length (bytes_over kept (filter (is_stored host spans (unwrap_or stored (length kept))) unsaved) 0
    (unwrap_or stored (length kept)))
sizes host spans stored list kept unsaved len h =
    length_pieces (lengthened kept stored) (map (piece_of kept unsaved) spans)
    ∙ size_is host spans stored list kept unsaved len h
    ∙ sym (over_length kept (filter (is_stored host spans (unwrap_or stored (length kept))) unsaved) 0
    (unwrap_or stored (length kept)))

-- the byte that stands there before
base_at : (kept : List ℕ) (n at : ℕ) → nat_lt at n ≡ true → get_or (resized kept n) at 0 ≡ byte_at kept at
base_at kept n at h = ap (λ xs. get_or xs at 0) (over_nothing kept 0 n) ∙ over_get kept [] n at ∙ (rw h refl)

bytes_are : (host : HostId) (spans : List Span) (stored : Option ℕ) (list : List AccessEntry) (kept : List ℕ)
    (unsaved : List Unsaved) (len : Option UnsavedLength) (at : ℕ) →
    positions_rise unsaved ≡ true → is_storable host spans stored (File list kept unsaved len) ≡ true →
    get_or (put_pieces (lengthened kept stored) (map (piece_of kept unsaved) spans)) at 0
    ≡ get_or (bytes_over kept (filter (is_stored host spans (unwrap_or stored (length kept))) unsaved) 0
    (unwrap_or stored (length kept))) at 0
bytes_are host spans stored list kept unsaved len at rise h =
    let end = unwrap_or stored (length kept) in
    by (nat_lt at end) refl (in_spans spans at) refl
    ∙ sym (over_get kept (filter (is_stored host spans end) unsaved) end at)
  where
    by : (low : Bool) → nat_lt at (unwrap_or stored (length kept)) ≡ low → (within : Bool) →
        in_spans spans at ≡ within →
        get_or (put_pieces (lengthened kept stored) (map (piece_of kept unsaved) spans)) at 0
        ≡ cond (nat_lt at (unwrap_or stored (length kept)))
        (byte_over kept (filter (is_stored host spans (unwrap_or stored (length kept))) unsaved) at) 0
    by true l true k =
        let size = size_is host spans stored list kept unsaved len h in
        let below : at < length (lengthened kept stored) = grind (arith, common_steps, l, size) in
        rw l (covered kept unsaved (lengthened kept stored) spans at k below
        ∙ sym (stored_at host spans (unwrap_or stored (length kept)) kept unsaved at rise (and_right _ _ h)
        ∙ (rw k refl)))
    by true l false k =
        let same = end_is host kept len stored (and_left _ _ h) in
        let below : nat_lt at (max (unwrap_or stored 0) (length kept)) ≡ true = ap (nat_lt at) same ∙ l in
        rw l (uncovered kept unsaved (lengthened kept stored) spans at k
        ∙ base_at kept (max (unwrap_or stored 0) (length kept)) at below
        ∙ sym (stored_at host spans (unwrap_or stored (length kept)) kept unsaved at rise (and_right _ _ h)
        ∙ (rw k refl)))
    by false l within k =
        let size = length_pieces (lengthened kept stored) (map (piece_of kept unsaved) spans)
        ∙ size_is host spans stored list kept unsaved len h in
        let past : length (put_pieces (lengthened kept stored) (map (piece_of kept unsaved) spans)) ≤ at = grind
        (arith, common_steps, l, size) in
        rw l (get_past (put_pieces (lengthened kept stored) (map (piece_of kept unsaved) spans)) at past)

pub gives_are_stores : GivesAreStores
gives_are_stores = record { size = sizes; bytes = bytes_are }
