-- Bytes of pieces, put over those of a file and over those of a span.
use Rattle.std.proofs.Common.{◌≡◌, ◌≢◌, ◌<◌, ◌≤◌, ◌⊎◌, ℕ, ◌+◌, ◌-◌, List, [], ◌∷◌, ◌++◌, length, take, length-set, set, get_or, refl, sym, ◌∙◌, subst, inl, inr, arith}
use Rattle.std.specs.Prelude.{Bool, true, false, ◌==◌, ◌&&◌, if◌then◌else◌, nat_lt, nat_le, min, max, None}
use Rattle.std.proofs.lemmas.Bool.{cases_eq, cases_lt}
use Rattle.std.proofs.lemmas.Bool.Decides.{nat_tests}
use Rattle.std.proofs.Math.Seq.{take-append_seam}
use Rattle.std.proofs.lemmas.Grind.{same_number_lists}
use Rattle.std.proofs.lemmas.List.{get_or-set_same, get_or-set_other, get_or_past}
use Rattle.base_types.specs.declared.access.AccessEntry.{AccessEntry}
use Rattle.tree_calls.specs.declared.part.Piece.{Piece}
use Rattle.tree_objects.specs.declared.content.Content.TheVariants.{File}
use Rattle.store_state.specs.Giving.{put_bytes, put_pieces}
use Rattle.disk_anode.specs.Anode.{Anode as Kept, written, over, length_for}
use Rattle.disk_objects.specs.Objects.{object_kept}
use Rattle.disk_fileset.specs.Giving.{start_of, end_of, LieIn, shifted}

pub length_put : (xs : List ℕ) (at : ℕ) (bytes : List ℕ) → length (put_bytes xs at bytes) ≡ length xs
length_put xs at [] = refl
length_put xs at (value ∷ bytes) = length_put (set xs at value) (at + 1) bytes ∙ length-set xs at value

pub length_pieces : (xs : List ℕ) (pieces : List Piece) → length (put_pieces xs pieces) ≡ length xs
length_pieces xs [] = refl
length_pieces xs (piece ∷ pieces) = length_pieces (put_bytes xs piece.from piece.bytes) pieces ∙ length_put xs piece.from piece.bytes

-- bytes of a part of others, from a position on
pub record Window (from : ℕ) (xs ys : List ℕ) : Type 0 where
  pub within : from + length ys ≤ length xs
  pub same : (k : ℕ) → k < length ys → get_or ys k 0 ≡ get_or xs (from + k) 0

window_set : (from : ℕ) (xs ys : List ℕ) (i v : ℕ) → from ≤ i → Window from xs ys → Window from (set xs i v) (set ys (i - from) v)
window_set from xs ys i v le window = record {
  within = (let a = length-set xs i v in let b = length-set ys (i - from) v in let w = window.within in omega (arith, a, b, w));
  same = λ k lt. by k (let b = length-set ys (i - from) v in omega (arith, b, lt)) (cases_eq (from + k) i);
}
  where
    by : (k : ℕ) → k < length ys → (from + k ≡ i) ⊎ (from + k ≢ i) → get_or (set ys (i - from) v) k 0 ≡ get_or (set xs i v) (from + k) 0
    by k lt (inl e) =
        let here : k ≡ i - from = omega (arith, e) in
        let w = window.within in
        (λ j. get_or (set ys (i - from) v) (here j) 0) ∙ get_or-set_same ys (i - from) v 0 (omega (arith, here, lt))
        ∙ sym ((λ j. get_or (set xs i v) (e j) 0) ∙ get_or-set_same xs i v 0 (omega (arith, e, w, lt)))
    by k lt (inr apart) =
        get_or-set_other ys (i - from) k v 0 (λ e. apart (omega (arith, e, le))) ∙ window.same k lt ∙ sym (get_or-set_other xs i (from + k) v 0 apart)

window_put : (from : ℕ) (bytes xs ys : List ℕ) (at : ℕ) → from ≤ at → Window from xs ys → Window from (put_bytes xs at bytes) (put_bytes ys (at - from) bytes)
window_put from [] xs ys at le window = window
window_put from (value ∷ bytes) xs ys at le window =
    let e : at + 1 - from ≡ at - from + 1 = omega (arith, le) in
    subst (λ (m : ℕ). Window from (put_bytes (set xs at value) (at + 1) bytes) (put_bytes (set ys (at - from) value) m bytes)) e
    (window_put from bytes (set xs at value) (set ys (at - from) value) (at + 1) (omega (arith, le)) (window_set from xs ys at value le window))

pub window_pieces : (from to end : ℕ) (pieces : List Piece) (xs ys : List ℕ) → LieIn pieces from to end → Window from xs ys → Window from (put_pieces xs pieces) (put_pieces ys (shifted from pieces))
window_pieces from to end [] xs ys lie window = window
window_pieces from to end (piece ∷ pieces) xs ys lie window =
    window_pieces from to end pieces (put_bytes xs piece.from piece.bytes) (put_bytes ys (piece.from - from) piece.bytes) lie.1
    (window_put from piece.bytes xs ys piece.from lie.0.0 window)

-- the bytes beside
beside_put : (bytes xs : List ℕ) (at k : ℕ) → (k < at) ⊎ (at + length bytes ≤ k) → get_or (put_bytes xs at bytes) k 0 ≡ get_or xs k 0
beside_put [] xs at k off = refl
beside_put (value ∷ bytes) xs at k (inl low) = beside_put bytes (set xs at value) (at + 1) k (inl (omega (arith, low))) ∙ get_or-set_other xs at k value 0 (λ e. omega (arith, e, low))
beside_put (value ∷ bytes) xs at k (inr high) = beside_put bytes (set xs at value) (at + 1) k (inr (omega (arith, high))) ∙ get_or-set_other xs at k value 0 (λ e. omega (arith, e, high))

pub beside_pieces : (from to end k : ℕ) (pieces : List Piece) (xs : List ℕ) → LieIn pieces from to end → (k < from) ⊎ (to ≤ k) → k < end → get_or (put_pieces xs pieces) k 0 ≡ get_or xs k 0
beside_pieces from to end k [] xs lie off lt = refl
beside_pieces from to end k (piece ∷ pieces) xs lie off lt =
    let first = lie.0 in
    let low = first.0 in
    let high = first.1 in
    beside_pieces from to end k pieces (put_bytes xs piece.from piece.bytes) lie.1 off lt ∙ beside_put piece.bytes xs piece.from k (at off low high)
  where
    at : (k < from) ⊎ (to ≤ k) → from ≤ piece.from → min end (piece.from + length piece.bytes) ≤ to → (k < piece.from) ⊎ (piece.from + length piece.bytes ≤ k)
    at (inl off) low high = inl (omega (arith, off, low))
    at (inr off) low high = inr (omega (arith, off, high, lt))

-- a file whose bytes from one on were written with pieces over them
module _ (unique : ℕ) (owner group : List ℕ) (list : List AccessEntry) (kept base bytes : List ℕ) (from to : ℕ) (pieces : List Piece)
    (lie : LieIn pieces from to (length kept)) (some : from < to) (few : to ≤ length kept) (size : length base ≡ to - from)
    (same : (k : ℕ) → k < to - from → get_or base k 0 ≡ get_or kept (from + k) 0) (is : bytes ≡ put_pieces base (shifted from pieces)) where
  window : Window from (put_pieces kept pieces) (put_pieces base (shifted from pieces))
  window = window_pieces from to (length kept) pieces kept base lie (record { within = omega (arith, size, some, few); same = λ k lt. same k (omega (arith, size, lt)) })

  length_bytes : length bytes ≡ to - from
  length_bytes = (λ i. length (is i)) ∙ length_pieces base (shifted from pieces) ∙ size

  pub byte_written : (k : ℕ) → over from bytes (λ m. get_or kept m 0) k ≡ get_or (put_pieces kept pieces) k 0
  byte_written k = by (nat_le from k) (nat_lt k (from + length bytes)) refl refl
    where
      outside : (k < from) ⊎ (to ≤ k) → get_or kept k 0 ≡ get_or (put_pieces kept pieces) k 0
      outside off = at (cases_lt k (length kept))
        where
          at : (k < length kept) ⊎ (length kept ≤ k) → get_or kept k 0 ≡ get_or (put_pieces kept pieces) k 0
          at (inl lt) = sym (beside_pieces from to (length kept) k pieces kept lie off lt)
          at (inr le) = get_or_past kept k 0 le ∙ sym (get_or_past (put_pieces kept pieces) k 0 (let e = length_pieces kept pieces in omega (arith, e, le)))

      by : (a b : Bool) → nat_le from k ≡ a → nat_lt k (from + length bytes) ≡ b → (if a && b then get_or bytes (k - from) 0 else get_or kept k 0) ≡ get_or (put_pieces kept pieces) k 0
      by true true e f =
          let le : from ≤ k = grind (arith, nat_tests, e) in
          let lt : k < from + length bytes = grind (arith, nat_tests, f) in
          let back : from + (k - from) ≡ k = omega (arith, le) in
          let length_is = length_pieces base (shifted from pieces) in
          let mine = length_bytes in
          (λ i. get_or (is i) (k - from) 0) ∙ window.same (k - from) (omega (arith, le, lt, length_is, mine, size)) ∙ (λ i. get_or (put_pieces kept pieces) (back i) 0)
      by true false e f =
          let le : from + length bytes ≤ k = grind (arith, nat_tests, f) in
          let mine = length_bytes in
          outside (inr (omega (arith, le, mine, some)))
      by false b e f = let lt : k < from = grind (arith, nat_tests, e) in outside (inl lt)

  pub patched_kept : written from bytes (object_kept unique (record { owner = owner; group = group; content = File list kept [] None }))
      ≡ object_kept unique (record { owner = owner; group = group; content = File list (put_pieces kept pieces) [] None })
  patched_kept =
      let base_kept : Kept = object_kept unique (record { owner = owner; group = group; content = File list kept [] None }) in
      λ i. record base_kept { length = length_is (length bytes == 0) i; content = λ k. byte_written k i }
    where
      length_is : (a : Bool) → max (length kept) (length_for 2 (if a then 0 else from + length bytes)) ≡ length (put_pieces kept pieces)
      length_is true = let e = length_pieces kept pieces in omega (arith, e)
      length_is false = let e = length_pieces kept pieces in let mine = length_bytes in omega (arith, e, mine, few, some)

-- where no piece has a byte below the end
pub nothing_patched : (pieces : List Piece) (kept : List ℕ) (from to : ℕ) → LieIn pieces from to (length kept) → to ≤ from → put_pieces kept pieces ≡ kept
nothing_patched pieces kept from to lie none =
    same_number_lists (put_pieces kept pieces) kept (length_pieces kept pieces)
    (λ k lt. beside_pieces from to (length kept) k pieces kept lie (off k (cases_lt k from)) (let e = length_pieces kept pieces in omega (arith, e, lt)))
  where
    off : (k : ℕ) → (k < from) ⊎ (from ≤ k) → (k < from) ⊎ (to ≤ k)
    off k (inl low) = inl low
    off k (inr high) = inr (omega (arith, high, none))

-- the span from the first byte of some pieces to the end of the last one
first_le : (from : ℕ) (pieces : List Piece) → start_of from pieces ≤ from
first_le from [] = omega arith
first_le from (piece ∷ pieces) = let rest = first_le (min from piece.from) pieces in omega (arith, rest)

end_ge : (to : ℕ) (pieces : List Piece) → to ≤ end_of to pieces
end_ge to [] = omega arith
end_ge to (piece ∷ pieces) = let rest = end_ge (max to (piece.from + min (length piece.bytes) 65536)) pieces in omega (arith, rest)

pub lie_between : (from to end low high : ℕ) (pieces : List Piece) → end ≤ 65536 → low ≤ start_of from pieces → min end (end_of to pieces) ≤ high → LieIn pieces low high end
lie_between from to end low high [] few a b = tt
lie_between from to end low high (piece ∷ pieces) few a b =
    let first = first_le (min from piece.from) pieces in
    let last = end_ge (max to (piece.from + min (length piece.bytes) 65536)) pieces in
    ((omega (arith, a, first), omega (arith, b, last, few)), lie_between (min from piece.from) (max to (piece.from + min (length piece.bytes) 65536)) end low high pieces few a b)

-- the first of two lists
pub taken : (n : ℕ) (xs ys : List ℕ) → length xs ≡ n → take n (xs ++ ys) ≡ xs
taken n xs ys size = (λ i. take (sym size i) (xs ++ ys)) ∙ take-append_seam xs ys
