-- The dirty bytes of a file that are given back, as pieces.
use Rattle.std.proofs.Common.{Bool, List, None, Option, Some, [], ap, arith, cond, false, is_some, length, map, nat_le}
use Rattle.std.proofs.Common.{nat_lt, not, refl, subst, suc, sum_by, sym, true}
use Rattle.std.proofs.Common.{zero, ℕ, ◌&&◌, ◌+◌, ◌-◌, ◌<◌, ◌||◌, ◌∙◌, ◌∷◌}
use Rattle.std.proofs.Common.{◌≡◌, ◌≤◌}
use Rattle.std.specs.List.{list_any}
use Rattle.std.specs.Prelude.{slice_get, unwrap_or}
use Rattle.std.proofs.lemmas.Bool.{and_from, and_parts, le-leb, leb-true, lt-ltb, ltb-true}
use Rattle.std.proofs.lemmas.Bool.Decides.{nat_tests}
use Rattle.std.proofs.lemmas.List.Sums.{sum_by-cons}
use Rattle.base_types.specs.Ids.{same_fid}
use Rattle.base_types.specs.Spans.{has_byte, in_spans}
use Rattle.base_types.specs.declared.ids.Fid.{Fid}
use Rattle.base_types.specs.declared.limits.TheConstants.{FILE_BYTES_MAX}
use Rattle.base_types.specs.declared.span.Span.{Span}
use Rattle.host_cache.specs.Seen.{seen}
use Rattle.host_dirty.specs.Dirtiness.{is_dirty, spans_of}
use Rattle.message_types.specs.Soundness.{AreFileBytes, Each, PiecesRise}
use Rattle.run_rules.specs.Past.{In}
use Rattle.run_rules.specs.Views.{byte_in, byte_of}
use Rattle.token_ranges.specs.Positions.{IsApart, IsApartBetween}
use Rattle.token_types.specs.Covers.{CoversBetween, covers_byte, kind_covers_byte}
use Rattle.token_types.specs.declared.token.Kind.{Kind}
use Rattle.token_types.specs.declared.token.Kind.TheVariants.{Bytes, Lock, Opening, Status}
use Rattle.token_types.specs.declared.token.Token.{Token}
use Rattle.tree_calls.specs.declared.part.Piece.{Piece}
use Rattle.tree_laws.specs.Parts.Part.{ByteAt}
use Rattle.host_tables.specs.Tables.{content, held_of}
use Rattle.host_tables.specs.declared.tables.Tables.{Tables}
use Rattle.host_tables.proofs.Lists.{any_in, fid_same, in_any}
use Rattle.host_leaves.specs.Dirtying.{covers_left, spans_within, staying, updates_byte}
use Rattle.host_leaves.specs.Giving.{AreCovered, AreLeft, AreSeen, bytes_from, bytes_seen, piece_at}
use Rattle.host_leaves.specs.Owning.{update_span}
use Rattle.host_leaves.proofs.Spans.{both_apart, has_from, has_parts, in_both, same_test}

module _ (m : Tables) (fid : Fid) where
  abbrev at_byte : ℕ → Option ℕ
  at_byte at = Some (content m.cache fid (ByteAt at))

  abbrev pieces : List Span → List Piece
  pieces spans = map (piece_at m fid) spans

  pub bytes_length : (n from : ℕ) → length (bytes_from m fid from n) ≡ n
  bytes_length zero from = refl
  bytes_length (suc n) from = ap suc (bytes_length n (suc from))

  -- bytes that are what the cache shows
  pub bytes_are : (bytes : List ℕ) (from n : ℕ) → length bytes ≡ n →
      ((at : ℕ) → at < n → slice_get bytes at ≡ (seen m.cache).bytes fid (from + at)) → bytes ≡ bytes_from m fid from n
  bytes_are [] from zero e h = refl
  bytes_are [] from (suc n) e h = absurd (omega (arith, e))
  bytes_are (x ∷ xs) from zero e h = absurd (omega (arith, e))
  bytes_are (x ∷ xs) from (suc n) e h =
      let first : Some x ≡ (seen m.cache).bytes fid (from + 0) = h 0 (omega arith) in
      let here : from + 0 ≡ from = omega arith in
      let one : x ≡ content m.cache fid (ByteAt from) =
      ap (λ o. unwrap_or o 0) first ∙ ap (λ k. content m.cache fid (ByteAt k)) here in
      let rest = bytes_are xs (suc from) n (omega (arith, e)) (λ at low. h (suc at) (omega (arith, low))
      ∙ ap ((seen m.cache).bytes fid) (sum from at)) in
      λ i. one i ∷ rest i
    where
      sum : (a b : ℕ) → a + suc b ≡ suc a + b
      sum a b = omega arith

  -- the byte at a place
  pub byte_from : (n from k : ℕ) → slice_get (bytes_from m fid from n) k ≡ cond (nat_lt k n) (at_byte (from + k)) None
  byte_from zero from k = ap (λ t. cond t (at_byte (from + k)) None) (none k)
    where
      none : (k : ℕ) → false ≡ nat_lt k 0
      none k = grind (arith, nat_tests)
  byte_from (suc n) from zero =
      ap at_byte (none from) ∙ ap (λ t. cond t (at_byte (from + 0)) None) (test n)
    where
      none : (a : ℕ) → a ≡ a + 0
      none a = omega arith

      test : (b : ℕ) → true ≡ nat_lt 0 (suc b)
      test b = grind (arith, nat_tests)
  byte_from (suc n) from (suc k) =
      byte_from n (suc from) k ∙ ap (λ t. cond (nat_lt k n) (at_byte t) None) (sum from k)
      ∙ ap (λ t. cond t (at_byte (from + suc k)) None) (test k n)
    where
      test : (a b : ℕ) → nat_lt a b ≡ nat_lt (suc a) (suc b)
      test a b = grind (arith, nat_tests)

      sum : (a b : ℕ) → suc a + b ≡ a + suc b
      sum a b = omega arith

  byte_here : (span : Span) (at : ℕ) → byte_in (piece_at m fid span) at ≡ cond (has_byte span at) (at_byte at) None
  byte_here span at = by_test (nat_le span.from at) refl
    where
      by_test : (b : Bool) → nat_le span.from at ≡ b →
          cond b (slice_get (bytes_seen m fid span) (at - span.from)) None
          ≡ cond (b && nat_lt at span.to) (at_byte at) None
      by_test true e =
          let low = leb-true span.from at e in
          let is : span.from + (at - span.from) ≡ at = omega (arith, low) in
          let same : nat_lt (at - span.from) (span.to - span.from) ≡ nat_lt at span.to =
          same_test (nat_lt (at - span.from) (span.to - span.from)) (nat_lt at span.to)
          (λ t. let p = ltb-true (at - span.from) (span.to - span.from) t in lt-ltb at span.to (omega (arith, low, p)))
          (λ t. let p = ltb-true at span.to t in lt-ltb (at - span.from) (span.to - span.from) (omega (
            arith,
            low,
            p,
          ))) in
          byte_from (span.to - span.from) span.from (at - span.from)
          ∙ ap (λ t. cond t (at_byte (span.from + (at - span.from))) None) same
          ∙ ap (λ k. cond (nat_lt at span.to) (at_byte k) None) is
      by_test false e = refl

  pub byte_of_pieces : (spans : List Span) (at : ℕ) →
      byte_of (pieces spans) at ≡ cond (in_spans spans at) (at_byte at) None
  byte_of_pieces [] at = refl
  byte_of_pieces (span ∷ spans) at =
      ap (λ o. cond (is_some o) o (byte_of (pieces spans) at)) (byte_here span at)
      ∙ by_test (byte_of_pieces spans at) (has_byte span at)
    where
      by_test : byte_of (pieces spans) at ≡ cond (in_spans spans at) (at_byte at) None → (b : Bool) →
          cond (is_some (cond b (at_byte at) None)) (cond b (at_byte at) None) (byte_of (pieces spans) at)
          ≡ cond (b || in_spans spans at) (at_byte at) None
      by_test rest true = refl
      by_test rest false = rest

  -- pieces of spans that are apart rise
  each_later : (n low high : ℕ) (spans : List Span) → n ≤ low → IsApartBetween low spans high →
      Each (λ (later : Piece). n ≤ later.from) (pieces spans)
  each_later n low high [] le h = tt
  each_later n low high (span ∷ spans) le h =
      let a = h.0 in
      let b = h.1 in (
        omega (arith, le, a),
        each_later n (span.to + 1) high spans (omega (arith, le, a, b)) h.2,
      )

  pub pieces_rise : (low high : ℕ) (spans : List Span) → IsApartBetween low spans high → PiecesRise (pieces spans)
  pieces_rise low high [] h = tt
  pieces_rise low high (span ∷ spans) h =
      let b = h.1 in
      let count = bytes_length (span.to - span.from) span.from in (
        each_later (span.from + length (bytes_seen m fid span)) (span.to + 1) high spans (omega (arith, b, count)) h.2,
        pieces_rise (span.to + 1) high spans h.2,
      )

  -- they lie within what a file can have, and are few
  low_high : (low high : ℕ) (spans : List Span) → IsApartBetween low spans high → low ≤ high
  low_high low high [] h = h
  low_high low high (span ∷ spans) h =
      let a = h.0 in
      let b = h.1 in
      let rest = low_high (span.to + 1) high spans h.2 in
      omega (arith, a, b, rest)

  pieces_end : (low most : ℕ) (spans : List Span) → IsApartBetween low spans (most + 1) →
      Each (λ (piece : Piece). piece.from + length piece.bytes ≤ most) (pieces spans)
  pieces_end low most [] h = tt
  pieces_end low most (span ∷ spans) h =
      let b = h.1 in
      let count = bytes_length (span.to - span.from) span.from in
      let last = low_high (span.to + 1) (most + 1) spans h.2 in
      (omega (arith, b, count, last), pieces_end (span.to + 1) most spans h.2)

  pieces_sum : (low most : ℕ) (spans : List Span) → IsApartBetween low spans (most + 1) →
      sum_by (λ (piece : Piece). length piece.bytes) (pieces spans) ≤ most - low
  pieces_sum low most [] h = omega arith
  pieces_sum low most (span ∷ spans) h =
      let a = h.0 in
      let b = h.1 in
      let last = low_high (span.to + 1) (most + 1) spans h.2 in
      let rest = pieces_sum (span.to + 1) most spans h.2 in
      let sum : sum_by (λ (piece : Piece). length piece.bytes) (pieces (span ∷ spans))
      ≡ (span.to - span.from) + sum_by (λ (piece : Piece). length piece.bytes) (pieces spans) =
      sum_by-cons (λ (piece : Piece). length piece.bytes) (piece_at m fid span) (pieces spans)
      ∙ ap (λ n. n + sum_by (λ (piece : Piece). length piece.bytes) (pieces spans))
      (bytes_length (span.to - span.from) span.from) in
      omega (arith, a, b, last, rest, sum)

  pieces_few : (low high : ℕ) (spans : List Span) → IsApartBetween low spans high →
      length (pieces spans) + length (pieces spans) ≤ high - low
  pieces_few low high [] h = omega arith
  pieces_few low high (span ∷ spans) h =
      let a = h.0 in
      let b = h.1 in
      let last = low_high (span.to + 1) high spans h.2 in
      let rest = pieces_few (span.to + 1) high spans h.2 in
      omega (arith, a, b, last, rest)

  pub pieces_fit : (spans : List Span) → IsApart spans → AreFileBytes (pieces spans)
  pieces_fit spans h = record {
    ends = pieces_end 0 FILE_BYTES_MAX spans h;
    order = pieces_rise 0 65537 spans h;
    together = let sum = pieces_sum 0 FILE_BYTES_MAX spans h in omega (arith, sum);
    count = let few = pieces_few 0 65537 spans h in omega (arith, few);
  }

  -- what a token is for changing it covers for reading
  kind_updates : (at : ℕ) (kind : Kind) (token : Token) → token.kind ≡ kind → updates_byte at token ≡ true →
      kind_covers_byte false at kind ≡ true
  kind_updates at (Bytes true span) token e h = sym (ap (λ k. updates_byte at (record token { kind = k })) e) ∙ h
  kind_updates at (Bytes false span) token e h =
      absurd (let x = sym (ap (λ k. updates_byte at (record token { kind = k })) e) ∙ h in cc)
  kind_updates at (Status update) token e h =
      absurd (let x = sym (ap (λ k. updates_byte at (record token { kind = k })) e) ∙ h in cc)
  kind_updates at (Lock writing span) token e h =
      absurd (let x = sym (ap (λ k. updates_byte at (record token { kind = k })) e) ∙ h in cc)
  kind_updates at (Opening kind) token e h =
      absurd (let x = sym (ap (λ k. updates_byte at (record token { kind = k })) e) ∙ h in cc)

  module _ (giving leaving : List Token) (dirty cover : List Span)
      (dirty_is : dirty ≡ spans_of m.dirty fid)
      (covers : (at : ℕ) → in_spans cover at ≡ covers_left m fid giving leaving at) where
    both_is : (at : ℕ) → in_spans (spans_within dirty cover) at
        ≡ (is_dirty m.dirty fid at && covers_left m fid giving leaving at)
    both_is at =
        in_both dirty cover at ∙ ap (λ t. in_spans dirty at && t) (covers at)
        ∙ ap (λ spans. in_spans spans at && covers_left m fid giving leaving at) dirty_is

    -- the bytes are covered
    pub are_seen : AreCovered m fid giving → AreSeen m fid (spans_within dirty cover)
    are_seen held span here at low high =
        let there : in_spans (spans_within dirty cover) at ≡ true =
        any_in (λ s. has_byte s at) (spans_within dirty cover) span here (has_from span at low high) in
        let p = and_parts (is_dirty m.dirty fid at) (covers_left m fid giving leaving at) (sym (both_is at) ∙ there) in
        let q = and_parts (list_any (updates_byte at) giving) (not (list_any (updates_byte at) (staying m fid leaving)))
        p.1 in
        let r = in_any (updates_byte at) giving q.0 in
        let token = r.0 in
        let own = held token r.1 in
        any_in (covers_byte fid false at) (held_of m) token own.0
        (and_from (same_fid token.fid fid) (kind_covers_byte false at token.kind) (fid_same token.fid fid own.1)
        (kind_updates at token.kind token refl r.2))

    pub are_left : IsApart dirty → IsApart cover → AreLeft m fid giving leaving (pieces (spans_within dirty cover))
    are_left apart others = record {
      rise = pieces_rise 0 65537 (spans_within dirty cover) (both_apart 0 65537 dirty cover apart others);
      bytes = λ at. byte_of_pieces (spans_within dirty cover) at
          ∙ ap (λ t. cond t (at_byte at) None) (both_is at);
      fit = pieces_fit (spans_within dirty cover) (both_apart 0 65537 dirty cover apart others);
    }
