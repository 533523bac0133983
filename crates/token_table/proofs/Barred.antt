-- What tokens bar: a token that conflicts with a need has a block or a kind of opening that is barred for it.
use Rattle.std.proofs.Common.{◌≡◌, ℕ, ◌+◌, ◌-◌, ◌<◌, ◌≤◌, ◌/◌, ◌*◌, ◌%◌, Bool, true, false, ◌==◌, ◌&&◌, ◌||◌, not}
use Rattle.std.specs.Prelude.{min, max}
use Rattle.std.proofs.Common.{List, [], ◌∷◌, refl, sym, ap, ◌∙◌, arith, inl, inr}
use Rattle.std.specs.Prelude.{All, bit_and, bit_or, ◌^◌}
use Rattle.std.specs.List.{fold}
use Rattle.std.specs.Int.{bit_at}
use Rattle.std.proofs.lemmas.Bool.{cases_Bool, false≢true}
use Rattle.std.proofs.lemmas.Bool.Decides.{nat_tests}
use Rattle.std.proofs.lemmas.Nat.{one_shl, pow_below, pow_pos}
use Rattle.std.proofs.lemmas.Nat.Bits.{bit_at_and, bit_at_or, bit_at-zero, bit_at-lt, bit_at_mask_inside, ones_shr}
use Rattle.std.proofs.lemmas.List.Elements.{All-nil, All-cons}
use Rattle.base_types.specs.Opens.{opens_conflict}
use Rattle.base_types.specs.Spans.{overlap}
use Rattle.base_types.specs.declared.ids.OpenKind.{OpenKind}
use Rattle.base_types.specs.declared.ids.OpenKind.TheVariants.{Reading, Writing, Executing, Shared, Exclusive}
use Rattle.base_types.specs.declared.span.Span.{Span}
use Rattle.token_types.specs.Conflicts.{kinds_conflict, any_conflict, need_of}
use Rattle.base_types.specs.Ids.{same_fid}
use Rattle.token_types.specs.declared.token.Kind.{Kind}
use Rattle.token_types.specs.declared.token.Kind.TheVariants.{Bytes, Status, Lock, Opening}
use Rattle.token_types.specs.declared.token.Need.{Need}
use Rattle.token_types.specs.declared.token.Token.{Token}
use Rattle.token_table.specs.declared.masks.Barred.{Barred}
use Rattle.token_table.specs.declared.masks.Blocks.{Blocks}
use Rattle.token_table.specs.Masks.{mask_of, with_blocks, may_have, with_kind, may_bar, may_bar_any, bit_of, bars_of}
use Rattle.token_table.specs.Masks.{HasBlocks, HasKind, nothing, barred_by}

-- a mask as it is computed
pub mask_parts : (first last : ℕ) → first ≤ last → last ≤ 63 →
    (1 * 2 ^ first % 2 ^ 64 - 1 ≤ (2 ^ 64 - 1) / 2 ^ (63 - last))
    × ((2 ^ 64 - 1) / 2 ^ (63 - last) - (1 * 2 ^ first % 2 ^ 64 - 1) ≡ 2 ^ (last + 1) - 2 ^ first)
mask_parts first last le within =
    let many : 64 - (63 - last) ≡ last + 1 = omega (arith, within) in
    let top : (2 ^ 64 - 1) / 2 ^ (63 - last) ≡ 2 ^ (last + 1) - 1 =
    ones_shr 64 (63 - last) (omega arith) ∙ ap (λ n. 2 ^ n - 1) many in
    let low = one_shl first 64 (omega (arith, le, within)) in
    let below = pow_below first (last + 1) (omega (arith, le)) in
    let some = pow_pos first in
    (omega (arith, top, low, below, some), omega (arith, top, low, below, some))

share : (a b i : ℕ) → bit_at a i ≡ 1 → bit_at b i ≡ 1 → not (bit_and a b == 0) ≡ true
share a b i in_a in_b = elim (cases_Bool (bit_and a b == 0)) [
  | inl none ↦
      (let zero : bit_and a b ≡ 0 = grind (arith, nat_tests) in
      let both = bit_at_and a b i in
      let empty = ap (λ n. bit_at n i) zero ∙ bit_at-zero i in
      absurd (omega (arith, in_a, in_b, both, empty)))
  | inr some ↦ rw some refl
]

or_first : (a b i : ℕ) → bit_at a i ≡ 1 → bit_at (bit_or a b) i ≡ 1
or_first a b i has = let either = bit_at_or a b i in let low = bit_at-lt b i in omega (arith, has, either, low)

or_second : (a b i : ℕ) → bit_at b i ≡ 1 → bit_at (bit_or a b) i ≡ 1
or_second a b i has = let either = bit_at_or a b i in let low = bit_at-lt a i in omega (arith, has, either, low)

-- the block of a byte of a span is one of its blocks
in_mask : (span : Span) (at : ℕ) → span.from ≤ at → at < span.to → bit_at (mask_of span) (at / 1024) ≡ 1
in_mask span at from to =
    let some : (span.from == span.to) ≡ false = grind (arith, nat_tests) in
    rw some (bit_at_mask_inside (span.from / 1024) ((span.to - 1) / 1024 + 1) (at / 1024)
    (omega (arith, from)) (omega (arith, to)))

-- a byte of both of two spans
meets : (a b : Span) → overlap a b ≡ true →
    (bit_at (mask_of a) (max a.from b.from / 1024) ≡ 1) × (bit_at (mask_of b) (max a.from b.from / 1024) ≡ 1)
meets a b both =
    let low : max a.from b.from < min a.to b.to = grind (arith, nat_tests) in (
      in_mask a (max a.from b.from) (omega (arith, low)) (omega (arith, low)),
      in_mask b (max a.from b.from) (omega (arith, low)) (omega (arith, low)),
    )

-- what is there of blocks bars what conflicts
blocks_bar : (blocks : Blocks) (writes other : Bool) (has some i : ℕ) → HasBlocks blocks writes has →
    (writes || other) ≡ true → bit_at has i ≡ 1 → bit_at some i ≡ 1 → may_have blocks other some ≡ true
blocks_bar blocks writes true has some i there conflict mine its = share blocks.writing some i (there i mine).0 its
blocks_bar blocks true false has some i there conflict mine its =
    share blocks.reading some i ((there i mine).1 refl) its
blocks_bar blocks false false has some i there conflict mine its = absurd (false≢true conflict)

both_hold : (a b : Bool) → (a && b) ≡ true → (a ≡ true) × (b ≡ true)
both_hold true b e = (refl, e)
both_hold false b e = absurd (false≢true e)

-- the place of a kind of opening
abbrev place : OpenKind → ℕ
place Reading = 0
place Writing = 1
place Executing = 2
place Shared = 3
place Exclusive = 4

own_place : (kind : OpenKind) → bit_at (bit_of kind) (place kind) ≡ 1
own_place Reading = refl
own_place Writing = refl
own_place Executing = refl
own_place Shared = refl
own_place Exclusive = refl

barred_place : (kind other : OpenKind) → opens_conflict kind other ≡ true → bit_at (bars_of other) (place kind) ≡ 1
barred_place Exclusive Reading e = refl
barred_place Exclusive Writing e = refl
barred_place Exclusive Executing e = refl
barred_place Exclusive Shared e = refl
barred_place Exclusive Exclusive e = refl
barred_place Reading Exclusive e = refl
barred_place Writing Exclusive e = refl
barred_place Executing Exclusive e = refl
barred_place Shared Exclusive e = refl
barred_place Writing Executing e = refl
barred_place Writing Shared e = refl
barred_place Executing Writing e = refl
barred_place Shared Writing e = refl
barred_place Reading Reading e = absurd (false≢true e)
barred_place Reading Writing e = absurd (false≢true e)
barred_place Reading Executing e = absurd (false≢true e)
barred_place Reading Shared e = absurd (false≢true e)
barred_place Writing Reading e = absurd (false≢true e)
barred_place Writing Writing e = absurd (false≢true e)
barred_place Executing Reading e = absurd (false≢true e)
barred_place Executing Executing e = absurd (false≢true e)
barred_place Executing Shared e = absurd (false≢true e)
barred_place Shared Reading e = absurd (false≢true e)
barred_place Shared Executing e = absurd (false≢true e)
barred_place Shared Shared e = absurd (false≢true e)

-- what is there of a kind bars what conflicts with it
pub kind_bars : (barred : Barred) (kind other : Kind) → HasKind barred kind → kinds_conflict kind other ≡ true →
    may_bar barred other ≡ true
kind_bars barred (Bytes update span) (Bytes update' span') there e =
    let two = both_hold (update || update') (overlap span span') e in
    let here = meets span span' two.1 in
    blocks_bar barred.bytes update update' (mask_of span) (mask_of span') (max span.from span'.from / 1024) there two.0
    here.0 here.1
kind_bars barred (Lock writing span) (Lock writing' span') there e =
    let two = both_hold (writing || writing') (overlap span span') e in
    let here = meets span span' two.1 in
    blocks_bar barred.locks writing writing' (mask_of span) (mask_of span') (max span.from span'.from / 1024) there
    two.0 here.0 here.1
kind_bars barred (Status update) (Status update') there e =
    blocks_bar barred.status update update' 1 1 0 there e refl refl
kind_bars barred (Opening kind) (Opening other) there e =
    share barred.opens (bars_of other) (place kind) (there (place kind) (own_place kind)) (barred_place kind other e)
kind_bars barred (Bytes u s) (Status u') there e = absurd (false≢true e)
kind_bars barred (Bytes u s) (Lock u' s') there e = absurd (false≢true e)
kind_bars barred (Bytes u s) (Opening k) there e = absurd (false≢true e)
kind_bars barred (Lock u s) (Status u') there e = absurd (false≢true e)
kind_bars barred (Lock u s) (Bytes u' s') there e = absurd (false≢true e)
kind_bars barred (Lock u s) (Opening k) there e = absurd (false≢true e)
kind_bars barred (Status u) (Bytes u' s') there e = absurd (false≢true e)
kind_bars barred (Status u) (Lock u' s') there e = absurd (false≢true e)
kind_bars barred (Status u) (Opening k) there e = absurd (false≢true e)
kind_bars barred (Opening k) (Bytes u' s') there e = absurd (false≢true e)
kind_bars barred (Opening k) (Lock u' s') there e = absurd (false≢true e)
kind_bars barred (Opening k) (Status u') there e = absurd (false≢true e)

-- a token that is there isn't in the way where nothing is barred
pub none_conflicts : (barred : Barred) (token : Token) (needs : List Need) → HasKind barred token.kind →
    may_bar_any needs barred ≡ false → any_conflict (need_of token) needs ≡ false
none_conflicts barred token [] there none = refl
none_conflicts barred token (need ∷ needs) there none = elim (cases_Bool (may_bar barred need.kind)) [
  | inl bars ↦ (let h = none in let one = rw bars at h in absurd (false≢true (sym one)))
  | inr free ↦
      (let h = none in
      let rest = none_conflicts barred token needs there (rw free at h) in
      elim (cases_Bool (kinds_conflict token.kind need.kind)) [
        | inl meet ↦ absurd (false≢true (sym free ∙ kind_bars barred token.kind need.kind there meet))
        | inr apart ↦ (λ i. (same_fid token.fid need.fid && apart i) || rest i) ∙ both_false (same_fid token.fid need.fid)
      ])
]
  where
    both_false : (b : Bool) → ((b && false) || false) ≡ false
    both_false true = refl
    both_false false = refl

blocks_now : (blocks : Blocks) (writes : Bool) (has : ℕ) → HasBlocks (with_blocks blocks writes has) writes has
blocks_now blocks writes has i mine =
    (or_second blocks.writing has i mine, λ w. rw w (or_second blocks.reading has i mine))

blocks_still : (blocks : Blocks) (writes : Bool) (has : ℕ) (more : Bool) (others : ℕ) → HasBlocks blocks writes has →
    HasBlocks (with_blocks blocks more others) writes has
blocks_still blocks writes has true others there i mine =
    (or_first blocks.writing others i (there i mine).0, λ w. or_first blocks.reading others i ((there i mine).1 w))
blocks_still blocks writes has false others there i mine =
    (or_first blocks.writing others i (there i mine).0, λ w. (there i mine).1 w)

-- one more token is there, and the others stay
pub kind_now : (barred : Barred) (kind : Kind) → HasKind (with_kind barred kind) kind
kind_now barred (Bytes update span) = blocks_now barred.bytes update (mask_of span)
kind_now barred (Lock writing span) = blocks_now barred.locks writing (mask_of span)
kind_now barred (Status update) = blocks_now barred.status update 1
kind_now barred (Opening kind) = λ i mine. or_second barred.opens (bit_of kind) i mine

pub kind_still : (barred : Barred) (kind more : Kind) → HasKind barred kind → HasKind (with_kind barred more) kind
kind_still barred (Bytes u s) (Bytes u' s') there = blocks_still barred.bytes u (mask_of s) u' (mask_of s') there
kind_still barred (Bytes u s) (Lock u' s') there = there
kind_still barred (Bytes u s) (Status u') there = there
kind_still barred (Bytes u s) (Opening k) there = there
kind_still barred (Lock u s) (Bytes u' s') there = there
kind_still barred (Lock u s) (Lock u' s') there = blocks_still barred.locks u (mask_of s) u' (mask_of s') there
kind_still barred (Lock u s) (Status u') there = there
kind_still barred (Lock u s) (Opening k) there = there
kind_still barred (Status u) (Bytes u' s') there = there
kind_still barred (Status u) (Lock u' s') there = there
kind_still barred (Status u) (Status u') there = blocks_still barred.status u 1 u' 1 there
kind_still barred (Status u) (Opening k) there = there
kind_still barred (Opening k) (Bytes u' s') there = there
kind_still barred (Opening k) (Lock u' s') there = there
kind_still barred (Opening k) (Status u') there = there
kind_still barred (Opening k) (Opening k') there = λ i mine. or_first barred.opens (bit_of k') i (there i mine)

fold_still : (barred : Barred) (kind : Kind) (tokens : List Token) → HasKind barred kind →
    HasKind (fold (λ b t. with_kind b t.kind) barred tokens) kind
fold_still barred kind [] there = there
fold_still barred kind (token ∷ tokens) there =
    fold_still (with_kind barred token.kind) kind tokens (kind_still barred kind token.kind there)

fold_each : (barred : Barred) (tokens : List Token) →
    All (λ token. HasKind (fold (λ b t. with_kind b t.kind) barred tokens) token.kind) tokens
fold_each barred [] = All-nil (λ token. HasKind barred token.kind)
fold_each barred (token ∷ tokens) =
    let after : Barred = with_kind barred token.kind in
    All-cons (λ t. HasKind (fold (λ b t. with_kind b t.kind) after tokens) t.kind) token tokens
    (fold_still after token.kind tokens (kind_now barred token.kind)) (fold_each after tokens)

pub each_noted : (tokens : List Token) → All (λ token. HasKind (barred_by tokens) token.kind) tokens
each_noted tokens = fold_each nothing tokens
