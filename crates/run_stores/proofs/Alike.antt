-- A store that is given pieces that rise keeps what the rules say.
use Rattle.std.proofs.Common.{◌≡◌, ◌⊎◌, ⊎_elim, inl, inr, ℕ, zero, suc, ◌+◌, ◌-◌, ◌<◌, ◌≤◌, Bool, true, false, cond, List, [], ◌∷◌, ◌++◌, length, take, get_or, Option, None, Some, is_some, unwrap_or, max, nat_le, slice_get, refl, sym, ap, ◌∙◌, arith}
use Rattle.std.specs.Prelude.{replicate}
use Rattle.std.proofs.Math.ListN.{set}
use Rattle.std.proofs.lemmas.List.{get_or-set_same, get_or-set_other, length-set}
use Rattle.std.proofs.lemmas.Bool.Decides.{nat_tests}
use Rattle.std.proofs.lemmas.Option.{slice_get_within}
use Rattle.message_types.specs.Soundness.{Each, PiecesRise}
use Rattle.tree_calls.specs.declared.part.Piece.{Piece}
use Rattle.tree_objects.specs.Files.{resized}
use Rattle.tree_objects.specs.declared.content.Content.TheVariants.{Dir, File}
use Rattle.store_state.specs.Giving.{lengthened, put_bytes, put_pieces}
use Rattle.run_rules.specs.Kept.{bytes_given, length_given}
use Rattle.run_rules.specs.Views.{byte_in, byte_of}
use Rattle.run_stores.specs.Pieces.{GivesAreAlike}

order : (a b : ℕ) → (a < b) ⊎ ((a ≡ b) ⊎ (b < a))
order zero zero = inr (inl refl)
order zero (suc b) = inl (omega arith)
order (suc a) zero = inr (inr (omega arith))
order (suc a) (suc b) = ⊎_elim
    (λ (lt : a < b). inl (omega arith))
    (λ (u : (a ≡ b) ⊎ (b < a)). ⊎_elim (λ (e : a ≡ b). inr (inl (ap suc e))) (λ (gt : b < a). inr (inr (omega arith))) u)
    (order a b)

le_true : (a b : ℕ) → a ≤ b → nat_le a b ≡ true
le_true a b le = grind (arith, nat_tests)

le_false : (a b : ℕ) → b < a → nat_le a b ≡ false
le_false a b lt = grind (arith, nat_tests)

-- what bytes from a position on have at another
abbrev over : ℕ → List ℕ → ℕ → Option ℕ
over at vs i = cond (nat_le at i) (slice_get vs (i - at)) None

over_none : (b : Bool) (n : ℕ) → (let none : List ℕ = [] in cond b (slice_get none n) None ≡ None)
over_none true n = refl
over_none false n = refl

len_put : (vs xs : List ℕ) (at : ℕ) → length (put_bytes xs at vs) ≡ length xs
len_put [] xs at = refl
len_put (v ∷ vs) xs at = len_put vs (set xs at v) (at + 1) ∙ length-set xs at v

get_put : (vs xs : List ℕ) (at i : ℕ) → i < length xs
    → get_or (put_bytes xs at vs) i 0 ≡ unwrap_or (over at vs i) (get_or xs i 0)
get_put [] xs at i lt = sym (ap (λ o. unwrap_or o (get_or xs i 0)) (over_none (nat_le at i) (i - at)))
get_put (v ∷ vs) xs at i lt =
    let size = length-set xs at v in
    let again = get_put vs (set xs at v) (at + 1) i (omega (arith, lt, size)) in
    again ∙ ⊎_elim
    (λ (below : i < at).
    let here = ap (λ b. cond b (slice_get (v ∷ vs) (i - at)) None) (le_false at i below) in
    let rest = ap (λ b. cond b (slice_get vs (i - (at + 1))) None) (le_false (at + 1) i (omega (arith, below))) in
    ap (λ o. unwrap_or o (get_or (set xs at v) i 0)) rest
    ∙ get_or-set_other xs at i v 0 (λ e. absurd (omega (arith, below, e)))
    ∙ sym (ap (λ o. unwrap_or o (get_or xs i 0)) here))
    (λ (u : (i ≡ at) ⊎ (at < i)). ⊎_elim
    (λ (e : i ≡ at).
    let zero_is : i - at ≡ 0 = omega (arith, e) in
    let here = ap (λ b. cond b (slice_get (v ∷ vs) (i - at)) None) (le_true at i (omega (arith, e)))
    ∙ ap (λ n. slice_get (v ∷ vs) n) zero_is in
    let rest = ap (λ b. cond b (slice_get vs (i - (at + 1))) None) (le_false (at + 1) i (omega (arith, e))) in
    ap (λ o. unwrap_or o (get_or (set xs at v) i 0)) rest
    ∙ ap (λ n. get_or (set xs at v) n 0) e
    ∙ get_or-set_same xs at v 0 (omega (arith, lt, e))
    ∙ sym (ap (λ o. unwrap_or o (get_or xs i 0)) here))
    (λ (above : at < i).
    let more : i - at ≡ suc (i - (at + 1)) = omega (arith, above) in
    let here = ap (λ b. cond b (slice_get (v ∷ vs) (i - at)) None) (le_true at i (omega (arith, above)))
    ∙ ap (λ n. slice_get (v ∷ vs) n) more in
    let rest = ap (λ b. cond b (slice_get vs (i - (at + 1))) None) (le_true (at + 1) i (omega (arith, above))) in
    ap (λ o. unwrap_or o (get_or (set xs at v) i 0)) rest
    ∙ ap (λ x. unwrap_or (slice_get vs (i - (at + 1))) x) (get_or-set_other xs at i v 0 (λ e. absurd (omega (arith, above, e))))
    ∙ sym (ap (λ o. unwrap_or o (get_or xs i 0)) here))
    u)
    (order i at)

len_pieces : (ps : List Piece) (xs : List ℕ) → length (put_pieces xs ps) ≡ length xs
len_pieces [] xs = refl
len_pieces (p ∷ ps) xs = len_pieces ps (put_bytes xs p.from p.bytes) ∙ len_put p.bytes xs p.from

-- what begins behind a position has no byte there
none_later : (ps : List Piece) (end i : ℕ) → Each (λ (later : Piece). end ≤ later.from) ps → i < end → byte_of ps i ≡ None
none_later [] end i each lt = refl
none_later (p ∷ ps) end i each lt =
    let behind : nat_le p.from i ≡ false = le_false p.from i (let low = each.0 in omega (arith, low, lt)) in
    ap (λ b. cond (is_some (cond b (slice_get p.bytes (i - p.from)) None)) (cond b (slice_get p.bytes (i - p.from)) None)
    (byte_of ps i)) behind
    ∙ none_later ps end i each.1 lt

-- a piece has a byte before its end
before_end : (p : Piece) (i y : ℕ) → byte_in p i ≡ Some y → i < p.from + length p.bytes
before_end p i y = by (nat_le p.from i) refl
  where
    by : (b : Bool) → nat_le p.from i ≡ b → cond b (slice_get p.bytes (i - p.from)) None ≡ Some y →
        i < p.from + length p.bytes
    by false e h = absurd (cc)
    by true e h =
        let inside = slice_get_within p.bytes (i - p.from) y h in
        let low : p.from ≤ i = grind (arith, nat_tests, e) in
        omega (arith, inside, low)

get_pieces : (ps : List Piece) (xs : List ℕ) (i : ℕ) → PiecesRise ps → i < length xs
    → get_or (put_pieces xs ps) i 0 ≡ unwrap_or (byte_of ps i) (get_or xs i 0)
get_pieces [] xs i rise lt = refl
get_pieces (p ∷ ps) xs i rise lt =
    let after = put_bytes xs p.from p.bytes in
    let size = len_put p.bytes xs p.from in
    get_pieces ps after i rise.1 (omega (arith, lt, size))
    ∙ ap (λ x. unwrap_or (byte_of ps i) x) (get_put p.bytes xs p.from i lt)
    ∙ by (byte_in p i) refl
  where
    by : (o : Option ℕ) → byte_in p i ≡ o →
        unwrap_or (byte_of ps i) (unwrap_or o (get_or xs i 0)) ≡ unwrap_or (cond (is_some o) o (byte_of ps i)) (get_or xs i 0)
    by None e = refl
    by (Some y) e =
        ap (λ o. unwrap_or o y)
        (none_later ps (p.from + length p.bytes) i rise.0 (before_end p i y e))

len_given : (kept : List ℕ) (ps : List Piece) (at n : ℕ) → length (bytes_given kept ps at n) ≡ n
len_given kept ps at zero = refl
len_given kept ps at (suc n) = ap suc (len_given kept ps (suc at) n)

get_given : (kept : List ℕ) (ps : List Piece) (at n j : ℕ) → j < n
    → get_or (bytes_given kept ps at n) j 0 ≡ unwrap_or (byte_of ps (at + j)) (get_or kept (at + j) 0)
get_given kept ps at zero j lt = absurd (omega (arith, lt))
get_given kept ps at (suc n) zero lt =
    let same : at ≡ at + 0 = omega arith in ap (λ i. unwrap_or (byte_of ps i) (get_or kept i 0)) same
get_given kept ps at (suc n) (suc j) lt =
    let same : suc at + j ≡ at + suc j = omega arith in
    get_given kept ps (suc at) n j (omega (arith, lt)) ∙ ap (λ i. unwrap_or (byte_of ps i) (get_or kept i 0)) same

abbrev nought : ℕ → List ℕ
nought m = replicate m 0

zeros : (m i : ℕ) → get_or (nought m) i 0 ≡ 0
zeros zero i = refl
zeros (suc m) zero = refl
zeros (suc m) (suc i) = zeros m i

padded : (kept : List ℕ) (m i : ℕ) → get_or (kept ++ nought m) i 0 ≡ get_or kept i 0
padded [] m i = zeros m i
padded (x ∷ kept) m zero = refl
padded (x ∷ kept) m (suc i) = padded kept m i

take_all : (kept : List ℕ) (n : ℕ) → length kept ≤ n → take n kept ≡ kept
take_all [] zero le = refl
take_all [] (suc n) le = refl
take_all (x ∷ kept) zero le = absurd (omega (arith, le))
take_all (x ∷ kept) (suc n) le = ap (λ l. x ∷ l) (take_all kept n (omega (arith, le)))

len_zeros : (m : ℕ) → length (nought m) ≡ m
len_zeros zero = refl
len_zeros (suc m) = ap suc (len_zeros m)

len_more : (xs ys : List ℕ) → length (xs ++ ys) ≡ length xs + length ys
len_more [] ys = omega arith
len_more (x ∷ xs) ys = let e = len_more xs ys in omega arith

len_resized : (kept : List ℕ) (n : ℕ) → length kept ≤ n → length (resized kept n) ≡ n
len_resized kept n le =
    let whole = take_all kept n le in
    let a = ap (λ l. length (l ++ nought (n - length kept))) whole in
    let b = len_more kept (nought (n - length kept)) in
    let c = len_zeros (n - length kept) in omega arith

get_resized : (kept : List ℕ) (n i : ℕ) → length kept ≤ n → get_or (resized kept n) i 0 ≡ get_or kept i 0
get_resized kept n i le =
    ap (λ l. get_or (l ++ nought (n - length kept)) i 0) (take_all kept n le) ∙ padded kept (n - length kept) i

same_lists : (xs ys : List ℕ) → length xs ≡ length ys → ((i : ℕ) → i < length xs → get_or xs i 0 ≡ get_or ys i 0) → xs ≡ ys
same_lists [] [] n h = refl
same_lists [] (y ∷ ys) n h = absurd (omega (arith, n))
same_lists (x ∷ xs) [] n h = absurd (omega (arith, n))
same_lists (x ∷ xs) (y ∷ ys) n h =
    let first = h 0 (omega arith) in
    let rest = same_lists xs ys (omega (arith, n)) (λ i lt. h (suc i) (omega (arith, lt))) in
    λ i. first i ∷ rest i

length_is : (k : ℕ) (given : Option ℕ) → max (unwrap_or given 0) k ≡ length_given k given
length_is k None = omega arith
length_is k (Some g) = omega arith

at_least : (k : ℕ) (given : Option ℕ) → k ≤ length_given k given
at_least k None = omega arith
at_least k (Some g) = omega arith

kept_alike : (kept : List ℕ) (ps : List Piece) (given : Option ℕ) → PiecesRise ps
    → put_pieces (lengthened kept given) ps ≡ bytes_given kept ps 0 (length_given (length kept) given)
kept_alike kept ps given rise =
    let n = length_given (length kept) given in
    let long = at_least (length kept) given in
    let start : lengthened kept given ≡ resized kept n = ap (resized kept) (length_is (length kept) given) in
    let size = len_resized kept n long in
    let pieces_size = len_pieces ps (resized kept n) in
    let given_size = len_given kept ps 0 n in
    ap (λ l. put_pieces l ps) start
    ∙ same_lists (put_pieces (resized kept n) ps) (bytes_given kept ps 0 n) (omega arith)
    (λ i lt.
    let below : i < n = omega (arith, lt, size, pieces_size) in
    let zero_more : 0 + i ≡ i = omega arith in
    get_pieces ps (resized kept n) i rise (omega (arith, below, size))
    ∙ ap (λ x. unwrap_or (byte_of ps i) x) (get_resized kept n i long)
    ∙ sym (get_given kept ps 0 n i below ∙ ap (λ j. unwrap_or (byte_of ps j) (get_or kept j 0)) zero_more))

pub gives_are_alike : GivesAreAlike
gives_are_alike ps given (Dir entries lists) rise = refl
gives_are_alike ps given (File list kept unsaved len) rise = ap (λ l. File list l unsaved len) (kept_alike kept ps given rise)
