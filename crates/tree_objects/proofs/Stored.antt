-- The part of stretches in which all bytes stand that are stored, and how a stretch is split.
use Rattle.std.proofs.Common.{◌≡◌, ℕ, zero, suc, ◌+◌, ◌-◌, ◌<◌, ◌≤◌, ◌==◌, min, max, nat_le, nat_lt, Bool, true}
use Rattle.std.proofs.Common.{false, ◌&&◌, ◌||◌, not, cond, List, [], ◌∷◌, ◌++◌, length, filter, take, drop, Some}
use Rattle.std.proofs.Common.{None, append_assoc, refl, sym, ap, ◌∙◌, subst, arith, rules}
use Rattle.std.specs.List.{find, fold, list_all, splice}
use Rattle.std.specs.Option.{is_some, unwrap_or}
use Rattle.std.proofs.lemmas.List.{append-nil}
use Rattle.std.proofs.lemmas.List.Elements.{filter-append}
use Rattle.std.proofs.lemmas.Grind.{common_steps}
use Rattle.base_types.specs.Spans.{has_byte, in_spans}
use Rattle.base_types.specs.declared.ids.HostId.{HostId}
use Rattle.base_types.specs.declared.limits.TheConstants.{FILE_BYTES_MAX}
use Rattle.base_types.specs.declared.span.Span.{Span}
use Rattle.tree_objects.specs.declared.content.Unsaved.{Unsaved}
use Rattle.tree_objects.specs.declared.stretch.Stretch.{Stretch}
use Rattle.tree_objects.specs.Cuts.{IsCut, first_of, end_of, next_of}
use Rattle.tree_objects.specs.Positions.{positions_rise, written}
use Rattle.tree_objects.specs.Stores.{is_stored}
use Rattle.tree_objects.specs.Stretches.{bytes_of, all_bytes, is_stretch, are_stretches}
use Rattle.tree_objects.proofs.Observed.{and_left, and_right}
use Rattle.tree_objects.proofs.Rising.{and_both, all_implied, rise_filter}
use Rattle.tree_objects.proofs.Pieces.{drop_more, drop_all}
use Rattle.tree_objects.proofs.Cuts.{around_bytes, put_bytes, filter_all, filter_none}

-- a test that is passed only between two positions is refused outside
refused_below : (from at : ℕ) (b : Bool) → (b ≡ true → from ≤ at) → nat_lt at from ≡ true → b ≡ false
refused_below from at true f h = let l = f refl in let m : at < from = grind (arith, common_steps, h) in absurd
    (omega (arith, l, m))
refused_below from at false f h = refl

refused_above : (to at : ℕ) (b : Bool) → (b ≡ true → at < to) → nat_le to at ≡ true → b ≡ false
refused_above to at true f h = let l = f refl in let m : to ≤ at = grind (arith, common_steps, h) in absurd
    (omega (arith, l, m))
refused_above to at false f h = refl

-- what passes such a test stands in the part between these positions
passing_within : (p : Unsaved → Bool) (ss : List Stretch) (from to i k : ℕ) → IsCut ss from to i k
    → ((x : Unsaved) → p x ≡ true → from ≤ x.at) → ((x : Unsaved) → p x ≡ true → x.at < to)
    → filter p (all_bytes (take (k - i) (drop i ss))) ≡ filter p (all_bytes ss)
passing_within p ss from to i k cut low high =
    let a = all_bytes (take i ss) in let m = all_bytes (take (k - i) (drop i ss)) in let b = all_bytes (drop k ss) in
    let front : filter p a ≡ []
    = filter_none p a (all_implied (λ x. nat_lt x.at from) (λ x. not (p x))
    (λ x h. ap not (refused_below from x.at (p x) (low x) h)) a cut.below) in
    let back : filter p b ≡ []
    = filter_none p b (all_implied (λ x. nat_le to x.at) (λ x. not (p x))
    (λ x h. ap not (refused_above to x.at (p x) (high x) h)) b cut.above) in
    sym (ap (filter p) (around_bytes ss i k cut.ordered)
    ∙ filter-append p a (m ++ b)
    ∙ ap (λ ys. ys ++ filter p (m ++ b)) front
    ∙ filter-append p m b
    ∙ ap (λ ys. filter p m ++ ys) back
    ∙ append-nil (filter p m))

-- what is left of the part, in its place, is what is left of the whole
left_around : (p : Unsaved → Bool) (ss list next : List Stretch) (from to i k : ℕ) → IsCut ss from to i k
    → ((x : Unsaved) → p x ≡ true → from ≤ x.at) → ((x : Unsaved) → p x ≡ true → x.at < to)
    → all_bytes list ≡ filter (λ x. not (p x)) (all_bytes (take (k - i) (drop i ss))) → next ≡ splice ss i k list
    → all_bytes next ≡ filter (λ x. not (p x)) (all_bytes ss)
left_around p ss list next from to i k cut low high e f =
    let a = all_bytes (take i ss) in let m = all_bytes (take (k - i) (drop i ss)) in let b = all_bytes (drop k ss) in
    let others : Unsaved → Bool = λ x. not (p x) in
    let front : filter others a ≡ a
    = filter_all others a (all_implied (λ x. nat_lt x.at from) others
    (λ x h. ap not (refused_below from x.at (p x) (low x) h)) a cut.below) in
    let back : filter others b ≡ b
    = filter_all others b (all_implied (λ x. nat_le to x.at) others
    (λ x h. ap not (refused_above to x.at (p x) (high x) h)) b cut.above) in
    put_bytes ss list next i k f ∙ ap (λ ys. a ++ (ys ++ b)) e
    ∙ sym (ap (filter others) (around_bytes ss i k cut.ordered)
    ∙ filter-append others a (m ++ b)
    ∙ ap (λ ys. ys ++ filter others (m ++ b)) front
    ∙ ap (λ ys. a ++ ys) (filter-append others m b ∙ ap (λ ys. filter others m ++ ys) back))

-- the first position is no greater than where the search for it began
first_low : (spans : List Span) (e : ℕ) → first_of spans e ≤ e
first_low [] e = omega arith
first_low (s ∷ ss) e = let rest = first_low ss (min e s.from) in omega (arith, rest)

-- a position in the spans isn't before the first of theirs
first_before : (spans : List Span) (e at : ℕ) → in_spans spans at ≡ true → first_of spans e ≤ at
first_before [] e at h = absurd (search (rules, h))
first_before (s ∷ ss) e at h =
    elim (has_byte s at) as (λ t. has_byte s at ≡ t → (t || in_spans ss at) ≡ true → first_of ss (min e s.from) ≤ at) [
      | true ↦ λ k g. let low = first_low ss (min e s.from) in let m : nat_le s.from at ≡ true = and_left _ _ k in
          let l : s.from ≤ at = grind (arith, common_steps, m) in omega (arith, low, l)
      | false ↦ λ k g. first_before ss (min e s.from) at g
    ] refl h

-- the last position is no less than where the search for it began
end_high : (spans : List Span) (e : ℕ) → e ≤ fold (λ to span. max to span.to) e spans
end_high [] e = omega arith
end_high (s ∷ ss) e = let rest = end_high ss (max e s.to) in omega (arith, rest)

-- nor behind the last
end_behind : (spans : List Span) (e at : ℕ) → in_spans spans at ≡ true → at < fold (λ to span. max to span.to) e spans
end_behind [] e at h = absurd (search (rules, h))
end_behind (s ∷ ss) e at h =
    elim (has_byte s at) as (λ t. has_byte s at ≡ t → (t || in_spans ss at) ≡ true → at < fold
    (λ to span. max to span.to) (max e s.to) ss) [
      | true ↦ λ k g. let high = end_high ss (max e s.to) in let m : nat_lt at s.to ≡ true = and_right _ _ k in let l
          : at < s.to = grind (arith, common_steps, m) in omega (arith, high, l)
      | false ↦ λ k g. end_behind ss (max e s.to) at g
    ] refl h

-- what is stored stands from the first position of the spans on
pub stored_from : (host : HostId) (spans : List Span) (end : ℕ) (x : Unsaved) → is_stored host spans end x ≡ true
    → first_of spans end ≤ x.at
stored_from host spans end x h = first_before spans end x.at (and_right _ _ h)

-- and before the last one
pub stored_to : (host : HostId) (spans : List Span) (end : ℕ) (x : Unsaved) → is_stored host spans end x ≡ true
    → x.at < max (min (end_of spans) end) (first_of spans end)
stored_to host spans end x h =
    let behind : x.at < end_of spans = end_behind spans 0 x.at (and_right _ _ h) in
    let below : nat_lt x.at end ≡ true = and_right _ _ (and_left _ _ h) in
    let l : x.at < end = grind (arith, common_steps, below) in
    omega (arith, behind, l)

-- what is stored of the part is what is stored of the whole
pub part_stored : (host : HostId) (spans : List Span) (end : ℕ) (ss : List Stretch) (i k : ℕ) → IsCut ss
    (first_of spans end) (max (min (end_of spans) end) (first_of spans end)) i k
    → filter (is_stored host spans end) (all_bytes (take (k - i) (drop i ss))) ≡ filter (is_stored host spans end)
    (all_bytes ss)
part_stored host spans end ss i k cut =
    passing_within (is_stored host spans end) ss (first_of spans end)
    (max (min (end_of spans) end) (first_of spans end)) i k cut (stored_from host spans end) (stored_to host spans end)

-- what takes the place of the part leaves what is left of the whole
pub part_left : (host : HostId) (spans : List Span) (end : ℕ) (ss list next : List Stretch) (i k : ℕ) → IsCut ss
    (first_of spans end) (max (min (end_of spans) end) (first_of spans end)) i k
    → all_bytes list ≡ filter (λ byte. not (is_stored host spans end byte)) (all_bytes (take (k - i) (drop i ss)))
    → next ≡ splice ss i k list
    → all_bytes next ≡ filter (λ byte. not (is_stored host spans end byte)) (all_bytes ss)
part_left host spans end ss list next i k cut e f =
    left_around (is_stored host spans end) ss list next (first_of spans end)
    (max (min (end_of spans) end) (first_of spans end)) i k cut (stored_from host spans end)
    (stored_to host spans end) e f

-- and the stretches stay as they must be
pub left_stands : (test : Unsaved → Bool) (ss next : List Stretch) → are_stretches ss ≡ true → all_bytes next
    ≡ filter test (all_bytes ss) → list_all is_stretch next ≡ true → are_stretches next ≡ true
left_stands test ss next h e k = and_both _ _ k (subst (λ xs. positions_rise xs ≡ true) (sym e)
    (rise_filter test (all_bytes ss) (and_right _ _ h)))

-- written bytes of which all pass a test, or none
pub all_alike : (test : Unsaved → Bool) (b : Bool) (host : HostId) (from : ℕ) (bytes : List ℕ) (to : ℕ)
    → ((place value : ℕ) → from ≤ place → place < to → test (record { at = place; value = value; writer = host }) ≡ b)
    → from + length bytes ≤ to → filter test (written host from bytes) ≡ cond b (written host from bytes) []
all_alike test true host from [] to f h = refl
all_alike test false host from [] to f h = refl
all_alike test true host from (x ∷ xs) to f h =
    let e : test (record { at = from; value = x; writer = host }) ≡ true = f from x (omega arith) (omega (arith, h)) in
    let first : Unsaved = record { at = from; value = x; writer = host } in
    rw e (ap (λ ys. first ∷ ys) (all_alike test true host (from + 1) xs to
    (λ place value l u. f place value (omega (arith, l)) u) (omega (arith, h))))
all_alike test false host from (x ∷ xs) to f h =
    let e : test (record { at = from; value = x; writer = host }) ≡ false = f from x (omega arith) (omega (arith, h)) in
    rw e (all_alike test false host (from + 1) xs to (λ place value l u. f place value (omega (arith, l)) u)
    (omega (arith, h)))

-- written bytes in two parts
written_split : (host : HostId) (from : ℕ) (bytes : List ℕ) (n : ℕ) → written host from bytes ≡ written host from
    (take n bytes) ++ written host (from + n) (drop n bytes)
written_split host from [] zero = refl
written_split host from [] (suc n) = refl
written_split host from (x ∷ xs) zero = let z : from + zero ≡ from = omega arith in ap (λ k. written host k (x ∷ xs))
    (sym z)
written_split host from (x ∷ xs) (suc n) =
    let z : from + 1 + n ≡ from + suc n = omega arith in
    let first : Unsaved = record { at = from; value = x; writer = host } in
    ap (λ ys. first ∷ ys) (written_split host (from + 1) xs n ∙ ap
    (λ k. written host (from + 1) (take n xs) ++ written host k (drop n xs)) z)

-- one piece more of what is written
pub piece_added : (host : HostId) (from : ℕ) (bytes : List ℕ) (done next : ℕ) (before after all : List Unsaved)
    → done ≤ next → after ≡ before ++ written host (from + done) (take (next - done) (drop done bytes))
    → before ++ written host (from + done) (drop done bytes) ≡ all
    → after ++ written host (from + next) (drop next bytes) ≡ all
piece_added host from bytes done next before after all o e was =
    let rest = drop done bytes in let n = next - done in
    let piece = written host (from + done) (take n rest) in
    let z : from + done + n ≡ from + next = omega (arith, o) in
    let y : done + n ≡ next = omega (arith, o) in
    let split : written host (from + done) rest ≡ piece ++ written host (from + next) (drop next bytes)
    = written_split host (from + done) rest n ∙ ap (λ k. piece ++ written host k (drop n rest)) z
    ∙ ap (λ ys. piece ++ written host (from + next) ys) (sym (drop_more bytes done n) ∙ ap (λ k. drop k bytes) y) in
    ap (λ ys. ys ++ written host (from + next) (drop next bytes)) e
    ∙ append_assoc before piece (written host (from + next) (drop next bytes))
    ∙ ap (λ ys. before ++ ys) (sym split) ∙ was

-- none of them yet, and all
pub none_written : (host : HostId) (from : ℕ) (bytes : List ℕ) (list : List Unsaved)
    → list ++ written host (from + 0) (drop 0 bytes) ≡ list ++ written host from bytes
none_written host from bytes list =
    let z : from + 0 ≡ from = omega arith in ap (λ k. list ++ written host k bytes) z

pub all_written : (host : HostId) (from : ℕ) (bytes : List ℕ) (done : ℕ) (list all : List Unsaved)
    → length bytes ≤ done → list ++ written host (from + done) (drop done bytes) ≡ all → list ≡ all
all_written host from bytes done list all h e =
    sym (append-nil list) ∙ ap (λ ys. list ++ written host (from + done) ys) (sym (drop_all bytes done h)) ∙ e

-- one part of a stretch more is added to the list that it belongs to
pub part_added : (test : Unsaved → Bool) (host : HostId) (from : ℕ) (bytes : List ℕ) (done next to : ℕ)
    (before after : List Unsaved) (all : List Unsaved) (b : Bool)
    → done ≤ next → next ≤ length bytes → from + next ≤ to
    → ((place value : ℕ) → from + done ≤ place → place < to → test
    (record { at = place; value = value; writer = host }) ≡ b)
    → after ≡ cond b (before ++ written host (from + done) (take (next - done) (drop done bytes))) before
    → before ++ filter test (written host (from + done) (drop done bytes)) ≡ all
    → after ++ filter test (written host (from + next) (drop next bytes)) ≡ all
part_added test host from bytes done next to before after all b o l u f e was =
    let rest = drop done bytes in let n = next - done in
    let z : from + done + n ≡ from + next = omega (arith, o) in
    let y : done + n ≡ next = omega (arith, o) in
    let long : length (take n rest) ≤ n = taken rest n in
    let here : filter test (written host (from + done) (take n rest)) ≡ cond b
    (written host (from + done) (take n rest)) []
    = all_alike test b host (from + done) (take n rest) to f (omega (arith, long, z, u)) in
    let split : filter test (written host (from + done) rest) ≡ cond b (written host (from + done) (take n rest)) []
    ++ filter test (written host (from + next) (drop next bytes))
    = ap (filter test) (written_split host (from + done) rest n)
    ∙ filter-append test (written host (from + done) (take n rest)) (written host (from + done + n) (drop n rest))
    ∙ ap (λ ys. ys ++ filter test (written host (from + done + n) (drop n rest))) here
    ∙ ap (λ k. cond b (written host (from + done) (take n rest)) [] ++ filter test (written host k (drop n rest))) z
    ∙ ap (λ ys. cond b (written host (from + done) (take n rest)) [] ++ filter test (written host (from + next) ys))
    (sym (drop_more bytes done n) ∙ ap (λ k. drop k bytes) y) in
    ap (λ ys. ys ++ filter test (written host (from + next) (drop next bytes))) e
    ∙ joined b before (written host (from + done) (take n rest))
    (filter test (written host (from + next) (drop next bytes)))
    ∙ ap (λ ys. before ++ ys) (sym split)
    ∙ was
  where
    taken : (xs : List ℕ) (n : ℕ) → length (take n xs) ≤ n
    taken xs zero = omega arith
    taken [] (suc n) = omega arith
    taken (x ∷ xs) (suc n) = let more = taken xs n in omega (arith, more)

    joined : (b : Bool) (before part more : List Unsaved) → cond b (before ++ part) before ++ more ≡ before ++
        (cond b part [] ++ more)
    joined true before part more = append_assoc before part more
    joined false before part more = refl

-- at the end of a stretch nothing is left to be added
pub all_added : (test : Unsaved → Bool) (host : HostId) (from : ℕ) (bytes : List ℕ) (done : ℕ)
    (list all : List Unsaved) → length bytes ≤ done
    → list ++ filter test (written host (from + done) (drop done bytes)) ≡ all → list ≡ all
all_added test host from bytes done list all h e =
    sym (append-nil list) ∙ ap (λ ys. list ++ ys) (sym (ap (λ ys. filter test (written host (from + done) ys))
    (drop_all bytes done h))) ∙ e

-- before its first byte all is
pub none_added : (test : Unsaved → Bool) (stretch : Stretch) (list : List Unsaved) → list ++ filter test
    (written stretch.writer (stretch.from + 0) (drop 0 stretch.bytes)) ≡ list ++ filter test (bytes_of stretch)
none_added test stretch list = let z : stretch.from + 0 ≡ stretch.from = omega arith in ap
    (λ k. list ++ filter test (written stretch.writer k stretch.bytes)) z

-- a position in no span, and those before the next that a span begins at
next_low : (spans : List Span) (at e : ℕ) → fold (λ next span. cond (nat_lt at span.from) (min next span.from) next)
    e spans ≤ e
next_low [] at e = omega arith
next_low (s ∷ ss) at e =
    elim (nat_lt at s.from) as (λ t. fold (λ next span. cond (nat_lt at span.from) (min next span.from) next)
    (cond t (min e s.from) e) ss ≤ e) [
      | true ↦ let more = next_low ss at (min e s.from) in omega (arith, more)
      | false ↦ next_low ss at e
    ]

next_high : (spans : List Span) (at e : ℕ) → at < e → at < fold
    (λ next span. cond (nat_lt at span.from) (min next span.from) next) e spans
next_high [] at e h = h
next_high (s ∷ ss) at e h =
    elim (nat_lt at s.from) as (λ t. nat_lt at s.from ≡ t → at < fold
    (λ next span. cond (nat_lt at span.from) (min next span.from) next) (cond t (min e s.from) e) ss) [
      | true ↦ λ k. let l : at < s.from = grind (arith, common_steps, k) in next_high ss at (min e s.from)
          (omega (arith, h, l))
      | false ↦ λ k. next_high ss at e h
    ] refl

pub next_more : (spans : List Span) (at : ℕ) → at < FILE_BYTES_MAX → at < next_of spans at
next_more spans at h = next_high spans at FILE_BYTES_MAX h

next_none : (spans : List Span) (at e p : ℕ) → in_spans spans at ≡ false → at ≤ p → p < fold
    (λ next span. cond (nat_lt at span.from) (min next span.from) next) e spans → in_spans spans p ≡ false
next_none [] at e p h l u = refl
next_none (s ∷ ss) at e p h l u =
    let out : has_byte s at ≡ false = or_left _ _ h in
    let more : in_spans ss at ≡ false = or_right _ _ h in
    elim (nat_lt at s.from) as (λ t. nat_lt at s.from ≡ t → p < fold
    (λ next span. cond (nat_lt at span.from) (min next span.from) next) (cond t (min e s.from) e) ss → in_spans
    (s ∷ ss) p ≡ false) [
      | true ↦ λ k v.
          let low = next_low ss at (min e s.from) in
          let b : p < s.from = omega (arith, low, v) in
          or_both _ _ (out_below s p b) (next_none ss at (min e s.from) p more l v)
      | false ↦ λ k v.
          let g : s.from ≤ at = grind (arith, common_steps, k) in
          or_both _ _ (out_behind s at p g out l) (next_none ss at e p more l v)
    ] refl u
  where
    or_left : (a b : Bool) → (a || b) ≡ false → a ≡ false
    or_left true b h = h
    or_left false b h = refl

    or_right : (a b : Bool) → (a || b) ≡ false → b ≡ false
    or_right true b h = absurd (search (rules, h))
    or_right false b h = h

    or_both : (a b : Bool) → a ≡ false → b ≡ false → (a || b) ≡ false
    or_both a b h k = rw (h, k) refl

    out_below : (s : Span) (p : ℕ) → p < s.from → has_byte s p ≡ false
    out_below s p h = let e : nat_le s.from p ≡ false = grind (arith, common_steps, h) in rw e refl

    out_behind : (s : Span) (at p : ℕ) → s.from ≤ at → has_byte s at ≡ false → at ≤ p → has_byte s p ≡ false
    out_behind s at p g h l =
        let e : nat_le s.from at ≡ true = grind (arith, common_steps, g) in
        let n : nat_lt at s.to ≡ false = sym (ap (λ b. b && nat_lt at s.to) e) ∙ h in
        let m : nat_lt p s.to ≡ false = grind (arith, common_steps, n, l) in
        let f : nat_le s.from p ≡ true = grind (arith, common_steps, g, l) in
        rw (f, m) refl

-- a span that was found has the position, and lies in the spans
found_in : (spans : List Span) (at p : ℕ) (span : Span) → find (λ span. has_byte span at) spans ≡ Some span → at ≤ p
    → p < span.to → in_spans spans p ≡ true
found_in [] at p span e l u = let k : false ≡ true = ap is_some e in absurd (search (rules, k))
found_in (s ∷ ss) at p span e l u =
    elim (has_byte s at) as (λ t. has_byte s at ≡ t → cond t (Some s) (find (λ span. has_byte span at) ss) ≡ Some
    span → in_spans (s ∷ ss) p ≡ true) [
      | true ↦ λ k f.
          let same : s ≡ span = ap (λ o. unwrap_or o s) f in
          let a : nat_le s.from at ≡ true = and_left _ _ k in
          let v : p < s.to = subst (λ x. p < x.to) (sym same) u in
          let b : nat_le s.from p ≡ true = grind (arith, common_steps, a, l) in
          let c : nat_lt p s.to ≡ true = grind (arith, common_steps, v) in
          rw (b, c) refl
      | false ↦ λ k f. let more = found_in ss at p span f l u in rw more (or_true (has_byte s p))
    ] refl e
  where
    or_true : (b : Bool) → (b || true) ≡ true
    or_true true = refl
    or_true false = refl

found_end : (spans : List Span) (at : ℕ) (span : Span) → find (λ span. has_byte span at) spans ≡ Some span → at <
    span.to
found_end [] at span e = let k : false ≡ true = ap is_some e in absurd (search (rules, k))
found_end (s ∷ ss) at span e =
    elim (has_byte s at) as (λ t. has_byte s at ≡ t → cond t (Some s) (find (λ span. has_byte span at) ss) ≡ Some
    span → at < span.to) [
      | true ↦ λ k f.
          let same : s ≡ span = ap (λ o. unwrap_or o s) f in
          let b : nat_lt at s.to ≡ true = and_right _ _ k in
          let c : at < s.to = grind (arith, common_steps, b) in
          subst (λ x. at < x.to) same c
      | false ↦ λ k f. found_end ss at span f
    ] refl e

found_none : (spans : List Span) (at : ℕ) → find (λ span. has_byte span at) spans ≡ None → in_spans spans at ≡ false
found_none [] at e = refl
found_none (s ∷ ss) at e =
    elim (has_byte s at) as (λ t. cond t (Some s) (find (λ span. has_byte span at) ss) ≡ None → (t || in_spans ss at)
    ≡ false) [
      | true ↦ λ f. let k : true ≡ false = ap is_some f in absurd (search (rules, k))
      | false ↦ λ f. found_none ss at f
    ] e

-- a host stores its bytes alone
pub own_limit : (host writer : HostId) (spans : List Span) (end place value : ℕ)
    → (nat_lt place (cond (writer.0 == host.0) end 0) && in_spans spans place) ≡ is_stored host spans end
    (record { at = place; value = value; writer = writer })
own_limit host writer spans end place value =
    let none : nat_lt place 0 ≡ false = grind (arith, common_steps) in
    elim (writer.0 == host.0) as (λ t. (nat_lt place (cond t end 0) && in_spans spans place)
    ≡ (t && nat_lt place end && in_spans spans place)) [
      | true ↦ refl
      | false ↦ rw none refl
    ]

-- nothing from the end on is stored
pub past_stored : (spans : List Span) (end at place : ℕ) → end ≤ at → at ≤ place
    → (nat_lt place end && in_spans spans place) ≡ false
past_stored spans end at place h l = let e : nat_lt place end ≡ false = grind (arith, common_steps, h, l) in rw e refl

-- what lies in a span that was found is
pub span_stored : (spans : List Span) (end at place : ℕ) (span : Span) → find (λ span. has_byte span at) spans ≡ Some
    span → at ≤ place → place < min end span.to
    → (nat_lt place end && in_spans spans place) ≡ true
span_stored spans end at place span f l u =
    let v : place < end = omega (arith, u) in
    let e : nat_lt place end ≡ true = grind (arith, common_steps, v) in
    let g : in_spans spans place ≡ true = found_in spans at place span f l (omega (arith, u)) in
    rw (e, g) refl

pub span_more : (spans : List Span) (end at : ℕ) (span : Span) → at < end → find (λ span. has_byte span at) spans
    ≡ Some span → at < min end span.to
span_more spans end at span h f = let g = found_end spans at span f in omega (arith, h, g)

-- what lies before the next span isn't
pub between_stored : (spans : List Span) (end at place : ℕ) → find (λ span. has_byte span at) spans ≡ None → at ≤
    place → place < next_of spans at
    → (nat_lt place end && in_spans spans place) ≡ false
between_stored spans end at place f l u =
    let g : in_spans spans place ≡ false = next_none spans at FILE_BYTES_MAX place (found_none spans at f) l u in
    rw g (none (nat_lt place end))
  where
    none : (b : Bool) → (b && false) ≡ false
    none true = refl
    none false = refl
