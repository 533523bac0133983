-- The stretches of a host, and the spans in which its bytes stand.
use Rattle.std.proofs.Common.{◌≡◌, ℕ, zero, suc, ◌+◌, ◌<◌, ◌≤◌, ◌==◌, nat_lt, Bool, true, false, not, cond, List, []}
use Rattle.std.proofs.Common.{◌∷◌, ◌++◌, length, filter, drop, get_or, append_assoc, refl, sym, ap, ◌∙◌, subst}
use Rattle.std.proofs.Common.{drop-cons, arith, inl, inr}
use Rattle.std.specs.List.{list_all}
use Rattle.std.proofs.lemmas.List.Elements.{filter-append}
use Rattle.std.proofs.lemmas.Grind.{common_steps}
use Rattle.std.proofs.lemmas.Bool.Decides.{leb_tells}
use Rattle.base_types.specs.declared.ids.HostId.{HostId}
use Rattle.base_types.specs.declared.span.Span.{Span}
use Rattle.tree_objects.specs.declared.content.Unsaved.{Unsaved}
use Rattle.tree_objects.specs.declared.stretch.Stretch.{Stretch}
use Rattle.tree_objects.specs.Losses.{spans_on, spans_of, spans_from, own_bytes}
use Rattle.tree_objects.specs.Positions.{positions_rise, written}
use Rattle.tree_objects.specs.Spans.{span_between}
use Rattle.tree_objects.specs.Stretches.{bytes_of, all_bytes, is_stretch, are_stretches}
use Rattle.tree_objects.proofs.Observed.{and_left, and_right}
use Rattle.tree_objects.proofs.Rising.{and_both, all_filter, rise_filter}
use Rattle.tree_objects.proofs.Pieces.{some_of}
use Rattle.tree_objects.proofs.Stored.{all_alike}

-- each element passes what all pass
each_at : {X : Type 0} (p : X → Bool) (xs : List X) (k : ℕ) (d : X) → list_all p xs ≡ true → k < length xs → p
    (get_or xs k d) ≡ true
each_at p [] k d h l = absurd (omega (arith, l))
each_at p (x ∷ xs) zero d h l = and_left _ _ h
each_at p (x ∷ xs) (suc k) d h l = each_at p xs k d (and_right _ _ h) (omega (arith, l))

pub each_item : {X : Type 0} (p : X → Bool) (xs : List X) (k : ℕ) (x : X) → list_all p xs ≡ true → k < length xs → x
    ≡ get_or xs k x → p x ≡ true
each_item p xs k x h l e = ap p e ∙ each_at p xs k x h l

-- a test that goes by the writer
by_writer : (q : ℕ → Bool) (s : Stretch) → filter (λ byte. q byte.writer.0) (bytes_of s) ≡ cond (q s.writer.0)
    (bytes_of s) []
by_writer q s = all_alike (λ byte. q byte.writer.0) (q s.writer.0) s.writer s.from s.bytes (s.from + length s.bytes)
    (λ place value l u. refl) (omega arith)

-- the bytes of stretches without a host's
pub own_gone : (host : HostId) (ss : List Stretch) → all_bytes (filter (λ s. not (s.writer.0 == host.0)) ss) ≡ filter
    (λ byte. not (byte.writer.0 == host.0)) (all_bytes ss)
own_gone host [] = refl
own_gone host (s ∷ ss) =
    let test : Unsaved → Bool = λ byte. not (byte.writer.0 == host.0) in
    let more = own_gone host ss in
    elim (not (s.writer.0 == host.0)) as (λ t. not (s.writer.0 == host.0) ≡ t → all_bytes
    (cond t (s ∷ filter (λ s. not (s.writer.0 == host.0)) ss) (filter (λ s. not (s.writer.0 == host.0)) ss)) ≡ filter
    test (all_bytes (s ∷ ss))) [
      | true ↦ λ e. ap (λ ys. bytes_of s ++ ys) more
          ∙ sym (filter-append test (bytes_of s) (all_bytes ss) ∙ ap (λ ys. ys ++ filter test (all_bytes ss))
          (by_writer (λ n. not (n == host.0)) s ∙ ap (λ t. cond t (bytes_of s) []) e))
      | false ↦ λ e. more
          ∙ sym (filter-append test (bytes_of s) (all_bytes ss) ∙ ap (λ ys. ys ++ filter test (all_bytes ss))
          (by_writer (λ n. not (n == host.0)) s ∙ ap (λ t. cond t (bytes_of s) []) e))
    ] refl

pub forget_stands : (host : HostId) (ss next : List Stretch) → next ≡ filter (λ s. not (s.writer.0 == host.0)) ss
    → are_stretches ss ≡ true → are_stretches next ≡ true
forget_stands host ss next e h =
    let each : list_all is_stretch next ≡ true = ap (list_all is_stretch) e ∙ all_filter is_stretch
    (λ s. not (s.writer.0 == host.0)) ss (and_left _ _ h) in
    let bytes : all_bytes next ≡ filter (λ byte. not (byte.writer.0 == host.0)) (all_bytes ss) = ap all_bytes e
    ∙ own_gone host ss in
    and_both _ _ each (subst (λ xs. positions_rise xs ≡ true) (sym bytes)
    (rise_filter (λ byte. not (byte.writer.0 == host.0)) (all_bytes ss) (and_right _ _ h)))

-- a stretch at a place, its bytes before the others
pub bytes_next : (ss : List Stretch) (i : ℕ) (s : Stretch) → i < length ss → s ≡ get_or ss i s → all_bytes
    (drop i ss) ≡ bytes_of s ++ all_bytes (drop (i + 1) ss)
bytes_next ss i s h e =
    let z : suc i ≡ i + 1 = omega arith in
    ap all_bytes (drop-cons ss i s h) ∙ ap (λ x. bytes_of x ++ all_bytes (drop (suc i) ss)) (sym e) ∙ ap
    (λ n. bytes_of s ++ all_bytes (drop n ss)) z

-- those that pass a test, of one stretch more
pub passing_next : (test : Unsaved → Bool) (ss : List Stretch) (i : ℕ) (s : Stretch)
    (before after all : List Unsaved) → i < length ss → s ≡ get_or ss i s
    → after ≡ before ++ filter test (bytes_of s) → before ++ filter test (all_bytes (drop i ss)) ≡ all → after ++
    filter test (all_bytes (drop (i + 1) ss)) ≡ all
passing_next test ss i s before after all h e put was =
    ap (λ ys. ys ++ filter test (all_bytes (drop (i + 1) ss))) put
    ∙ append_assoc before (filter test (bytes_of s)) (filter test (all_bytes (drop (i + 1) ss)))
    ∙ ap (λ ys. before ++ ys) (sym (ap (filter test) (bytes_next ss i s h e) ∙ filter-append test (bytes_of s)
    (all_bytes (drop (i + 1) ss))))
    ∙ was

pub whole_next : (ss : List Stretch) (i : ℕ) (s : Stretch) (before after all : List Unsaved) → i < length ss → s
    ≡ get_or ss i s
    → after ≡ before ++ bytes_of s → before ++ all_bytes (drop i ss) ≡ all → after ++ all_bytes (drop (i + 1) ss) ≡ all
whole_next ss i s before after all h e put was =
    ap (λ ys. ys ++ all_bytes (drop (i + 1) ss)) put
    ∙ append_assoc before (bytes_of s) (all_bytes (drop (i + 1) ss))
    ∙ ap (λ ys. before ++ ys) (sym (bytes_next ss i s h e))
    ∙ was

-- the host's bytes from a stretch on
pub own_next : (host : HostId) (ss : List Stretch) (i : ℕ) (s : Stretch) → i < length ss → s ≡ get_or ss i s
    → own_bytes host (all_bytes (drop i ss)) ≡ cond (s.writer.0 == host.0) (bytes_of s) [] ++ own_bytes host
    (all_bytes (drop (i + 1) ss))
own_next host ss i s h e =
    let test : Unsaved → Bool = λ byte. byte.writer.0 == host.0 in
    ap (filter test) (bytes_next ss i s h e) ∙ filter-append test (bytes_of s) (all_bytes (drop (i + 1) ss))
    ∙ ap (λ ys. ys ++ filter test (all_bytes (drop (i + 1) ss))) (by_writer (λ n. n == host.0) s)

-- bytes directly behind a span make it longer
run_on : (from at : ℕ) (host : HostId) (bytes : List ℕ) (rest : List Unsaved) → spans_on from at
    (written host at bytes ++ rest) ≡ spans_on from (at + length bytes) rest
run_on from at host [] rest = let z : at + zero ≡ at = omega arith in rw z refl
run_on from at host (x ∷ xs) rest =
    let e : (at == at) ≡ true = grind (arith, common_steps) in
    let z : at + 1 + length xs ≡ at + suc (length xs) = omega arith in
    rw e (run_on from (at + 1) host xs rest ∙ ap (λ n. spans_on from n rest) z)

-- the first bytes begin a span
begun : (s : Stretch) (rest : List Unsaved) → is_stretch s ≡ true → spans_of (bytes_of s ++ rest) ≡ spans_on s.from
    (s.from + length s.bytes) rest
begun s rest k = by_bytes s.bytes (some_of s k)
  where
    by_bytes : (bytes : List ℕ) → 0 < length bytes → spans_of (written s.writer s.from bytes ++ rest) ≡ spans_on
        s.from (s.from + length bytes) rest
    by_bytes [] l = absurd (omega (arith, l))
    by_bytes (x ∷ xs) l =
        let z : s.from + 1 + length xs ≡ s.from + suc (length xs) = omega arith in
        run_on s.from (s.from + 1) s.writer xs rest ∙ ap (λ n. spans_on s.from n rest) z

-- and so do bytes apart from the span before
apart : (from to : ℕ) (s : Stretch) (rest : List Unsaved) → is_stretch s ≡ true → (s.from == to) ≡ false → spans_on
    from to (bytes_of s ++ rest) ≡ span_between from to ∷ spans_on s.from (s.from + length s.bytes) rest
apart from to s rest k e = by_bytes s.bytes (some_of s k)
  where
    by_bytes : (bytes : List ℕ) → 0 < length bytes → spans_on from to (written s.writer s.from bytes ++ rest)
        ≡ span_between from to ∷ spans_on s.from (s.from + length bytes) rest
    by_bytes [] l = absurd (omega (arith, l))
    by_bytes (x ∷ xs) l =
        let z : s.from + 1 + length xs ≡ s.from + suc (length xs) = omega arith in
        rw e (ap (λ spans. span_between from to ∷ spans) (run_on s.from (s.from + 1) s.writer xs rest ∙ ap
        (λ n. spans_on s.from n rest) z))

spans_some : (from to : ℕ) (rest : List Unsaved) → from < to → spans_from from to rest ≡ spans_on from to rest
spans_some from to rest h = let e : nat_lt from to ≡ true = grind (arith, common_steps, h) in rw e refl

spans_none : (from to : ℕ) (rest : List Unsaved) → to ≤ from → spans_from from to rest ≡ spans_of rest
spans_none from to rest h = let e : nat_lt from to ≡ false = grind (arith, common_steps, h) in rw e refl

-- the span before goes on
pub joined_on : (from to end : ℕ) (s : Stretch) (spans : List Span) (rest : List Unsaved) → is_stretch s ≡ true
    → from ≤ to → s.from ≡ to → end ≡ s.from + length s.bytes
    → spans ++ spans_from from end rest ≡ spans ++ spans_from from to (bytes_of s ++ rest)
joined_on from to end s spans rest k o e f =
    let some = some_of s k in
    ap (λ ys. spans ++ ys) (spans_some from end rest (omega (arith, o, e, f, some)) ∙ by_span)
  where
    by_span : spans_on from end rest ≡ spans_from from to (bytes_of s ++ rest)
    by_span =
        elim (leb_tells (suc from) to) as (λ _. spans_on from end rest ≡ spans_from from to (bytes_of s ++ rest)) [
          | inl (g, h) ↦ sym (spans_some from to (bytes_of s ++ rest) h
              ∙ ap (λ n. spans_on from n (bytes_of s ++ rest)) (sym e) ∙ run_on from s.from s.writer s.bytes rest
              ∙ ap (λ n. spans_on from n rest) (sym f))
          | inr (g, h) ↦
              let same : s.from ≡ from = omega (arith, o, e, h) in
              sym (spans_none from to (bytes_of s ++ rest) (omega (arith, h)) ∙ begun s rest k
              ∙ ap (λ n. spans_on n (s.from + length s.bytes) rest) same ∙ ap (λ n. spans_on from n rest) (sym f))
        ]

-- the span before is complete
pub joined_apart : (from to end : ℕ) (s : Stretch) (spans next : List Span) (rest : List Unsaved) → is_stretch s
    ≡ true → from < to → (s.from == to) ≡ false → end ≡ s.from + length s.bytes
    → next ≡ spans ++ span_between from to ∷ [] → next ++ spans_from s.from end rest ≡ spans ++ spans_from from to
    (bytes_of s ++ rest)
joined_apart from to end s spans next rest k o e f g =
    let some = some_of s k in
    ap (λ ys. ys ++ spans_from s.from end rest) g
    ∙ append_assoc spans (span_between from to ∷ []) (spans_from s.from end rest)
    ∙ ap (λ ys. spans ++ span_between from to ∷ ys) (spans_some s.from end rest (omega (arith, f, some)) ∙ ap
    (λ n. spans_on s.from n rest) f)
    ∙ ap (λ ys. spans ++ ys) (sym (spans_some from to (bytes_of s ++ rest) o ∙ apart from to s rest k e))

-- there is none before
pub joined_first : (from to end : ℕ) (s : Stretch) (spans : List Span) (rest : List Unsaved) → is_stretch s ≡ true
    → to ≤ from → end ≡ s.from + length s.bytes
    → spans ++ spans_from s.from end rest ≡ spans ++ spans_from from to (bytes_of s ++ rest)
joined_first from to end s spans rest k o f =
    let some = some_of s k in
    ap (λ ys. spans ++ ys) (spans_some s.from end rest (omega (arith, f, some)) ∙ ap (λ n. spans_on s.from n rest) f
    ∙ sym (spans_none from to (bytes_of s ++ rest) o ∙ begun s rest k))
