-- A list whose elements that pass a test are brought to the front, one by one.
use Rattle.std.proofs.Common.{◌≡◌, ◌<◌, ℕ, zero, suc, ◌+◌, ◌-◌, Bool, true, false, not, cond, List, []}
use Rattle.std.proofs.Common.{◌∷◌, ◌++◌, length, take, drop, get_or, refl}
use Rattle.std.proofs.Common.{sym, ap, ◌∙◌, subst, arith, append_assoc, append-nil}
use Rattle.std.specs.List.{filter}
use Rattle.std.proofs.lemmas.List.{length-take-le, get_or-append_right}
use Rattle.std.proofs.lemmas.List.Elements.{filter_more}
use Rattle.std.proofs.lemmas.List.Filters.{length-filter_both}
use borrow.Rule.Slice.PartMut.{put_mid}
use Rattle.host_cache.proofs.Lists.{drop_here, moved_front}

pub got : {X : Type 0} (xs : List X) (i : ℕ) (d e : X) → i < length xs → get_or xs i d ≡ get_or xs i e
got [] i d e lt = absurd (omega (arith, lt))
got (x ∷ xs) zero d e lt = refl
got (x ∷ xs) (suc i) d e lt = got xs i d e (omega (arith, lt))

module _ {X : Type 0} (p : X → Bool) (old cur : List X) (i front : ℕ) (x : X) (lt : i < length old)
    (is : cur ≡ filter p (take i old) ++ (filter (λ y. not (p y)) (take i old) ++ drop i old))
    (at : front ≡ length (filter p (take i old))) (here : x ≡ get_or cur i x) where
  abbrev f : List X
  f = filter p (take i old)

  abbrev n : List X
  n = filter (λ y. not (p y)) (take i old)

  abbrev y : X
  y = get_or old i x

  abbrev rest : List X
  rest = drop (suc i) old

  cut : cur ≡ f ++ (n ++ y ∷ rest)
  cut = is ∙ ap (λ l. f ++ (n ++ l)) (drop_here old i y lt (got old i x y lt))

  many : length f + length n ≡ i
  many = length-filter_both p (λ z. not (p z)) (λ z. refl) (take i old) ∙ length-take-le i old (omega (arith, lt))

  same : x ≡ y
  same =
      let size = many in
      let z : i - length f - length n ≡ 0 = omega (arith, size) in
      here ∙ ap (λ l. get_or l i x) cut
      ∙ get_or-append_right f (n ++ y ∷ rest) (length f) i x refl (omega (arith, size))
      ∙ get_or-append_right n (y ∷ rest) (length n) (i - length f) x refl (omega (arith, size))
      ∙ ap (λ (k : ℕ). get_or (y ∷ rest) k x) z

  more : suc i ≡ i + 1
  more = omega arith

  pub step_yes : p x ≡ true → (m : ℕ) (new : List X) → m ≡ suc i - front →
      new ≡ drop (length (take m (drop front cur)) - 1) (take m (drop front cur))
      ++ take (length (take m (drop front cur)) - 1) (take m (drop front cur)) →
      (put_mid front m cur new ≡ filter p (take (i + 1) old)
      ++ (filter (λ z. not (p z)) (take (i + 1) old) ++ drop (i + 1) old))
      × (front + 1 ≡ length (filter p (take (i + 1) old)))
  step_yes h m new count turned =
      let passes : p y ≡ true = sym (ap p same) ∙ h in
      let fs : filter p (take (i + 1) old) ≡ f ++ y ∷ [] =
      filter_more p old i x lt ∙ ap (λ b. f ++ cond b (y ∷ []) []) passes in
      let ns : filter (λ z. not (p z)) (take (i + 1) old) ≡ n =
      filter_more (λ z. not (p z)) old i x lt ∙ ap (λ b. n ++ cond (not b) (y ∷ []) []) passes ∙ append-nil n in
      let size = many in
      let moved = subst (λ l. new ≡ drop (length (take m (drop front l)) - 1) (take m (drop front l))
      ++ take (length (take m (drop front l)) - 1) (take m (drop front l)) → put_mid front m l new
      ≡ f ++ (y ∷ (n ++ rest)))
      (sym cut) (moved_at m new (omega (arith, count, at, size))) turned in
      let long = ap (λ (l : List X). length l) fs in (
        moved ∙ sym (append_assoc f (y ∷ []) (n ++ rest)) ∙ (λ k. sym fs k ++ (sym ns k ++ drop (more k) old)),
        omega (arith, at, long, longer),
      )
    where
      longer : length (f ++ y ∷ []) ≡ length f + 1
      longer = one_more f
        where
          one_more : (l : List X) → length (l ++ y ∷ []) ≡ length l + 1
          one_more [] = refl
          one_more (z ∷ l) = let k = one_more l in omega (arith, k)

      moved_at : (m : ℕ) (new : List X) → m ≡ suc (length n) →
          new ≡ drop (length (take m (drop front (f ++ (n ++ y ∷ rest)))) - 1) (take m (drop front (f ++ (n ++ y ∷
          rest))))
          ++ take (length (take m (drop front (f ++ (n ++ y ∷ rest)))) - 1) (take m (drop front (f ++ (n ++ y ∷
          rest)))) →
          put_mid front m (f ++ (n ++ y ∷ rest)) new ≡ f ++ (y ∷ (n ++ rest))
      moved_at m new size turned =
          let whole = f ++ (n ++ y ∷ rest) in
          let e : take m (drop front whole) ≡ take (suc (length n)) (drop (length f) whole) =
          λ k. take (size k) (drop (at k) whole) in
          moved_front f n rest y front m new at size
          (turned ∙ (λ k. drop (length (e k) - 1) (e k) ++ take (length (e k) - 1) (e k)))

  pub step_no : p x ≡ false →
      (cur ≡ filter p (take (i + 1) old) ++ (filter (λ z. not (p z)) (take (i + 1) old) ++ drop (i + 1) old))
      × (front ≡ length (filter p (take (i + 1) old)))
  step_no h =
      let fails : p y ≡ false = sym (ap p same) ∙ h in
      let fs : filter p (take (i + 1) old) ≡ f =
      filter_more p old i x lt ∙ ap (λ b. f ++ cond b (y ∷ []) []) fails ∙ append-nil f in
      let ns : filter (λ z. not (p z)) (take (i + 1) old) ≡ n ++ y ∷ [] =
      filter_more (λ z. not (p z)) old i x lt ∙ ap (λ b. n ++ cond (not b) (y ∷ []) []) fails in (
        cut ∙ ap (λ l. f ++ l) (sym (append_assoc n (y ∷ []) rest))
            ∙ (λ k. sym fs k ++ (sym ns k ++ drop (more k) old)),
        at ∙ ap (λ (l : List X). length l) (sym fs),
      )
