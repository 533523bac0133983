-- The entries of a log, and those of one seat.
use Rattle.std.proofs.Common.{◌≡◌, ◌≢◌, ◌⊎◌, ℕ, suc, ◌+◌, ◌<◌, ◌≤◌, ◌==◌, eqb, ltb, true, false, List, [], ◌∷◌, ◌++◌}
use Rattle.std.proofs.Common.{map, length, refl, sym, ap, ◌∙◌, subst, ⊎_elim, inl, inr, arith, append_assoc}
use Rattle.std.proofs.Common.{if◌then◌else◌}
use Rattle.std.proofs.lemmas.Bool.Decides.{eqb_tells, nat_tests}
use Rattle.std.proofs.lemmas.Bool.{lt-ltb}
use mathlib.Core.Logic.{dite}
use native.Mathlib.Decide.{dec_lt}
use Rattle.std.proofs.lemmas.List.{append-nil, map-append}
use Rattle.hub_cell.specs.Lists.{IsPrefix, AllBegin, longer, numbered, entries, inserted, merged}
use Rattle.hub_cell.specs.Lock.{owned}
use Rattle.hub_cell.specs.Passes.{AreFrom}

pub ltb_tells : (a b : ℕ) → ((ltb a b ≡ true) × (a < b)) ⊎ ((ltb a b ≡ false) × (b ≤ a))
ltb_tells a b = dite (dec_lt a b) (λ h. inl (lt-ltb a b h, h)) (λ n. inr (
  ltb_not a b n,
  (let m : ¬ (a < b) = n in
      omega arith),
))
  where
    ltb_not : (a b : ℕ) → ¬ (a < b) → ltb a b ≡ false
    ltb_not a b n = let h : b ≤ a = omega arith in grind (arith, nat_tests)

-- the owner of an entry once one seat has taken another's entries over
heir : (from to o : ℕ) → ((o ≡ from) × ((if o == from then to else o) ≡ to)) ⊎
    ((o ≢ from) × ((if o == from then to else o) ≡ o))
heir from to o = ⊎_elim
    (λ (t : (eqb o from ≡ true) × (o ≡ from)). inl (t.1, rw t.0 refl))
    (λ (t : (eqb o from ≡ false) × (o ≢ from)). inr (t.1, rw t.0 refl))
    (eqb_tells o from)

module _ {E : Type 0} where
  -- these entries, made through this seat
  abbrev pub tagged : ℕ → List E → List (ℕ × E)
  tagged seat es = map (λ e. (seat, e)) es

  pub entries-tagged : (seat : ℕ) (es : List E) → entries (tagged seat es) ≡ es
  entries-tagged seat [] = refl
  entries-tagged seat (e ∷ es) = ap (λ l. e ∷ l) (entries-tagged seat es)

  pub entries-more : (log : List (ℕ × E)) (seat : ℕ) (es : List E) → entries (log ++ tagged seat es) ≡ entries log ++ es
  entries-more log seat es = map-append (λ (x : ℕ × E). x.1) log (tagged seat es) ∙ ap (λ l. entries log ++ l)
      (entries-tagged seat es)

  pub owned-here : (x : ℕ × E) (xs : List (ℕ × E)) (seat place : ℕ) → x.0 ≡ seat → owned seat place (x ∷ xs) ≡ (
    place,
    x.1,
  ) ∷ owned seat (suc place) xs
  owned-here x xs seat place e = ⊎_elim
      (λ (t : (eqb x.0 seat ≡ true) × (x.0 ≡ seat)). rw t.0 refl)
      (λ (t : (eqb x.0 seat ≡ false) × (x.0 ≢ seat)). absurd (t.1 e))
      (eqb_tells x.0 seat)

  pub owned-else : (x : ℕ × E) (xs : List (ℕ × E)) (seat place : ℕ) → x.0 ≢ seat → owned seat place (x ∷ xs) ≡ owned
      seat (suc place) xs
  owned-else x xs seat place n = ⊎_elim
      (λ (t : (eqb x.0 seat ≡ true) × (x.0 ≡ seat)). absurd (n t.1))
      (λ (t : (eqb x.0 seat ≡ false) × (x.0 ≢ seat)). rw t.0 refl)
      (eqb_tells x.0 seat)

  pub owned-tagged : (seat place : ℕ) (es : List E) → owned seat place (tagged seat es) ≡ numbered place es
  owned-tagged seat place [] = refl
  owned-tagged seat place (e ∷ es) = owned-here (seat, e) (tagged seat es) seat place refl ∙ ap (λ l. (place, e) ∷ l)
      (owned-tagged seat (suc place) es)

  pub owned-tagged_else : (seat other place : ℕ) (es : List E) → other ≢ seat → owned seat place (tagged other es) ≡ []
  owned-tagged_else seat other place [] n = refl
  owned-tagged_else seat other place (e ∷ es) n = owned-else (other, e) (tagged other es) seat place n ∙
      owned-tagged_else seat other (suc place) es n

  pub owned-append : (seat place : ℕ) (xs ys : List (ℕ × E)) → owned seat place (xs ++ ys) ≡ owned seat place xs ++
      owned seat (place + length xs) ys
  owned-append seat place [] ys = ap (λ n. owned seat n ys) (omega arith)
  owned-append seat place (x ∷ xs) ys =
      let again = owned-append seat (suc place) xs ys ∙ ap (λ n. owned seat (suc place) xs ++ owned seat n ys)
      (let e : suc place + length xs ≡ place + suc (length xs) = omega arith in e) in
      ⊎_elim
      (λ (t : (eqb x.0 seat ≡ true) × (x.0 ≡ seat)). rw t.0 (ap (λ l. (place, x.1) ∷ l) again))
      (λ (t : (eqb x.0 seat ≡ false) × (x.0 ≢ seat)). rw t.0 again)
      (eqb_tells x.0 seat)

  -- what a seat owns once it has added entries
  pub owned-more : (seat : ℕ) (log : List (ℕ × E)) (es : List E) → owned seat 0 (log ++ tagged seat es) ≡ owned seat 0
      log ++ numbered (length log) es
  owned-more seat log es = owned-append seat 0 log (tagged seat es) ∙ ap (λ l. owned seat 0 log ++ l)
      (owned-tagged seat (0 + length log) es ∙ ap (λ n. numbered n es) (omega arith))

  pub owned-same : (seat other : ℕ) (log : List (ℕ × E)) (es : List E) → other ≢ seat →
      owned seat 0 (log ++ tagged other es) ≡ owned seat 0 log
  owned-same seat other log es n = owned-append seat 0 log (tagged other es) ∙ ap (λ l. owned seat 0 log ++ l)
      (owned-tagged_else seat other (0 + length log) es n) ∙ append-nil (owned seat 0 log)

  pub prefix_more : (xs ys more : List E) → IsPrefix xs ys → IsPrefix xs (ys ++ more)
  prefix_more xs ys more p = (p.0 ++ more, ap (λ l. l ++ more) p.1 ∙ append_assoc xs p.0 more)

  pub prefix_along : (xs xs' ys ys' : List E) → xs ≡ xs' → ys ≡ ys' → IsPrefix xs ys → IsPrefix xs' ys'
  prefix_along xs xs' ys ys' e f p = (p.0, sym f ∙ p.1 ∙ ap (λ l. l ++ p.0) e)

  pub all_begin_more : (fronts : List (List E)) (all more : List E) → AllBegin fronts all → AllBegin fronts (all ++
      more)
  all_begin_more [] all more h = tt
  all_begin_more (front ∷ fronts) all more h = (prefix_more front all more h.0, all_begin_more fronts all more h.1)

  pub length-entries : (log : List (ℕ × E)) → length (entries log) ≡ length log
  length-entries [] = refl
  length-entries (x ∷ xs) = ap suc (length-entries xs)

  pub length-numbered : (place : ℕ) (es : List E) → length (numbered place es) ≡ length es
  length-numbered place [] = refl
  length-numbered place (e ∷ es) = ap suc (length-numbered (suc place) es)

  pub length-tagged : (seat : ℕ) (es : List E) → length (tagged seat es) ≡ length es
  length-tagged seat [] = refl
  length-tagged seat (e ∷ es) = ap suc (length-tagged seat es)

  -- the log, where one seat has taken another's entries over
  abbrev pub renamed : ℕ → ℕ → List (ℕ × E) → List (ℕ × E)
  renamed from to [] = []
  renamed from to (x ∷ xs) = ((if x.0 == from then to else x.0), x.1) ∷ renamed from to xs

  pub entries-renamed : (from to : ℕ) (log : List (ℕ × E)) → entries (renamed from to log) ≡ entries log
  entries-renamed from to [] = refl
  entries-renamed from to (x ∷ xs) = ap (λ l. x.1 ∷ l) (entries-renamed from to xs)

  pub length-renamed : (from to : ℕ) (log : List (ℕ × E)) → length (renamed from to log) ≡ length log
  length-renamed from to [] = refl
  length-renamed from to (x ∷ xs) = ap suc (length-renamed from to xs)

  pub owned-renamed_from : (from to place : ℕ) (log : List (ℕ × E)) → to ≢ from → owned from place (renamed from to log)
      ≡ []
  owned-renamed_from from to place [] apart = refl
  owned-renamed_from from to place (x ∷ xs) apart =
      let again = owned-renamed_from from to (suc place) xs apart in
      let o : ℕ = (if x.0 == from then to else x.0) in
      let other : o ≢ from = ⊎_elim (λ (t : (x.0 ≡ from) × (o ≡ to)). λ (e : o ≡ from). apart (sym t.1 ∙ e))
      (λ (t : (x.0 ≢ from) × (o ≡ x.0)). λ (e : o ≡ from). t.0 (sym t.1 ∙ e)) (heir from to x.0) in
      owned-else (o, x.1) (renamed from to xs) from place other ∙ again

  pub owned-renamed_else : (from to seat place : ℕ) (log : List (ℕ × E)) → seat ≢ from → seat ≢ to →
      owned seat place (renamed from to log) ≡ owned seat place log
  owned-renamed_else from to seat place [] apart apart' = refl
  owned-renamed_else from to seat place (x ∷ xs) apart apart' =
      let again = owned-renamed_else from to seat (suc place) xs apart apart' in
      let o : ℕ = (if x.0 == from then to else x.0) in
      ⊎_elim
      (λ (t : (x.0 ≡ from) × (o ≡ to)). owned-else (o, x.1) (renamed from to xs) seat place (λ e.
      apart' (sym (sym t.1 ∙ e))) ∙ again ∙ sym (owned-else x xs seat place (λ e. apart (sym (sym t.0 ∙ e)))))
      (λ (t : (x.0 ≢ from) × (o ≡ x.0)). ap (λ n. owned seat place ((n, x.1) ∷ renamed from to xs)) t.1 ∙
      kept x xs (renamed from to xs) seat place again)
      (heir from to x.0)
    where
      kept : (x : ℕ × E) (xs ys : List (ℕ × E)) (seat place : ℕ) → owned seat (suc place) ys ≡ owned seat (suc place)
          xs → owned seat place (x ∷ ys) ≡ owned seat place (x ∷ xs)
      kept x xs ys seat place e = ⊎_elim
          (λ (t : (eqb x.0 seat ≡ true) × (x.0 ≡ seat)). owned-here x ys seat place t.1 ∙ ap (λ l. (place, x.1) ∷ l) e ∙
          sym (owned-here x xs seat place t.1))
          (λ (t : (eqb x.0 seat ≡ false) × (x.0 ≢ seat)). owned-else x ys seat place t.1 ∙ e ∙
          sym (owned-else x xs seat place t.1))
          (eqb_tells x.0 seat)

  pub from_later : (place later : ℕ) (xs : List (ℕ × E)) → place ≤ later → AreFrom later xs → AreFrom place xs
  from_later place later [] le h = tt
  from_later place later (x ∷ xs) le h = ((let a = h.0 in omega arith), from_later place later xs le h.1)

  pub owned_from : (seat place : ℕ) (log : List (ℕ × E)) → AreFrom place (owned seat place log)
  owned_from seat place [] = tt
  owned_from seat place (x ∷ xs) =
      let again = from_later place (suc place) (owned seat (suc place) xs) (omega arith)
      (owned_from seat (suc place) xs) in
      ⊎_elim
      (λ (t : (eqb x.0 seat ≡ true) × (x.0 ≡ seat)). subst (AreFrom place) (sym (owned-here x xs seat place t.1))
      ((let a : place ≤ place = omega arith in a), again))
      (λ (t : (eqb x.0 seat ≡ false) × (x.0 ≢ seat)). subst (AreFrom place) (sym (owned-else x xs seat place t.1))
      again)
      (eqb_tells x.0 seat)

  pub inserted-front : (x : ℕ × E) (ys : List (ℕ × E)) → AreFrom x.0 ys → inserted x ys ≡ x ∷ ys
  inserted-front x [] h = refl
  inserted-front x (y ∷ ys) h = let e : ltb y.0 x.0 ≡ false = (let a = h.0 in grind (arith, nat_tests)) in rw e refl

  pub inserted-behind : (x y : ℕ × E) (ys : List (ℕ × E)) → y.0 < x.0 → inserted x (y ∷ ys) ≡ y ∷ inserted x ys
  inserted-behind x y ys h = let e : ltb y.0 x.0 ≡ true = grind (arith, nat_tests) in rw e refl

  merged-front : (xs ys : List (ℕ × E)) (y : ℕ × E) → AreFrom (suc y.0) xs → merged xs (y ∷ ys) ≡ y ∷ merged xs ys
  merged-front [] ys y h = refl
  merged-front (x ∷ xs) ys y h = ap (inserted x) (merged-front xs ys y h.1) ∙ inserted-behind x y (merged xs ys)
      (let a = h.0 in omega arith)

  pub owned-renamed_to : (from to place : ℕ) (log : List (ℕ × E)) → to ≢ from → owned to place (renamed from to log)
      ≡ merged (owned from place log) (owned to place log)
  owned-renamed_to from to place [] apart = refl
  owned-renamed_to from to place (x ∷ xs) apart =
      let again = owned-renamed_to from to (suc place) xs apart in
      let o : ℕ = (if x.0 == from then to else x.0) in
      let rest = renamed from to xs in
      ⊎_elim
      (λ (t : (x.0 ≡ from) × (o ≡ to)).
      let left = owned-here (o, x.1) rest to place t.1 ∙ ap (λ l. (place, x.1) ∷ l) again in
      let later = from_later place (suc place) _ (omega arith)
      (subst (AreFrom (suc place)) again (owned_from to (suc place) rest)) in
      left ∙ sym (inserted-front (place, x.1) (merged (owned from (suc place) xs) (owned to (suc place) xs)) later)
      ∙ (λ i. merged (sym (owned-here x xs from place t.0) i) (sym (owned-else x xs to place (λ e. apart (sym e ∙ t.0)))
      i)))
      (λ (t : (x.0 ≢ from) × (o ≡ x.0)). elsewhere x xs rest from to place o apart t.0 t.1 again)
      (heir from to x.0)
    where
      elsewhere : (x : ℕ × E) (xs rest : List (ℕ × E)) (from to place o : ℕ) → to ≢ from → x.0 ≢ from → o ≡ x.0 →
          owned to (suc place) rest ≡ merged (owned from (suc place) xs) (owned to (suc place) xs)
          → owned to place ((o, x.1) ∷ rest) ≡ merged (owned from place (x ∷ xs)) (owned to place (x ∷ xs))
      elsewhere x xs rest from to place o apart other is again = ⊎_elim
          (λ (t : (eqb x.0 to ≡ true) × (x.0 ≡ to)).
          owned-here (o, x.1) rest to place (is ∙ t.1) ∙ ap (λ l. (place, x.1) ∷ l) again
          ∙ sym (merged-front (owned from (suc place) xs) (owned to (suc place) xs) (place, x.1)
          (owned_from from (suc place) xs))
          ∙ (λ i. merged (sym (owned-else x xs from place other) i) (sym (owned-here x xs to place t.1) i)))
          (λ (t : (eqb x.0 to ≡ false) × (x.0 ≢ to)).
          owned-else (o, x.1) rest to place (λ e. t.1 (sym is ∙ e)) ∙ again ∙
          (λ i. merged (sym (owned-else x xs from place other) i) (sym (owned-else x xs to place t.1) i)))
          (eqb_tells x.0 to)

  pub length-inserted : (x : ℕ × E) (ys : List (ℕ × E)) → length (inserted x ys) ≡ suc (length ys)
  length-inserted x [] = refl
  length-inserted x (y ∷ ys) = ⊎_elim
      (λ (t : (ltb y.0 x.0 ≡ true) × (y.0 < x.0)). rw t.0 (ap suc (length-inserted x ys)))
      (λ (t : (ltb y.0 x.0 ≡ false) × (x.0 ≤ y.0)). rw t.0 refl)
      (ltb_tells y.0 x.0)

  pub length-merged : (xs ys : List (ℕ × E)) → length (merged xs ys) ≡ length xs + length ys
  length-merged [] ys = omega arith
  length-merged (x ∷ xs) ys = let a = length-inserted x (merged xs ys) in let b = length-merged xs ys in omega arith

  -- a seat that owns as many entries as the log has owns the whole log
  pub owned_most : (seat place : ℕ) (log : List (ℕ × E)) → length (owned seat place log) ≤ length log
  owned_most seat place [] = omega arith
  owned_most seat place (x ∷ xs) =
      let again = owned_most seat (suc place) xs in
      ⊎_elim
      (λ (t : (eqb x.0 seat ≡ true) × (x.0 ≡ seat)). let l = ap length (owned-here x xs seat place t.1) in omega arith)
      (λ (t : (eqb x.0 seat ≡ false) × (x.0 ≢ seat)). let l = ap length (owned-else x xs seat place t.1) in omega arith)
      (eqb_tells x.0 seat)

  pub owned_whole : (seat place : ℕ) (log : List (ℕ × E)) → length (owned seat place log) ≡ length log →
      owned seat place log ≡ numbered place (entries log)
  owned_whole seat place [] e = refl
  owned_whole seat place (x ∷ xs) e = ⊎_elim
      (λ (t : (eqb x.0 seat ≡ true) × (x.0 ≡ seat)).
      let h = owned-here x xs seat place t.1 in
      let l = ap length h in
      h ∙ ap (λ l. (place, x.1) ∷ l) (owned_whole seat (suc place) xs (omega arith)))
      (λ (t : (eqb x.0 seat ≡ false) × (x.0 ≢ seat)). let l = ap length (owned-else x xs seat place t.1) in
      let m = owned_most seat (suc place) xs in absurd (omega arith))
      (eqb_tells x.0 seat)

  pub entries-numbered : (place : ℕ) (es : List E) → entries (numbered place es) ≡ es
  entries-numbered place [] = refl
  entries-numbered place (e ∷ es) = ap (λ l. e ∷ l) (entries-numbered (suc place) es)

  pub longer_prefix : (xs ys all : List E) → IsPrefix xs all → IsPrefix ys all → IsPrefix (longer xs ys) all
  longer_prefix xs ys all p q = ⊎_elim
      (λ (t : (ltb (length xs) (length ys) ≡ true) × (length xs < length ys)). rw t.0 q)
      (λ (t : (ltb (length xs) (length ys) ≡ false) × (length ys ≤ length xs)). rw t.0 p)
      (ltb_tells (length xs) (length ys))

-- a fact of two values, at equal ones
pub fits_along : {X : Type 0} (R : X → X → Type 0) (a a' b b' : X) → a ≡ a' → b ≡ b' → R a b → R a' b'
fits_along R a a' b b' e f h = subst (λ x. R x b') e (subst (R a) f h)
