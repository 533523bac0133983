-- What a host's machine is asked, of lists.
use Rattle.host_cache.specs.Holding.{tokens_of}
use Rattle.host_labels.specs.declared.uses.Labelled.{Labelled as UseOf}
use Rattle.host_manager.specs.Closing.{first_end}
use Rattle.run_rules.specs.Past.{In}
use Rattle.std.proofs.Common.{Err, IfOk, None, Ok, Result, Some, ap, eqb-true, if◌then◌else◌, ◌==◌}
use Rattle.std.specs.Prelude.{IsOk, OnOk}
use Rattle.host_cache.specs.declared.held.Held.{Held}
use Rattle.host_manager.specs.Closing.{MayEnd, awaits_bye, is_to_part}
use Rattle.host_tables.proofs.Lists.{any_in, by_test, false_not, in_any, not_true, true_false, true_not}
use Rattle.host_tables.specs.Machine.{IsParted}
use Rattle.host_tables.specs.declared.sites.Site.{Site}
use Rattle.host_tables.specs.declared.tables.Tables.{Tables}
use Rattle.std.proofs.Common.{Bool, List, [], arith, false, inl, inr, length, not, refl, subst, sym, true, ◌&&◌, ◌<◌}
use Rattle.std.proofs.Common.{◌↔◌}
use Rattle.std.proofs.Common.{◌∙◌, ◌∷◌, ◌≡◌}
use Rattle.std.proofs.lemmas.Bool.{and_from, and_parts}
use Rattle.std.specs.List.{find, list_any}
use Rattle.std.specs.Prelude.{IsTrue, ◌≢◌}

-- each greeted server has said Bye
pub parted_is : (sites : List Site) (b : Bool) → b ≡ list_any awaits_bye sites → IsTrue (not b) ↔ IsParted sites
parted_is sites b is = (
  (λ e site i g. elim (by_test site.has_bye) [
    | inl y ↦ y
    | inr n ↦ absurd (not_true b e (is ∙ any_in awaits_bye sites site i (and_from site.greeted (not site.has_bye) g
        (false_not site.has_bye n))))
  ]),
  λ all. true_not b (λ t.
      let r = in_any awaits_bye sites (sym is ∙ t) in
      let p = and_parts r.0.greeted (not r.0.has_bye) r.2 in
      not_true r.0.has_bye p.1 (all r.0 r.1 p.0)),
)

-- whether the end has a step to make
pub some_held : (m : Tables) → 0 < length m.cache.held → MayEnd m
some_held m some = inl (λ e. by_list m.cache.held some e)
  where
    by_list : (xs : List Held) → 0 < length xs → xs ≡ [] → ⊥
    by_list [] l e = absurd (omega (arith, l))
    by_list (x ∷ xs) l e = let p = e in absurd (cc)

pub none_held : (xs : List Held) → (0 < length xs → ⊥) → xs ≡ []
none_held [] n = refl
none_held (x ∷ xs) n = absurd (n (omega arith))

pub may_end_is : (m : Tables) (empty : Bool) → m.cache.held ≡ [] → (IsTrue empty ↔ (m.gives.gives ≡ []))
    → IsTrue (empty && list_any is_to_part m.sites) ↔ MayEnd m
may_end_is m empty held none = (
  (λ e.
      let p = and_parts empty (list_any is_to_part m.sites) e in
      let r = in_any is_to_part m.sites p.1 in inr (none.0 p.0, (r.0, r.1, r.2))),
  (λ may. elim may [
    | inl some ↦ absurd (some held)
    | inr r ↦
        let a : empty ≡ true = none.1 r.0 in
        let b : list_any is_to_part m.sites ≡ true = any_in is_to_part m.sites r.1.0 r.1.1 r.1.2 in (λ k. a k && b k)
  ]),
)

-- # The next step of the end
pub some_by : {A : Type 0} (xs : List A) → false ≡ (length xs == 0) → xs ≢ []
some_by [] n e = absurd (let p = n in cc)
some_by (x ∷ xs) n e = let p = e in absurd (cc)

pub none_by : {A : Type 0} (xs : List A) → true ≡ (length xs == 0) → xs ≡ []
none_by [] n = refl
none_by (x ∷ xs) n = absurd (omega (arith, eqb-true (length (x ∷ xs)) 0 (sym n)))

pub none_first : (us : List UseOf) → first_end us ≡ None → us ≡ []
none_first [] e = refl
none_first (u ∷ us) e = absurd (cc)

pub none_kept : (held : List Held) → tokens_of held ≡ [] → held ≡ []
none_kept [] e = refl
none_kept (h ∷ held) e = absurd (cc)

pub if_both : {A E : Type 0} (r : Result A E) (P Q : Type 0) (R S : A → Type 0) → OnOk r P → OnOk r Q → IfOk r R
    → ((a : A) → P → Q → R a → S a) → IfOk r S
if_both (Ok a) P Q R S p q h f = f a p q h
if_both (Err e) P Q R S p q h f = tt

-- a step, where all that it does was done
pub when_so : {A B E : Type 0} (done : Result B E) (result : Result A E) (step : A) (P : Type 0) (Q : A → Type 0)
    → OnOk done P → OnOk result (IsOk done) → IfOk result (λ made. made ≡ step) → (P → Q step) → IfOk result Q
when_so done (Err e) step P Q p ok is f = tt
when_so (Err e) (Ok a) step P Q p ok is f = absurd (let z = ok in cc)
when_so (Ok b) (Ok a) step P Q p ok is f = subst Q (sym is) (f p)

-- what is found nowhere is nowhere
pub none_found : {A : Type 0} (test : A → Bool) (xs : List A) → find test xs ≡ None → (x : A) → In x xs
    → test x ≡ true → ⊥
none_found test [] e x i t = elim i [ ]
none_found {A = A} test (y ∷ xs) e x i t = by_head (λ f j. none_found test xs f x j t) (test y) refl e i
  where
    by_head : (find test xs ≡ None → In x xs → ⊥) → (b : Bool) → test y ≡ b
        → (if b then Some y else find test xs) ≡ None → In x (y ∷ xs) → ⊥
    by_head rest true q f j = absurd (cc)
    by_head rest false q f (inl p) = true_false (test x) t (ap test p ∙ q)
    by_head rest false q f (inr j) = rest f j
