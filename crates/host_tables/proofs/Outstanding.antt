-- Which give-back of a fileset is outstanding: the one with the least number.
use Rattle.base_types.specs.declared.ids.FilesetId.{FilesetId}
use Rattle.host_gives.specs.Counters.{last_of}
use Rattle.host_gives.specs.Giving.{Giving, IsSound, Rise, give_of, given_in, is_of, number_of, of_fileset}
use Rattle.host_gives.specs.Giving.{outstanding}
use Rattle.host_tables.proofs.Lists.{filter_in, map_in, true_false}
use Rattle.host_tables.specs.Saying.{IsFirst}
use Rattle.message_types.specs.declared.giving.Give.{Give}
use Rattle.message_types.specs.declared.message.Body.{Body}
use Rattle.message_types.specs.declared.message.Body.TheVariants.{GiveBack}
use Rattle.message_types.specs.declared.message.Message.{Message}
use Rattle.run_rules.specs.Past.{In}
use Rattle.std.proofs.Common.{Bool, List, None, Option, Some, [], ap, arith, cond, eq-eqb, eqb-true, false, inl, inr}
use Rattle.std.proofs.Common.{is_some, map, refl, subst, suc, sym, true, ℕ, ◌<◌, ◌==◌, ◌∙◌, ◌∷◌, ◌≡◌, ◌⊎◌}
use Rattle.std.specs.List.{find}
use Rattle.std.specs.Option.{option_map_or}
use Rattle.std.specs.Prelude.{All, IsTrue}

rise_above : (low last : ℕ) (xs : List ℕ) → Rise low last xs → (n : ℕ) → In n xs → low < n
rise_above low last [] r n i = elim i [ ]
rise_above low last (x ∷ xs) r n (inl e) = let a = r.0 in omega (arith, a, e)
rise_above low last (x ∷ xs) r n (inr i) =
    let a = r.0 in let b = rise_above x last xs r.1 n i in omega (arith, a, b)

-- the first of a fileset is any other one of it, or has a lower number
module _ (fs : FilesetId) where
  first_or : (low last : ℕ) (xs : List Message) → Rise low last (map number_of (of_fileset fs xs)) → (y z : Message)
      → find (is_of fs) xs ≡ Some y → In z xs → is_of fs z ≡ true → (y ≡ z) ⊎ (number_of y < number_of z)
  first_or low last [] r y z e i t = elim i [ ]
  first_or low last (x ∷ xs) r y z e i t =
      by_head (λ rise found k. first_or low last xs rise y z found k t) (is_of fs x) refl r e i
    where
      by_head : (Rise low last (map number_of (of_fileset fs xs)) → find (is_of fs) xs ≡ Some y → In z xs
          → (y ≡ z) ⊎ (number_of y < number_of z)) → (b : Bool) → is_of fs x ≡ b
          → Rise low last (map number_of (cond b (x ∷ of_fileset fs xs) (of_fileset fs xs)))
          → cond b (Some x) (find (is_of fs) xs) ≡ Some y → (z ≡ x) ⊎ In z xs → (y ≡ z) ⊎ (number_of y < number_of z)
      by_head rest true k rise found (inl p) = inl (let q : x ≡ y = cc in sym q ∙ sym p)
      by_head rest true k rise found (inr j) =
          let q : x ≡ y = cc in
          let l = rise_above (number_of x) last (map number_of (of_fileset fs xs)) rise.1 (number_of z)
          (map_in number_of (of_fileset fs xs) z (filter_in (is_of fs) xs z j t)) in
          inr (subst (λ (w : Message). number_of w < number_of z) q l)
      by_head rest false k rise found (inl p) =
          absurd (true_false (is_of fs z) t (subst (λ (w : Message). is_of fs w ≡ false) (sym p) k))
      by_head rest false k rise found (inr j) = rest rise found j

pub found_in : {A : Type 0} (test : A → Bool) (xs : List A) (y : A) → find test xs ≡ Some y → In y xs × (test y ≡ true)
found_in test [] y e = absurd (cc)
found_in test (x ∷ xs) y e = by_head (found_in test xs y) (test x) refl e
  where
    by_head : (find test xs ≡ Some y → In y xs × (test y ≡ true)) → (b : Bool) → test x ≡ b
        → cond b (Some x) (find test xs) ≡ Some y → In y (x ∷ xs) × (test y ≡ true)
    by_head rest true k f = let q : x ≡ y = cc in (inl (sym q), ap test (sym q) ∙ k)
    by_head rest false k f = let r = rest f in (inr r.0, r.1)

pub found_some : {A : Type 0} (test : A → Bool) (xs : List A) (y : A) → In y xs → test y ≡ true
    → (z : A) × (find test xs ≡ Some z)
found_some test [] y i t = elim i [ ]
found_some {A = A} test (x ∷ xs) y i t = by_head (λ j. found_some test xs y j t) (test x) refl i
  where
    by_head : (In y xs → (z : A) × (find test xs ≡ Some z)) → (b : Bool) → test x ≡ b → In y (x ∷ xs)
        → (z : A) × (cond b (Some x) (find test xs) ≡ Some z)
    by_head rest true k j = (x, refl)
    by_head rest false k (inl p) = absurd (true_false (test y) t (ap test p ∙ k))
    by_head rest false k (inr j) = rest j

-- a message that gives back does so by its body
gives_by : (y : Message) → IsTrue (is_some (give_of y)) → (g : Give) × (y.body ≡ GiveBack g)
gives_by y t = by_body y.body refl t
  where
    by_body : (b : Body) → y.body ≡ b → IsTrue (is_some (given_in b)) → (g : Give) × (y.body ≡ GiveBack g)
    by_body (GiveBack g) e k = (g, e)
    by_body _ e k = absurd (cc)

give_is : (y : Message) (g : Give) → y.body ≡ GiveBack g → give_of y ≡ Some g
give_is y g e = ap given_in e

pub number_is : (y : Message) (g : Give) → y.body ≡ GiveBack g → number_of y ≡ g.number
number_is y g e = ap (λ (o : Option Give). option_map_or (λ (give : Give). give.number) o 0) (give_is y g e)

of_is : (y : Message) (g : Give) (fs : FilesetId) → y.body ≡ GiveBack g → is_of fs y ≡ (g.fid.fileset.0 == fs.0)
of_is y g fs e =
    ap (λ (o : Option Give). option_map_or (λ (give : Give). give.fid.fileset.0 == fs.0) o false) (give_is y g e)

pub all_in : {A : Type 0} (P : A → Type 0) (xs : List A) → All P xs → (x : A) → In x xs → P x
all_in P [] a x i = elim i [ ]
all_in P (y ∷ xs) a x (inl e) = subst P (sym e) (a 0 y (omega arith))
all_in P (y ∷ xs) a x (inr i) = all_in P xs (λ k d l. a (suc k) d (omega (arith, l))) x i

module _ (gives : Giving) (sound : IsSound gives) where
  give_in : (y : Message) → In y gives.gives → (g : Give) × (y.body ≡ GiveBack g)
  give_in y i = gives_by y (all_in (λ (z : Message). IsTrue (is_some (give_of z))) gives.gives sound.give_back y i)

  -- what is outstanding of a fileset is the first give-back of it
  pub outstanding_is : (fs : FilesetId) (y : Message) → outstanding gives fs ≡ Some y
      → (g : Give) × (y.body ≡ GiveBack g) × (g.fid.fileset ≡ fs) × IsFirst gives g
  outstanding_is fs y e =
      let f = found_in (is_of fs) gives.gives y e in
      let r = give_in y f.0 in
      let p = eqb-true r.0.fid.fileset.0 fs.0 (sym (of_is y r.0 fs r.1) ∙ f.1) in
      let same : r.0.fid.fileset ≡ fs = λ i. record { 0 = p i } in (
        r.0,
        r.1,
        same,
        record {
          message = y;
          within = f.0;
          body = r.1;
          least = λ other k i b at less.
              let t : is_of fs other ≡ true = of_is other k fs b
              ∙ eq-eqb k.fid.fileset.0 fs.0 (ap (λ (x : FilesetId). x.0) (at ∙ same)) in
              let mine = number_is y r.0 r.1 in
              let its = number_is other k b in
              elim (first_or fs 0 (last_of gives.counters fs) gives.gives (sound.rise fs) y other e i t) [
                | inl q ↦ (let z = ap number_of q in omega (arith, less, mine, its, z))
                | inr l ↦ omega (arith, less, mine, its, l)
              ];
        },
      )

  -- and the first one is outstanding
  pub first_outstanding : (g : Give) → IsFirst gives g
      → (y : Message) × (outstanding gives g.fid.fileset ≡ Some y) × (y.body ≡ GiveBack g)
  first_outstanding g first =
      let fs : FilesetId = g.fid.fileset in
      let t = of_is first.message g fs first.body ∙ eq-eqb fs.0 fs.0 refl in
      let s = found_some (is_of fs) gives.gives first.message first.within t in
      let within = (found_in (is_of fs) gives.gives s.0 s.1).0 in
      let r = outstanding_is fs s.0 s.1 in
      let mine = number_is first.message g first.body in
      let its = number_is s.0 r.0 r.1 in
      elim (first_or fs 0 (last_of gives.counters fs) gives.gives (sound.rise fs) s.0 first.message s.1 first.within
      t) [
        | inl q ↦ (s.0, s.1, subst (λ (z : Message). z.body ≡ GiveBack g) (sym q) first.body)
        | inr l ↦ absurd (first.least s.0 r.0 within r.1 r.2 (omega (arith, l, mine, its)))
      ]

  pub none_outstanding : (fs : FilesetId) → outstanding gives fs ≡ None → (g : Give) → IsFirst gives g
      → g.fid.fileset ≡ fs → ⊥
  none_outstanding fs e g first at =
      let r = first_outstanding g first in
      let q = sym (ap (outstanding gives) at) ∙ r.1 in
      let p = sym e ∙ q in absurd (cc)
