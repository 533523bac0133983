-- Which tokens of a claim are granted again, and what is answered to claims.
use Rattle.std.proofs.Common.{◌≡◌, ◌<◌, ◌≤◌, ◌==◌, suc, Bool, true, false, ◌&&◌, not, List, [], ◌∷◌, ◌++◌}
use Rattle.std.proofs.Common.{length}
use Rattle.std.proofs.Common.{Some, if◌then◌else◌, inl, inr, refl, sym, ◌∙◌, ap, subst, arith, eq-eqb}
use Rattle.std.specs.Prelude.{All, ◌||◌, nat_lt}
use Rattle.std.specs.List.{filter, list_all}
use Rattle.std.proofs.lemmas.List.Elements.{All-cons, All-nil}
use Rattle.std.proofs.lemmas.Bool.{and_parts, eqb-true, false≢true, ltb-true}
use Rattle.base_types.specs.declared.ids.HostId.{HostId}
use Rattle.message_types.specs.declared.giving.Reclaimed.{Reclaimed as ReclaimedOf}
use Rattle.run_rules.specs.Past.{EachOnce, In}
use Rattle.run_rules.specs.declared.applied.Admission.{Admission}
use Rattle.server_tables.specs.Judging.{first_ripe, has_all}
use Rattle.server_tables.specs.declared.recovering.Claimed.{Claimed}
use Rattle.server_tables.specs.declared.tables.Tables.{Tables}
use Rattle.server_tables.proofs.Granting.{id_is}
use Rattle.server_tables.proofs.Greeting.{in_end, in_front, in_parts}
use Rattle.server_tables.proofs.Judged.{AreClaimed, found_first}
use Rattle.server_tables.proofs.Settling.{any_in, in_any}
use Rattle.token_manager.proofs.Noting.{same_self}
use Rattle.token_manager.specs.Grants.{CanClaim, is_earlier}
use Rattle.token_table.specs.Tables.{has_id}
use Rattle.token_types.specs.Conflicts.{same_id}
use Rattle.token_types.specs.declared.token.Token.{Token}
use Rattle.token_types.specs.declared.token.TokenId.{TokenId}
use Rattle.server_takes.specs.declared.draft.Draft.{Draft}
use Rattle.server_says.specs.Claiming.{AddsAnswer, AreAnswers, IsAdded, IsAdmissionOf, IsAdmitted, answer_of}
use Rattle.server_says.specs.Claiming.{is_claimed, is_past_of, is_ripe, names_past, pick, picked, to_admit}

-- # Picked tokens

-- each has another number than those behind it
abbrev pub AreApart : List Token → Type 0
AreApart [] = Unit {0}
AreApart (t ∷ ts) = ((u : Token) → In u ts → u.id ≡ t.id → ⊥) × AreApart ts

apart_end : (xs : List Token) (t : Token) → AreApart xs → ((u : Token) → In u xs → u.id ≡ t.id → ⊥)
    → AreApart (xs ++ t ∷ [])
apart_end [] t a new = ((λ u i. elim i [ ]), tt)
apart_end (x ∷ xs) t a new = (
  λ u i e. elim (in_parts u xs (t ∷ []) i) [
    | inl j ↦ a.0 u j e
    | inr j ↦ new x (inl refl) (sym e ∙ elim j [ inl q ↦ ap (λ (w : Token). w.id) q | inr k ↦ elim k [ ] ])
  ],
  apart_end xs t a.1 (λ u i. new u (inr i)),
)

module _ (keeps : Token → Bool) where
  none_picked : AreClaimed keeps [] []
  none_picked = record { from = λ t i. elim i [ ]; all = λ t i. elim i [ ]; apart = λ t u i. elim i [ ] }

  one_is : (a b : Token) → In a (b ∷ []) → a ≡ b
  one_is a b (inl e) = e
  one_is a b (inr i) = elim i [ ]

  -- it is there by its number
  there : (so_far : List Token) (t : Token) → has_id so_far t.id ≡ true
      → (u : Token) × In u so_far × (u.id ≡ t.id)
  there so_far t e = let f = any_in (λ token. same_id token.id t.id) so_far e in (f.0, f.1, id_is f.0.id t.id f.2)

  absent : (so_far : List Token) (t u : Token) → has_id so_far t.id ≡ false → In u so_far → u.id ≡ t.id → ⊥
  absent so_far t u e i q = false≢true (sym e ∙ in_any (λ token. same_id token.id t.id) u so_far i
      (subst (λ (j : TokenId). same_id u.id j ≡ true) q (same_self u.id)))

  -- nothing is picked more
  kept_one : (looked so_far : List Token) (t : Token) → AreClaimed keeps looked so_far
      → (keeps t ≡ true → (u : Token) × In u so_far × (u.id ≡ t.id)) → AreClaimed keeps (looked ++ t ∷ []) so_far
  kept_one looked so_far t c has = record {
    from = λ u i. (let f = c.from u i in (in_front u looked (t ∷ []) f.0, f.1));
    all = λ u i e. elim (in_parts u looked (t ∷ []) i) [
      | inl j ↦ c.all u j e
      | inr j ↦ (let q = one_is u t j in
          let h = has (subst (λ (w : Token). keeps w ≡ true) q e) in
          (h.0, h.1, h.2 ∙ ap (λ (w : Token). w.id) (sym q)))
    ];
    apart = c.apart;
  }

  -- it is
  put_one : (looked so_far : List Token) (t : Token) → AreClaimed keeps looked so_far → keeps t ≡ true
      → has_id so_far t.id ≡ false → AreClaimed keeps (looked ++ t ∷ []) (so_far ++ t ∷ [])
  put_one looked so_far t c k new = record {
    from = λ u i. elim (in_parts u so_far (t ∷ []) i) [
      | inl j ↦ (let f = c.from u j in (in_front u looked (t ∷ []) f.0, f.1))
      | inr j ↦ (let q = one_is u t j in (
        subst (λ (w : Token). In w (looked ++ t ∷ [])) (sym q) (in_end t looked),
        subst (λ (w : Token). keeps w ≡ true) (sym q) k,
      ))
    ];
    all = λ u i e. elim (in_parts u looked (t ∷ []) i) [
      | inl j ↦ (let h = c.all u j e in (h.0, in_front h.0 so_far (t ∷ []) h.1, h.2))
      | inr j ↦ (t, in_end t so_far, ap (λ (w : Token). w.id) (sym (one_is u t j)))
    ];
    apart = λ u v i j e. elim (in_parts u so_far (t ∷ []) i) [
      | inl m ↦ elim (in_parts v so_far (t ∷ []) j) [
        | inl n ↦ c.apart u v m n e
        | inr n ↦ absurd (absent so_far t u new m (e ∙ ap (λ (w : Token). w.id) (one_is v t n)))
      ]
      | inr m ↦ elim (in_parts v so_far (t ∷ []) j) [
        | inl n ↦ absurd (absent so_far t v new n (sym e ∙ ap (λ (w : Token). w.id) (one_is u t m)))
        | inr n ↦ one_is u t m ∙ sym (one_is v t n)
      ]
    ];
  }

  pick_is : (so_far : List Token) (t : Token) → pick keeps so_far t
      ≡ (if keeps t && not (has_id so_far t.id) then so_far ++ t ∷ [] else so_far)
  unfolding pick
  pick_is so_far t = refl

  pick_one : (looked so_far : List Token) (t : Token) → AreClaimed keeps looked so_far
      → AreClaimed keeps (looked ++ t ∷ []) (pick keeps so_far t)
  pick_one looked so_far t c = subst (AreClaimed keeps (looked ++ t ∷ [])) (sym (pick_is so_far t))
      (by (keeps t) refl (has_id so_far t.id) refl)
    where
      by : (b : Bool) → keeps t ≡ b → (d : Bool) → has_id so_far t.id ≡ d
          → AreClaimed keeps (looked ++ t ∷ []) (if b && not d then so_far ++ t ∷ [] else so_far)
      by true k true h = kept_one looked so_far t c (λ _. there so_far t h)
      by true k false h = put_one looked so_far t c k h
      by false k true h = kept_one looked so_far t c (λ e. absurd (false≢true (sym k ∙ e)))
      by false k false h = kept_one looked so_far t c (λ e. absurd (false≢true (sym k ∙ e)))

  -- and has another number than those before it
  apart_pick : (so_far : List Token) (t : Token) → AreApart so_far → AreApart (pick keeps so_far t)
  apart_pick so_far t a = subst AreApart (sym (pick_is so_far t)) (by (keeps t) (has_id so_far t.id) refl)
    where
      by : (b d : Bool) → has_id so_far t.id ≡ d → AreApart (if b && not d then so_far ++ t ∷ [] else so_far)
      by true true h = a
      by true false h = apart_end so_far t a (λ u i e. absent so_far t u h i e)
      by false true h = a
      by false false h = a

  apart_on : (so_far ts : List Token) → AreApart so_far → AreApart (picked keeps so_far ts)
  apart_on so_far [] a = a
  apart_on so_far (t ∷ ts) a = apart_on (pick keeps so_far t) ts (apart_pick so_far t a)

  pub picked_apart : (ts : List Token) → AreApart (picked keeps [] ts)
  picked_apart ts = apart_on [] ts tt

  one_more : (xs : List Token) (t : Token) (ys : List Token) → (xs ++ t ∷ []) ++ ys ≡ xs ++ t ∷ ys
  one_more [] t ys = refl
  one_more (x ∷ xs) t ys = ap (λ l. x ∷ l) (one_more xs t ys)

  none_more : (xs : List Token) → xs ++ [] ≡ xs
  none_more [] = refl
  none_more (x ∷ xs) = ap (λ l. x ∷ l) (none_more xs)

  picked_on : (looked so_far ts : List Token) → AreClaimed keeps looked so_far
      → AreClaimed keeps (looked ++ ts) (picked keeps so_far ts)
  picked_on looked so_far [] c = subst (λ l. AreClaimed keeps l so_far) (sym (none_more looked)) c
  picked_on looked so_far (t ∷ ts) c =
      subst (λ l. AreClaimed keeps l (picked keeps (pick keeps so_far t) ts)) (one_more looked t ts)
      (picked_on (looked ++ t ∷ []) (pick keeps so_far t) ts (pick_one looked so_far t c))

  -- the first of each number
  pub picked_are : (ts : List Token) → AreClaimed keeps ts (picked keeps [] ts)
  picked_are ts = picked_on [] [] ts none_picked

-- # They may be granted

all_in : {A : Type 0} (p : A → Bool) (xs : List A) → list_all p xs ≡ true → (x : A) → In x xs → p x ≡ true
all_in p [] e x i = elim i [ ]
all_in p (y ∷ ys) e x (inl q) = subst (λ z. p z ≡ true) (sym q) (and_parts (p y) (list_all p ys) e).0
all_in p (y ∷ ys) e x (inr i) = all_in p ys (and_parts (p y) (list_all p ys) e).1 x i

of_all : {A : Type 0} (P : A → Type 0) (xs : List A) → ((x : A) → In x xs → P x) → All P xs
of_all P [] f = All-nil P
of_all P (x ∷ xs) f = All-cons P x xs (f x (inl refl)) (of_all P xs (λ y i. f y (inr i)))

pub past_in : (x : Tables) (c : Claimed) → names_past x.tokens c ≡ true → (t : Token) → In t c.claim.tokens
    → (t.host ≡ c.host) × (t.id.epoch < x.tokens.grants.table.epoch)
past_in x c e t i =
    let p = and_parts (t.host.0 == c.host.0) (nat_lt t.id.epoch x.tokens.grants.table.epoch)
    (all_in (is_past_of x.tokens c.host) c.claim.tokens e t i) in
    let q : t.host.0 ≡ c.host.0 = eqb-true t.host.0 c.host.0 p.0 in
    ((λ j. record { 0 = q j }), ltb-true t.id.epoch x.tokens.grants.table.epoch p.1)

or_last : (a b : Bool) → b ≡ true → (a || b) ≡ true
or_last true b e = refl
or_last false b e = e

or_first : (a b : Bool) → a ≡ true → (a || b) ≡ true
or_first true b e = refl
or_first false b e = absurd (cc)

pub can_admit : (x : Tables) (c : Claimed) → names_past x.tokens c ≡ true
    → All (CanClaim x.tokens.grants) (to_admit x c)
can_admit x c e = of_all (CanClaim x.tokens.grants) (to_admit x c) (λ t i.
    let named = ((picked_are (is_claimed x c) c.claim.tokens).from t i).0 in
    let p = and_parts (t.host.0 == c.host.0) (nat_lt t.id.epoch x.tokens.grants.table.epoch)
    (all_in (is_past_of x.tokens c.host) c.claim.tokens e t named) in
    or_first (is_earlier x.tokens.grants.table t.id) (has_id x.tokens.grants.table.tokens t.id)
    (or_last (not (t.id.server.0 == x.tokens.grants.table.server.0)) (nat_lt t.id.epoch x.tokens.grants.table.epoch)
    p.1))

-- # Answers

module _ (x : Tables) (host : HostId) where
  pub answers_none : AreAnswers x host [] []
  answers_none = record { of = λ a i. elim i [ ]; all = λ c i. elim i [ ]; once = tt }

  last_is : (a b : Claimed) → In a (b ∷ []) → a ≡ b
  last_is a b (inl e) = e
  last_is a b (inr i) = elim i [ ]

  once_end : (told : List ReclaimedOf) (a : ReclaimedOf) → EachOnce told → (In a told → ⊥) → EachOnce (told ++ a ∷ [])
  once_end [] a o n = ((λ i. i), tt)
  once_end (b ∷ bs) a o n = (
    λ i. elim (in_parts b bs (a ∷ []) i) [
      | inl j ↦ o.0 j
      | inr j ↦ elim j [ inl e ↦ n (inl (sym e)) | inr k ↦ k ]
    ],
    once_end bs a o.1 (λ i. n (inr i)),
  )

  -- a claim that isn't answered
  pub answers_same : (cs : List Claimed) (told : List ReclaimedOf) (c : Claimed) → AreAnswers x host cs told
      → is_ripe x host c ≡ false → AreAnswers x host (cs ++ c ∷ []) told
  answers_same cs told c r no_one = record {
    of = λ a i. (let f = r.of a i in (f.0, in_front f.0 cs (c ∷ []) f.1, f.2, f.3));
    all = λ d i e. elim (in_parts d cs (c ∷ []) i) [
      | inl j ↦ r.all d j e
      | inr j ↦ absurd (false≢true (sym no_one ∙ subst (λ (z : Claimed). is_ripe x host z ≡ true) (last_is d c j) e))
    ];
    once = r.once;
  }

  -- one that is
  pub answers_more : (cs : List Claimed) (told bs : List ReclaimedOf) (c : Claimed) → AreAnswers x host cs told
      → is_ripe x host c ≡ true → IsAdded (answer_of x.recovering host c.claim) told bs
      → AreAnswers x host (cs ++ c ∷ []) bs
  answers_more cs told bs c r ripe (inl p) = subst (AreAnswers x host (cs ++ c ∷ [])) (sym p.1) (record {
    of = λ a i. (let f = r.of a i in (f.0, in_front f.0 cs (c ∷ []) f.1, f.2, f.3));
    all = λ d i e. elim (in_parts d cs (c ∷ []) i) [
      | inl j ↦ r.all d j e
      | inr j ↦ subst (λ (z : Claimed). In (answer_of x.recovering host z.claim) told) (sym (last_is d c j)) p.0
    ];
    once = r.once;
  })
  answers_more cs told bs c r ripe (inr p) =
      let a0 : ReclaimedOf = answer_of x.recovering host c.claim in
      subst (AreAnswers x host (cs ++ c ∷ [])) (sym p.1) (record {
        of = λ a i. elim (in_parts a told (a0 ∷ []) i) [
          | inl j ↦ (let f = r.of a j in (f.0, in_front f.0 cs (c ∷ []) f.1, f.2, f.3))
          | inr j ↦ (c, in_end c cs, ripe, elim j [ inl e ↦ sym e | inr k ↦ elim k [ ] ])
        ];
        all = λ d i e. elim (in_parts d cs (c ∷ []) i) [
          | inl j ↦ in_front (answer_of x.recovering host d.claim) told (a0 ∷ []) (r.all d j e)
          | inr j ↦ subst (λ (z : Claimed). In (answer_of x.recovering host z.claim) (told ++ a0 ∷ []))
              (sym (last_is d c j)) (in_end a0 told)
        ];
        once = once_end told a0 r.once p.0;
      })

  -- one that may be
  pub answers_on : (cs : List Claimed) (told bs : List ReclaimedOf) (c : Claimed) → AreAnswers x host cs told
      → AddsAnswer x host c told bs → AreAnswers x host (cs ++ c ∷ []) bs
  answers_on cs told bs c r (inl p) =
      subst (AreAnswers x host (cs ++ c ∷ [])) (sym p.1) (answers_same cs told c r p.0)
  answers_on cs told bs c r (inr p) = answers_more cs told bs c r p.0 p.1

-- # A claim less waits

abbrev stays : HostId → Claimed → Bool
stays h c = not (c.host.0 == h.0)

at_most : (h : HostId) (cs : List Claimed) → length (filter (stays h) cs) ≤ length cs
at_most h [] = omega arith
at_most h (c ∷ cs) = by (at_most h cs) (stays h c) refl
  where
    by : length (filter (stays h) cs) ≤ length cs → (b : Bool) → stays h c ≡ b
        → length (filter (stays h) (c ∷ cs)) ≤ suc (length cs)
    by l true e = rw e (omega (arith, l))
    by l false e = rw e (omega (arith, l))

fewer_in : (cs : List Claimed) (c : Claimed) → In c cs → length (filter (stays c.host) cs) < length cs
fewer_in [] c i = elim i [ ]
fewer_in (d ∷ ds) c (inl q) =
    let e : stays c.host d ≡ false = ap not (eq-eqb d.host.0 c.host.0 (ap (λ (z : Claimed). z.host.0) (sym q))) in
    let l = at_most c.host ds in rw e (omega (arith, l))
fewer_in (d ∷ ds) c (inr i) = by (fewer_in ds c i) (stays c.host d) refl
  where
    by : length (filter (stays c.host) ds) < length ds → (b : Bool) → stays c.host d ≡ b
        → length (filter (stays c.host) (d ∷ ds)) < suc (length ds)
    by l true e = rw e (omega (arith, l))
    by l false e = rw e (omega (arith, l))

pub fewer_claims : (x : Tables) (c : Claimed) → first_ripe x.recovering x.server ≡ Some c
    → length (filter (stays c.host) x.recovering.claims) < length x.recovering.claims
fewer_claims x c e =
    let f = found_first (λ (d : Claimed). has_all x.recovering.taken x.server d.host d.claim) x.recovering.claims c e in
    fewer_in x.recovering.claims c f.0

-- those of its host don't wait any more
pub admits_less : (x y : Tables) (d e : Draft) (a : Admission) → IsAdmissionOf x a
    → IsAdmitted x d a.host a.tokens y e → length y.recovering.claims < length x.recovering.claims
admits_less x y d e a next so =
    subst (λ (z : Tables). length z.recovering.claims < length x.recovering.claims) (sym so.tables)
    (subst (λ (h : HostId). length (filter (stays h) x.recovering.claims) < length x.recovering.claims) (sym next.host)
    (fewer_claims x next.claimed next.ripe))
