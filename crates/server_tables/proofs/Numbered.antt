-- The numbers of the wants that wait rise, so that each want is known by its own: what the queue is without some.
use Rattle.std.proofs.Common.{◌≡◌, ◌⊎◌, ℕ, zero, suc, ◌<◌, ◌==◌, Bool, true, false, ◌&&◌, ◌||◌, not, cond}
use Rattle.std.proofs.Common.{if◌then◌else◌}
use Rattle.std.proofs.Common.{List, [], ◌∷◌, map, length, inl, inr, refl, sym, ◌∙◌, ap, subst, eq-eqb, eqb-true, arith}
use Rattle.std.specs.Prelude.{All, AllPairs, remove, slice_index_or}
use Rattle.std.specs.List.{filter, list_any}
use Rattle.std.proofs.lemmas.Bool.{and_from, and_parts, cases_Bool, false≢true}
use Rattle.std.proofs.lemmas.List.Elements.{All-head, All-tail}
use Rattle.base_types.specs.declared.ids.HostId.{HostId}
use Rattle.token_manager.specs.Managers.{Manager, after_down, after_given_up}
use Rattle.token_manager.specs.Wants.{without_want}
use Rattle.token_manager.specs.declared.want.Want.{Want as WantOf}
use Rattle.token_manager.proofs.Pairs.{pairs_head, pairs_tail}
use Rattle.run_rules.specs.Doings.{Doing}
use Rattle.run_rules.specs.Past.{In}
use Rattle.run_rules.specs.Wants.{IsQueuedBefore, asker, asker_of, exporter, is_use}
use Rattle.run_rules.specs.declared.applied.Request.{Request}
use Rattle.run_rules.specs.declared.applied.Request.TheVariants.{Change as Changes, Fetch as Asks}
use Rattle.run_rules.specs.declared.applied.Wanted.{Wanted}
use Rattle.base_types.specs.declared.ids.ServerId.{ServerId}
use Rattle.server_tables.specs.declared.pending.Pending.{Pending}
use Rattle.server_tables.specs.Standing.{WantsStand, want_for}
use Rattle.server_tables.specs.Updates.{wants_left, without_its, without_one}
use Rattle.server_tables.proofs.Fetching.{same_host}
use Rattle.server_tables.proofs.Settling.{any_in, in_any}

-- # Filters

module _ {A : Type 0} where
  pub filter_same : (p q : A → Bool) (xs : List A) → ((x : A) → In x xs → p x ≡ q x) → filter p xs ≡ filter q xs
  filter_same p q [] f = refl
  filter_same p q (x ∷ xs) f =
      ap (λ (b : Bool). cond b (x ∷ filter p xs) (filter p xs)) (f x (inl refl))
      ∙ ap (λ (l : List A). cond (q x) (x ∷ l) l) (filter_same p q xs (λ y i. f y (inr i)))

  pub filter_all : (p : A → Bool) (xs : List A) → ((x : A) → In x xs → p x ≡ true) → filter p xs ≡ xs
  filter_all p [] f = refl
  filter_all p (x ∷ xs) f =
      ap (λ (b : Bool). cond b (x ∷ filter p xs) (filter p xs)) (f x (inl refl))
      ∙ ap (λ (l : List A). x ∷ l) (filter_all p xs (λ y i. f y (inr i)))

  pub filter_twice : (p q r : A → Bool) (xs : List A) → ((x : A) → (q x && p x) ≡ r x)
      → filter p (filter q xs) ≡ filter r xs
  filter_twice p q r [] f = refl
  filter_twice p q r (x ∷ xs) f = go (filter_twice p q r xs f) (q x) (p x) refl refl
    where
      go : filter p (filter q xs) ≡ filter r xs → (a b : Bool) → q x ≡ a → p x ≡ b → filter p (filter q (x ∷ xs))
          ≡ filter r (x ∷ xs)
      go deeper true true e k =
          ap (λ (c : Bool). filter p (cond c (x ∷ filter q xs) (filter q xs))) e
          ∙ ap (λ (c : Bool). cond c (x ∷ filter p (filter q xs)) (filter p (filter q xs))) k
          ∙ ap (λ (l : List A). x ∷ l) deeper
          ∙ ap (λ (c : Bool). cond c (x ∷ filter r xs) (filter r xs)) (sym (sym (f x)
          ∙ ap (λ (c : Bool). c && p x) e ∙ k))
      go deeper true false e k =
          ap (λ (c : Bool). filter p (cond c (x ∷ filter q xs) (filter q xs))) e
          ∙ ap (λ (c : Bool). cond c (x ∷ filter p (filter q xs)) (filter p (filter q xs))) k
          ∙ deeper
          ∙ ap (λ (c : Bool). cond c (x ∷ filter r xs) (filter r xs)) (sym (sym (f x)
          ∙ ap (λ (c : Bool). c && p x) e ∙ k))
      go deeper false b e k =
          ap (λ (c : Bool). filter p (cond c (x ∷ filter q xs) (filter q xs))) e
          ∙ deeper
          ∙ ap (λ (c : Bool). cond c (x ∷ filter r xs) (filter r xs)) (sym (sym (f x) ∙ ap (λ (c : Bool). c && p x) e))

pub filter_mapped : {A B : Type 0} (p : B → Bool) (f : A → B) (xs : List A)
    → filter p (map f xs) ≡ map f (filter (λ x. p (f x)) xs)
filter_mapped p f [] = refl
filter_mapped {A = A} {B = B} p f (x ∷ xs) = go (filter_mapped p f xs) (p (f x)) refl
  where
    go : filter p (map f xs) ≡ map f (filter (λ y. p (f y)) xs) → (b : Bool) → p (f x) ≡ b
        → filter p (map f (x ∷ xs)) ≡ map f (filter (λ y. p (f y)) (x ∷ xs))
    go deeper true e =
        ap (λ (c : Bool). cond c (f x ∷ filter p (map f xs)) (filter p (map f xs))) e
        ∙ ap (λ (l : List B). f x ∷ l) deeper
        ∙ ap (λ (c : Bool). map f (cond c (x ∷ filter (λ y. p (f y)) xs) (filter (λ y. p (f y)) xs))) (sym e)
    go deeper false e =
        ap (λ (c : Bool). cond c (f x ∷ filter p (map f xs)) (filter p (map f xs))) e
        ∙ deeper
        ∙ ap (λ (c : Bool). map f (cond c (x ∷ filter (λ y. p (f y)) xs) (filter (λ y. p (f y)) xs))) (sym e)

-- # Numbers

abbrev pub Rise : List Pending → Type 0
Rise ps = AllPairs (λ (p q : Pending). p.number < q.number) ps

all_each : (p : Pending) (qs : List Pending) → All (λ (q : Pending). p.number < q.number) qs → (q : Pending) → In q qs
    → p.number < q.number
all_each p [] a q i = elim i [ ]
all_each p (x ∷ xs) a q (inl e) =
    subst (λ (y : Pending). p.number < y.number) (sym e) (All-head (λ (y : Pending). p.number < y.number) x xs a)
all_each p (x ∷ xs) a q (inr i) = all_each p xs (All-tail (λ (y : Pending). p.number < y.number) x xs a) q i

pub first_below : (p : Pending) (qs : List Pending) → Rise (p ∷ qs) → (q : Pending) → In q qs → p.number < q.number
first_below p qs r = all_each p qs (pairs_head (λ (a b : Pending). a.number < b.number) p qs r)

pub rest_rise : (p : Pending) (qs : List Pending) → Rise (p ∷ qs) → Rise qs
rest_rise p qs r = pairs_tail (λ (a b : Pending). a.number < b.number) p qs r

-- of a number one waits
pub one_each : (ps : List Pending) → Rise ps → (p q : Pending) → In p ps → In q ps → p.number ≡ q.number → p ≡ q
one_each [] r p q i j n = elim i [ ]
one_each (x ∷ xs) r p q (inl e) (inl f) n = e ∙ sym f
one_each (x ∷ xs) r p q (inl e) (inr j) n =
    let l = first_below x xs r q j in let k : p.number ≡ x.number = ap (λ (y : Pending). y.number) e in absurd (omega
    (arith, l, k, n))
one_each (x ∷ xs) r p q (inr i) (inl f) n =
    let l = first_below x xs r p i in let k : q.number ≡ x.number = ap (λ (y : Pending). y.number) f in absurd (omega
    (arith, l, k, n))
one_each (x ∷ xs) r p q (inr i) (inr j) n = one_each xs (rest_rise x xs r) p q i j n

-- and what waits, waits once
pub one_want : {past : List Doing} {server : ServerId} {next : ℕ} {ps : List Pending} → WantsStand past server next ps
    → Rise ps → (p q : Pending) → In p ps → In q ps → p.wanted ≡ q.wanted → p ≡ q
one_want {past = past} {ps = ps} s r p q i j e = go (nat_cases p.number q.number)
  where
    nat_cases : (a b : ℕ) → (a < b) ⊎ ((a ≡ b) ⊎ (b < a))
    nat_cases zero zero = inr (inl refl)
    nat_cases zero (suc b) = inl (omega arith)
    nat_cases (suc a) zero = inr (inr (omega arith))
    nat_cases (suc a) (suc b) = elim (nat_cases a b) [
      | inl l ↦ inl (omega (arith, l))
      | inr k ↦ elim k [ inl l ↦ inr (inl (ap suc l)) | inr l ↦ inr (inr (omega (arith, l))) ]
    ]

    both : (a b : Pending) → In a ps → In b ps → a.wanted ≡ b.wanted → a.number < b.number → ⊥
    both a b m n k l =
        let f = s.order a b m n l in
        let g = s.order_all b a n m (subst (λ (w : Wanted). IsQueuedBefore past w a.wanted) k
        (subst (λ (w : Wanted). IsQueuedBefore past a.wanted w) (sym k) f)) in
        omega (arith, l, g)

    go : (p.number < q.number) ⊎ ((p.number ≡ q.number) ⊎ (q.number < p.number)) → p ≡ q
    go (inl l) = absurd (both p q i j e l)
    go (inr (inl n)) = one_each ps r p q i j n
    go (inr (inr l)) = absurd (both q p j i (sym e) l)

-- # The queue without one want

pub at_in : (ps : List Pending) (at : ℕ) (p : Pending) → at < length ps → slice_index_or ps at p ≡ p → In p ps
at_in [] at p l e = absurd (omega (arith, l))
at_in (x ∷ xs) zero p l e = inl (sym e)
at_in (x ∷ xs) (suc at) p l e = inr (at_in xs at p (omega (arith, l)) e)

pub removed_queue : (ps : List Pending) (at : ℕ) (p : Pending) → Rise ps → at < length ps → slice_index_or ps at p ≡ p
    → without_want (map want_for ps) p.number ≡ map want_for (remove ps at)
removed_queue [] at p r l e = absurd (omega (arith, l))
removed_queue (x ∷ xs) zero p r l e =
    ap (λ (b : Bool). cond (not b) (want_for x ∷ rest) rest) (eq-eqb x.number p.number (ap (λ
    (y : Pending). y.number) e))
    ∙ filter_all (λ (w : WantOf). not (w.number == p.number)) (map want_for xs) others
  where
    rest : List WantOf
    rest = without_want (map want_for xs) p.number

    others : (w : WantOf) → In w (map want_for xs) → not (w.number == p.number) ≡ true
    others w i = elim (cases_Bool (w.number == p.number)) [
      | inl k ↦ (let f = found xs w i in let a = first_below x xs r f.0 f.1 in
          let b : w.number ≡ f.0.number = f.2 in let c = eqb-true w.number p.number k in
          let d : x.number ≡ p.number = ap (λ (y : Pending). y.number) e in absurd (omega (arith, a, b, c, d)))
      | inr k ↦ ap not k
    ]
      where
        found : (qs : List Pending) (w : WantOf) → In w (map want_for qs) → (q : Pending) × In q qs × (w.number
            ≡ q.number)
        found [] w m = elim m [ ]
        found (q ∷ qs) w (inl k) = (q, inl refl, ap (λ (v : WantOf). v.number) k)
        found (q ∷ qs) w (inr m) = let u = found qs w m in (u.0, inr u.1, u.2)
removed_queue (x ∷ xs) (suc at) p r l e =
    ap (λ (b : Bool). cond (not b) (want_for x ∷ rest) rest) differ
    ∙ ap (λ (ws : List WantOf). want_for x ∷ ws) (removed_queue xs at p (rest_rise x xs r) (omega (arith, l)) e)
  where
    rest : List WantOf
    rest = without_want (map want_for xs) p.number

    differ : (x.number == p.number) ≡ false
    differ = elim (cases_Bool (x.number == p.number)) [
      | inl k ↦ (let a = first_below x xs r p (at_in xs at p (omega (arith, l)) e) in
          let b = eqb-true x.number p.number k in absurd (omega (arith, a, b)))
      | inr k ↦ k
    ]

pub in_removed : (ps : List Pending) (at : ℕ) (q : Pending) → In q (remove ps at) → In q ps
in_removed [] zero q i = i
in_removed [] (suc at) q i = i
in_removed (x ∷ xs) zero q i = inr i
in_removed (x ∷ xs) (suc at) q (inl e) = inl e
in_removed (x ∷ xs) (suc at) q (inr i) = inr (in_removed xs at q i)

pub not_removed : (ps : List Pending) (at : ℕ) (p q : Pending) → slice_index_or ps at p ≡ p → In q ps → (q ≡ p → ⊥)
    → In q (remove ps at)
not_removed [] at p q e i f = elim i [ ]
not_removed (x ∷ xs) zero p q e (inl k) f = absurd (f (k ∙ e))
not_removed (x ∷ xs) zero p q e (inr i) f = i
not_removed (x ∷ xs) (suc at) p q e (inl k) f = inl k
not_removed (x ∷ xs) (suc at) p q e (inr i) f = inr (not_removed xs at p q e i f)

pub removed_other : (ps : List Pending) (at : ℕ) (p q : Pending) → Rise ps → at < length ps → slice_index_or ps at p ≡ p
    → In q (remove ps at) → q.number ≡ p.number → ⊥
removed_other [] at p q r l e i n = omega (arith, l)
removed_other (x ∷ xs) zero p q r l e i n =
    let a = first_below x xs r q i in let d : x.number ≡ p.number = ap (λ (y : Pending). y.number) e in omega
    (arith, a, d, n)
removed_other (x ∷ xs) (suc at) p q r l e (inl k) n =
    let a = first_below x xs r p (at_in xs at p (omega (arith, l)) e) in
    let d : q.number ≡ x.number = ap (λ (y : Pending). y.number) k in omega (arith, a, d, n)
removed_other (x ∷ xs) (suc at) p q r l e (inr i) n =
    removed_other xs at p q (rest_rise x xs r) (omega (arith, l)) e i n

-- # The queue without the wants of a host

abbrev pub dropped : HostId → List Pending → WantOf → Bool
dropped host ps w = list_any (λ (p : Pending). (p.wanted.host.0 == host.0) && (w.number == p.number)) ps

one_queue : (m : Manager) (host : HostId) (p : Pending) (b : Bool) → (p.wanted.host.0 == host.0) ≡ b
    → (without_one m host p).queue ≡ cond b (without_want m.queue p.number) m.queue
unfolding without_one
one_queue m host p true e = ap (λ (c : Bool). (if c then after_given_up m p.number else m).queue) e
one_queue m host p false e = ap (λ (c : Bool). (if c then after_given_up m p.number else m).queue) e

one_grants : (m : Manager) (host : HostId) (p : Pending) → (without_one m host p).grants ≡ m.grants
unfolding without_one
one_grants m host p = elim (cases_Bool (p.wanted.host.0 == host.0)) [
  | inl e ↦ ap (λ (c : Bool). (if c then after_given_up m p.number else m).grants) e
  | inr e ↦ ap (λ (c : Bool). (if c then after_given_up m p.number else m).grants) e
]

pub its_grants : (m : Manager) (host : HostId) (ps : List Pending) → (without_its m host ps).grants ≡ m.grants
its_grants m host [] = refl
its_grants m host (p ∷ ps) = its_grants (without_one m host p) host ps ∙ one_grants m host p

pub its_queue : (m : Manager) (host : HostId) (ps : List Pending)
    → (without_its m host ps).queue ≡ filter (λ (w : WantOf). not (dropped host ps w)) m.queue
its_queue m host [] = sym (filter_all (λ (w : WantOf). not false) m.queue (λ w i. refl))
its_queue m host (p ∷ ps) = its_queue (without_one m host p) host ps ∙ go (p.wanted.host.0 == host.0) refl
  where
    go : (b : Bool) → (p.wanted.host.0 == host.0) ≡ b
        → filter (λ (w : WantOf). not (dropped host ps w)) (without_one m host p).queue
        ≡ filter (λ (w : WantOf). not (dropped host (p ∷ ps) w)) m.queue
    go true e = ap (filter (λ (w : WantOf). not (dropped host ps w))) (one_queue m host p true e)
        ∙ filter_twice (λ (w : WantOf). not (dropped host ps w)) (λ (w : WantOf). not (w.number == p.number))
        (λ (w : WantOf). not (dropped host (p ∷ ps) w)) m.queue (λ w. both (w.number == p.number) (dropped host ps w)
        ∙ ap (λ (c : Bool). not ((c && (w.number == p.number)) || dropped host ps w)) (sym e))
      where
        both : (a b : Bool) → (not a && not b) ≡ not (a || b)
        both true b = refl
        both false b = refl
    go false e = ap (filter (λ (w : WantOf). not (dropped host ps w))) (one_queue m host p false e)
        ∙ filter_same (λ (w : WantOf). not (dropped host ps w)) (λ (w : WantOf). not (dropped host (p ∷ ps) w)) m.queue
        (λ w i. ap (λ (c : Bool). not ((c && (w.number == p.number)) || dropped host ps w)) (sym e))

module _ (host : HostId) (not_own : host ≡ exporter → ⊥) (ps : List Pending) (r : Rise ps) where
  abbrev stays : WantOf → Bool
  stays w = not (w.host.0 == host.0) && not (dropped host ps w)

  its_asker : (h : HostId) (q : Request) → (h.0 == host.0) ≡ false → ((asker_of h q).0 == host.0) ≡ false
  its_asker h (Asks f) e = e
  its_asker h (Changes c) e = go (is_use c.call)
    where
      go : (b : Bool) → ((if b then h else exporter).0 == host.0) ≡ false
      go true = e
      go false = elim (cases_Bool (exporter.0 == host.0)) [
        | inl k ↦ absurd (not_own (sym
            (same_host exporter host k)))
        | inr k ↦ k
      ]

  each : (p : Pending) → In p ps → stays (want_for p) ≡ not (p.wanted.host.0 == host.0)
  each p i = go (p.wanted.host.0 == host.0) refl
    where
      go : (b : Bool) → (p.wanted.host.0 == host.0) ≡ b → stays (want_for p) ≡ not (p.wanted.host.0 == host.0)
      go true e =
          let d : dropped host ps (want_for p) ≡ true = in_any (λ (q : Pending). (q.wanted.host.0 == host.0) &&
          (p.number == q.number)) p ps i
          (and_from (p.wanted.host.0 == host.0) (p.number == p.number) e (eq-eqb p.number p.number refl)) in
          ap (λ (c : Bool). not ((asker p.wanted).0 == host.0) && not c) d
          ∙ none (not ((asker p.wanted).0 == host.0)) ∙ ap not (sym e)
        where
          none : (c : Bool) → (c && false) ≡ false
          none true = refl
          none false = refl
      go false e = elim (cases_Bool (dropped host ps (want_for p))) [
        | inl d ↦ (let q = any_in (λ (q : Pending). (q.wanted.host.0 == host.0) && (p.number == q.number)) ps d in
            let b = and_parts (q.0.wanted.host.0 == host.0) (p.number == q.0.number) q.2 in
            let s = one_each ps r p q.0 i q.1 (eqb-true p.number q.0.number b.1) in
            absurd (false≢true (sym e ∙ ap (λ (y : Pending). y.wanted.host.0 == host.0) s ∙ b.0)))
        | inr d ↦ ap (λ (c : Bool). not ((asker p.wanted).0 == host.0) && not c) d
            ∙ ap (λ (c : Bool). not c && true) (its_asker p.wanted.host p.wanted.request e) ∙ ap not (sym e)
      ]

  pub left_queue : (m : Manager) → m.queue ≡ map want_for ps
      → (without_its (after_down m host) host ps).queue ≡ map want_for (wants_left ps host)
  left_queue m q =
      its_queue (after_down m host) host ps
      ∙ filter_twice (λ (w : WantOf). not (dropped host ps w)) (λ (w : WantOf). not
      (w.host.0 == host.0)) stays m.queue (λ w. refl)
      ∙ ap (filter stays) q ∙ filter_mapped stays want_for ps
      ∙ ap (map want_for) (filter_same (λ p. stays (want_for p)) (λ p. not (p.wanted.host.0 == host.0)) ps each)

pub left_empty : (host : HostId) (ps : List Pending) (m : Manager) → m.queue ≡ []
    → (without_its (after_down m host) host ps).queue ≡ []
left_empty host ps m q =
    its_queue (after_down m host) host ps
    ∙ ap (λ (l : List WantOf). filter (λ (w : WantOf). not (dropped host ps w)) (filter (λ (w : WantOf). not
    (w.host.0 == host.0)) l)) q
