-- The cache's order after a step that uses the tokens that help with the needs of the calls that it answers, by
-- whatever needs they were marked.
use Rattle.base_types.specs.declared.ids.HostId.{HostId}
use Rattle.host_cache.specs.Holding.{first_by, helps_cover as helps_in, used}
use Rattle.host_cache.specs.Seen.{Seen, after_used}
use Rattle.host_cache.specs.declared.held.Held.{Held}
use Rattle.host_manager.proofs.Helped.{Helped}
use Rattle.host_tables.proofs.Lists.{by_test, false_not, filter_in, in_either, in_filter, in_left, in_right}
use Rattle.host_tables.proofs.Lists.{not_false, true_false}
use Rattle.host_tables.proofs.Using.{IsBefore, before_parts, filter_before, parts_before, uses_are_told}
use Rattle.host_tables.specs.Half.{half}
use Rattle.host_tables.specs.Stands.{IsCoveredFrom, OrderStands, Stands, UsedLater, needs_from}
use Rattle.host_tables.specs.Using.{used_all}
use Rattle.host_tables.specs.declared.tables.Tables.{Tables}
use Rattle.host_walk.specs.Marks.{used_all as used_of}
use Rattle.run_rules.specs.HostTokens.{LastUsed, UsesToken, helps_cover}
use Rattle.run_rules.specs.Past.{In}
use Rattle.run_rules.specs.Views.{Stance}
use Rattle.run_rules.specs.declared.applied.Answer.{Answer as AnswerOf}
use Rattle.run_rules.specs.declared.step.Step.{Step}
use Rattle.script_lines.specs.declared.script.Script.{Script}
use Rattle.std.proofs.Common.{Bool, List, [], arith, false, filter, inl, inr, length, not, refl, subst, suc, sym}
use Rattle.std.proofs.Common.{true, ℕ, ◌++◌, ◌∷◌, ◌≡◌, ◌≤◌, ◌⊎◌}
use Rattle.token_types.specs.declared.token.Need.{Need}
use Rattle.token_types.specs.declared.token.Token.{Token}
use Rattle.tree_calls.specs.declared.roster.Roster.{Roster}

before_first : {A : Type 0} (xs : List A) (a b : A) → IsBefore xs a b → In a xs
before_first [] a b r = absurd r
before_first (x ∷ xs) a b (inl (e, i)) = inl (sym e)
before_first (x ∷ xs) a b (inr r) = inr (before_first xs a b r)

before_second : {A : Type 0} (xs : List A) (a b : A) → IsBefore xs a b → In b xs
before_second [] a b r = absurd r
before_second (x ∷ xs) a b (inl (e, i)) = inr i
before_second (x ∷ xs) a b (inr r) = inr (before_second xs a b r)

before_either : {A : Type 0} (xs ys : List A) (a b : A) → IsBefore (xs ++ ys) a b → In a xs ⊎ IsBefore ys a b
before_either [] ys a b r = inr r
before_either (x ∷ xs) ys a b (inl (e, i)) = inl (inl (sym e))
before_either (x ∷ xs) ys a b (inr r) = elim (before_either xs ys a b r) [ inl i ↦ inl (inr i) | inr q ↦ inr q ]

first_before : {A : Type 0} (test : A → Bool) (xs : List A) (a b : A) → IsBefore (first_by test xs) a b → test a ≡ false
    → (test b ≡ false) × IsBefore xs a b
first_before {A = A} test xs a b r e =
    let other : A → Bool = λ x. not (test x) in
    elim (before_either (filter test xs) (filter other xs) a b r) [
      | inl i ↦ absurd (true_false (test a) (in_filter test xs a i).1 e)
      | inr q ↦ (
        not_false (test b) (in_filter other xs b (before_second (filter other xs) a b q)).1,
        filter_before other xs a b q,
      )
    ]

used_before : (needs : List Need) (held : List Held) (a b : Held) → IsBefore (used_all needs held) a b
    → (Helped needs a.token → ⊥) → (Helped needs b.token → ⊥) × IsBefore held a b
used_before [] held a b r none = ((λ h. h.1), r)
used_before (first ∷ needs) held a b r none =
    let p = used_before needs (used first held) a b r (λ h. none (h.0, inr h.1, h.2)) in
    let f : helps_cover a.token first ≡ false = elim (by_test (helps_cover a.token first)) [
      | inl y ↦ absurd (none (first, inl refl, y))
      | inr n ↦ n
    ] in
    let q = first_before (λ (h : Held). helps_cover h.token first) held a b p.1 f in (
      (λ h. elim h.1 [
        | inl e ↦ true_false (helps_cover b.token first)
            (subst (λ (x : Need). helps_cover b.token x ≡ true) e h.2) q.0
        | inr j ↦ p.0 (h.0, j, h.2)
      ]),
      q.1,
    )

-- whether a token helps with one of the needs
helps_some : (needs : List Need) (t : Token) → Helped needs t ⊎ (Helped needs t → ⊥)
helps_some [] t = inr (λ h. h.1)
helps_some (first ∷ needs) t = elim (by_test (helps_cover t first)) [
  | inl e ↦ inl (first, inl refl, e)
  | inr e ↦ elim (helps_some needs t) [
    | inl p ↦ inl (p.0, inr p.1, p.2)
    | inr none ↦ inr (λ h. elim h.1 [
      | inl q ↦ true_false (helps_cover t first) (subst (λ (x : Need). helps_cover t x ≡ true) q h.2) e
      | inr j ↦ none (h.0, j, h.2)
    ])
  ]
]

-- when a token was last used
last_fits : (roster : Roster) (host : HostId) (past : List Step) (t : Token) (n : ℕ) → LastUsed roster host past t n
    → n ≤ length past
last_fits roster host [] t n l = absurd l
last_fits roster host (s ∷ past) t n (inl (u, e)) = omega (arith, e)
last_fits roster host (s ∷ past) t n (inr (l, u)) = let h = last_fits roster host past t n l in omega (arith, h)

module _ (script : Script) (m : Tables) (past : List Step) (s : Step) (stands : Stands script m (half s ∷ past))
    (covered : (a : AnswerOf) → In a s.answers → IsCoveredFrom m a.call)
    (stance : Stance script.roster m.host past s) (needs : List Need)
    (from : (t : Token) → Helped needs t → (a : AnswerOf) × In a s.answers × Helped (needs_from m a.call) t)
    (all : (t : Token) (a : AnswerOf) → In a s.answers → Helped (needs_from m a.call) t → Helped needs t) where
  abbrev roster : Roster
  roster = script.roster

  -- what helps with none of the needs is used by the step as by its half
  taken_there : (t : Token) → (Helped needs t → ⊥) → UsesToken roster m.host past s t
      → UsesToken roster m.host past (half s) t
  taken_there t none u = elim ((uses_are_told script m past s stands covered stance t).0 u) [
    | inl i ↦ inl i
    | inr h ↦ absurd (none (all t h.0 h.2 (h.1, h.3, h.4)))
  ]

  taken_back : (t : Token) → UsesToken roster m.host past (half s) t → UsesToken roster m.host past s t
  taken_back t (inl i) = inl i
  taken_back t (inr (st, a, need, i, j, h)) = elim i [ ]

  last_there : (t : Token) (n : ℕ) → (Helped needs t → ⊥) → LastUsed roster m.host (s ∷ past) t n
      → LastUsed roster m.host (half s ∷ past) t n
  last_there t n none (inl (u, e)) = inl (taken_there t none u, e)
  last_there t n none (inr (l, u)) = inr (l, λ v. u (taken_back t v))

  helped_last : (t : Token) (n : ℕ) → Helped needs t → LastUsed roster m.host (s ∷ past) t n
      → n ≡ suc (length past)
  helped_last t n h (inl (u, e)) = e
  helped_last t n h (inr (l, u)) =
      let r = from t h in
      absurd (u ((uses_are_told script m past s stands covered stance t).1 (inr (r.0, r.2.0, r.1, r.2.1, r.2.2))))

  ordered : (late early : Held) → IsBefore (used_all needs m.cache.held) late early
      → UsedLater roster m.host (s ∷ past) late.token early.token
  ordered late early r n k l o = elim (helps_some needs late.token) [
    | inl p ↦ (
        let e = helped_last late.token n p l in
        let f = last_fits roster m.host (s ∷ past) early.token k o in omega (arith, e, f))
    | inr none ↦ (
        let p = used_before needs m.cache.held late early r none in
        let q = before_parts m.cache.held late early p.1 in
        stands.order q.0 q.1 late early q.2 q.3 n k (last_there late.token n none l) (last_there early.token k p.0 o))
  ]

  pub order_after : OrderStands roster m.host (used_all needs m.cache.held) (s ∷ past)
  order_after before behind late early e i =
      ordered late early (subst (λ (xs : List Held). IsBefore xs late early) (sym e)
      (parts_before before behind late early i))

-- marks alone change the order, and nothing that is shown
pub marked_held : (needs : List Need) (shown : Seen)
    → used_of needs shown ≡ record shown { held = used_all needs shown.held }
marked_held [] shown = refl
marked_held (need ∷ needs) shown = marked_held needs (after_used shown need)

-- the same tokens
pub in_used : (needs : List Need) (held : List Held) (h : Held) → In h (used_all needs held) → In h held
in_used [] held h i = i
in_used (need ∷ needs) held h i = of_first (λ (x : Held). helps_in need x.token) held h
    (in_used needs (used need held) h i)
  where
    of_first : {A : Type 0} (test : A → Bool) (xs : List A) (x : A) → In x (first_by test xs) → In x xs
    of_first {A = A} test xs x i =
        let other : A → Bool = λ y. not (test y) in
        elim (in_either (filter test xs) (filter other xs) x i) [
          | inl j ↦ (in_filter test xs x j).0
          | inr j ↦ (in_filter other xs x j).0
        ]

pub used_in : (needs : List Need) (held : List Held) (h : Held) → In h held → In h (used_all needs held)
used_in [] held h i = i
used_in (need ∷ needs) held h i = used_in needs (used need held) h (to_first (λ (x : Held). helps_in need x.token)
    held h i)
  where
    to_first : {A : Type 0} (test : A → Bool) (xs : List A) (x : A) → In x xs → In x (first_by test xs)
    to_first {A = A} test xs x i =
        let other : A → Bool = λ y. not (test y) in
        elim (by_test (test x)) [
          | inl e ↦ in_left (filter test xs) (filter other xs) x (filter_in test xs x i e)
          | inr e ↦ in_right (filter test xs) (filter other xs) x (filter_in other xs x i (false_not (test x) e))
        ]
