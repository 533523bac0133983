-- The calls of a host: one is open at a time, it is the last that was begun, and what a give-back ends is an open call.
use Rattle.std.proofs.Common.{◌≡◌, ℕ, ◌≤◌, ◌+◌, Bool, true, false, if◌then◌else◌, suc, Some, None, List, [], ◌∷◌}
use Rattle.std.proofs.Common.{Option, length, inl, inr, sym, ◌∙◌, ap, subst, refl, arith}
use Rattle.std.proofs.lemmas.List.Sums.{sum_by-cons}
use Rattle.std.specs.Prelude.{cond, count_by, is_some}
use Rattle.base_types.specs.declared.ids.HostId.{HostId}
use Rattle.tree_calls.specs.declared.call.Call.{Call}
use Rattle.message_types.specs.declared.giving.Ends.{Ends}
use Rattle.message_types.specs.declared.giving.Give.{Give}
use Rattle.script_lines.specs.declared.script.Deed.{Deed}
use Rattle.script_lines.specs.declared.script.Deed.TheVariants.{Call as MakesCall, Raise, Await, Stop}
use Rattle.script_lines.specs.declared.script.Deed.TheVariants.{Restart as Restarts}
use Rattle.script_lines.specs.declared.script.Script.{Script}
use Rattle.token_types.specs.declared.token.Token.{Token}
use Rattle.run_rules.specs.HostMay.{DoesLine, HostMay}
use Rattle.run_rules.specs.Past.{In}
use Rattle.run_rules.specs.Steps.{servers_of}
use Rattle.run_rules.specs.Tokens.{AtHand, BeginsCall, Drops, IsOpen, LabelInUse, Made, NoneOpen, Owns, calls_begun}
use Rattle.run_rules.specs.Tokens.{end_of}
use Rattle.run_contents.proofs.Gives.{held_owns}
use Rattle.run_contents.proofs.Views.{one_alone}
use Rattle.run_contents.specs.Steps.{HostRun}
use Rattle.run_rules.specs.declared.applied.Answer.{Answer}
use Rattle.run_rules.specs.declared.step.Asked.{Asked}
use Rattle.run_rules.specs.declared.step.Labelled.{Labelled}
use Rattle.run_rules.specs.declared.step.Step.{Step}

some_same : (a b : Asked) → Some a ≡ Some b → a ≡ b
some_same a b e = cc

none_in : {X : Type 0} (x : X) (xs : List X) → xs ≡ [] → In x xs → ⊥
none_in x xs e i = elim (subst (In x) e i) [ ]

-- how many of the answers are first ones
first_count : (xs : List Answer) → length xs ≤ 1 → ((a : Answer) → In a xs → a.first ≡ true → ⊥)
    → count_by (λ (answer : Answer). answer.first) xs ≡ 0
first_count [] le none = refl
first_count (a ∷ []) le none = sum_by-cons (λ (answer : Answer). cond answer.first 1 0) a [] ∙ go a.first refl
  where
    go : (b : Bool) → a.first ≡ b → cond b 1 0 + 0 ≡ 0
    go true e = absurd (none a (inl refl) e)
    go false e = refl
first_count (a ∷ b ∷ xs) le none = absurd (let k : suc (suc (length xs)) ≤ 1 = le in omega (arith, k))

module _ (script : Script) (host : HostId) where
  -- a step that answers a call keeps what it has
  module _ (past : List Step) (s : Step) (run : HostRun script host past) (m : HostMay script host past s) where
    pub stays : (a : Answer) → In a s.answers → (t : Token) → AtHand s past t → Owns (s ∷ past) t
    stays a i t at = (
      elim at [ inl n ↦ inl n | inr h ↦ inr (held_owns script host past run t h) ],
      λ l. none (m.tokens.drops t at l),
    )
      where
        none : Drops s t → ⊥
        none d = elim (subst (In d.0) (m.answers.keeps a i).0 d.1) [ ]

    pub gives_none : (a : Answer) → In a s.answers → (g : Give) → In g s.made → ⊥
    gives_none a i g n = elim (subst (In g) (m.answers.keeps a i).1 n) [ ]

  -- a host owns the token of a label in use
  pub use_owned : (past : List Step) → HostRun script host past → (u : Labelled) → LabelInUse past u → Owns past u.token
  use_owned [] run u i = elim i [ ]
  use_owned (s ∷ past) run u (inl i) =
      let b = run.1.answers.begins u i in stays past s run.0 run.1 b.0 b.1 u.token b.4
  use_owned (s ∷ past) run u (inr x) = (
    inr (use_owned past run.0 u x.0),
    λ q. elim q [
      | inl g ↦ x.2 g.0 g.1 (run.1.gives.ends_used g.0 u g.1 x.0 g.2)
      | inr r ↦ run.1.revoked.returns_idle u.token.id r (u, x.0, refl)
    ],
  )

  module _ (past : List Step) (s : Step) (m : HostMay script host past s) where
    -- a step begins one call at most
    pub begins_one : (k l : ℕ) (a b : Call) → BeginsCall s k a → BeginsCall s l b → k ≡ l
    begins_one k l a b (inl p) (inl q) =
        ap (λ (z : Asked). z.k) (some_same (record { k = k; call = a }) (record { k = l; call = b }) (sym p ∙ q))
    begins_one k l a b (inl p) (inr q) = absurd (m.answers.asked q.0 (record { k = k; call = a }) q.1 p)
    begins_one k l a b (inr p) (inl q) = absurd (m.answers.asked p.0 (record { k = l; call = b }) p.1 q)
    begins_one k l a b (inr p) (inr q) =
        sym p.3 ∙ (ap (λ (z : Answer). z.k) (one_alone s.answers m.answers.answers_one p.0 q.0 p.1 q.1) ∙ q.3)

    bare : (k : ℕ) (call : Call) → s.asked ≡ None → s.answers ≡ [] → BeginsCall s k call → ⊥
    bare k call asked answers (inl p) =
        let q : None ≡ Some (record { k = k; call = call }) = sym asked ∙ p in cc
    bare k call asked answers (inr p) = none_in p.0 s.answers answers p.1

    -- it begins one when none is open, with the next number
    pub begins_free : (k : ℕ) (call : Call) → BeginsCall s k call → NoneOpen past
    begins_free k call b = elim (m.lines.begins k call b) [
      | inl l ↦ (m.lines.free l.0 l.1).0
      | inr e ↦ (m.ends.after e).1
    ]

    pub begins_next : (k : ℕ) (call : Call) → BeginsCall s k call → k ≡ suc (calls_begun past)
    begins_next k call b = elim (m.lines.begins k call b) [
      | inl l ↦ (let d = m.lines.next l.0 l.1 in by d.0.deed d.2)
      | inr e ↦ (m.ends.implied k call e b).0
    ]
      where
        by : (d : Deed) → DoesLine (servers_of script.roster) past s d → k ≡ suc (calls_begun past)
        by (MakesCall other) d = begins_one k (suc (calls_begun past)) call other b d
        by (Raise flag) d = absurd (bare k call (ap (λ (z : Step). z.asked) d) (ap (λ (z : Step). z.answers) d) b)
        by (Await flag) d = absurd (bare k call (ap (λ (z : Step). z.asked) d) (ap (λ (z : Step). z.answers) d) b)
        by Stop d = absurd (bare k call d.2 d.3 b)
        by Restarts d = elim d [ ]

    -- a step that begins none leaves their number
    same_count : ((k : ℕ) (call : Call) → BeginsCall s k call → ⊥) → calls_begun (s ∷ past) ≡ calls_begun past
    same_count none = go s.asked refl
      where
        go : (o : Option Asked) → s.asked ≡ o
            → (if is_some o then 1 else count_by (λ (answer : Answer). answer.first) s.answers) + calls_begun past
            ≡ calls_begun past
        go None e =
            let zero : 0 + calls_begun past ≡ calls_begun past = omega arith in
            ap (λ n. n + calls_begun past) (first_count s.answers m.answers.answers_one
            (λ a i f. none a.k a.call (inr (a, i, f, refl, refl)))) ∙ zero
        go (Some c) e = absurd (none c.k c.call (inl e))

    -- a step that leaves its call open has begun one more
    one_more : (call : Asked) → s.asked ≡ Some call → calls_begun (s ∷ past) ≡ suc (calls_begun past)
    one_more call e =
        let one : 1 + calls_begun past ≡ suc (calls_begun past) = omega arith in
        ap (λ (o : Option Asked).
        (if is_some o then 1 else count_by (λ (answer : Answer). answer.first) s.answers) + calls_begun past) e ∙ one

    pub grows : (n : ℕ) → n ≤ calls_begun past → n ≤ calls_begun (s ∷ past)
    grows n le = omega (arith, le)

    open_none : (call : Asked) → IsOpen past call → (k : ℕ) (other : Call) → BeginsCall s k other → ⊥
    open_none call o k other b = begins_free k other b call o

  -- an open call is the last that was begun
  pub open_last : (past : List Step) → HostRun script host past → (call : Asked) → IsOpen past call
      → call.k ≡ calls_begun past
  open_last [] run call o = elim o [ ]
  open_last (s ∷ past) run call (inl e) =
      begins_next past s run.1 call.k call.call (inl e) ∙ sym (one_more past s run.1 call e)
  open_last (s ∷ past) run call (inr o) =
      open_last past run.0 call o.0 ∙ sym (same_count past s run.1 (open_none past s run.1 call o.0))

  -- one call is open
  pub one_open : (past : List Step) → HostRun script host past → (a b : Asked) → IsOpen past a → IsOpen past b → a ≡ b
  one_open [] run a b o p = elim o [ ]
  one_open (s ∷ past) run a b (inl e) (inl d) = some_same a b (sym e ∙ d)
  one_open (s ∷ past) run a b (inl e) (inr p) =
      absurd (begins_free past s run.1 a.k a.call (inl e) b p.0)
  one_open (s ∷ past) run a b (inr o) (inl d) =
      absurd (begins_free past s run.1 b.k b.call (inl d) a o.0)
  one_open (s ∷ past) run a b (inr o) (inr p) = one_open past run.0 a b o.0 p.0

  -- what a give-back ends was open when it was made, and is the open call of that number
  pub given_call : (past : List Step) → HostRun script host past → (g : Give) (ends : Ends) → Made past g
      → g.ends ≡ Some ends
      → (ends.k ≤ calls_begun past)
      × ((call : Asked) → IsOpen past call → call.k ≡ ends.k → call ≡ record { k = ends.k; call = ends.call })
      × ((u : Labelled) × (ends.call ≡ end_of u))
  given_call [] run g ends i e = elim i [ ]
  given_call (s ∷ past) run g ends (inl i) e =
      let k = run.1.gives.ends g ends i e in
      let o = k.1 in
      let last : ends.k ≡ calls_begun (s ∷ past) =
      open_last (s ∷ past) run (record { k = ends.k; call = ends.call }) o in (
        omega (arith, last),
        λ call p _. one_open (s ∷ past) run call (record { k = ends.k; call = ends.call }) p o,
        (k.0.0, k.0.2),
      )
  given_call (s ∷ past) run g ends (inr i) e =
      let old = given_call past run.0 g ends i e in
      (grows past s run.1 ends.k old.0, λ call p same. later call p same (old.0, old.1), old.2)
    where
      later : (call : Asked) → IsOpen (s ∷ past) call → call.k ≡ ends.k
          → ((ends.k ≤ calls_begun past)
          × ((c : Asked) → IsOpen past c → c.k ≡ ends.k → c ≡ record { k = ends.k; call = ends.call }))
          → call ≡ record { k = ends.k; call = ends.call }
      later call (inl asked) same old =
          let next = begins_next past s run.1 call.k call.call (inl asked) in
          let le = old.0 in
          absurd (omega (arith, next, le, same))
      later call (inr p) same old = old.1 call p.0 same
