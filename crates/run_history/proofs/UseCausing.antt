-- What a server applies by the cause of its step, and which uses that frees.
use Rattle.std.proofs.Common.{List, ap, inl, inr, refl, subst, suc, sym, true, ℕ, ◌++◌, ◌∙◌, ◌∷◌, ◌≡◌, ◌⊎◌}
use Rattle.std.proofs.lemmas.Bool.{and_parts, false≢true}
use Rattle.std.specs.List.{list_all}
use Rattle.std.specs.Prelude.{[]}
use Rattle.base_types.specs.declared.ids.HostId.{HostId}
use Rattle.base_types.specs.declared.ids.ServerId.{ServerId}
use Rattle.tree_answers.specs.declared.tree.Tree.{Tree}
use Rattle.message_types.specs.declared.giving.Give.{Give}
use Rattle.message_types.specs.declared.message.Body.{Body}
use Rattle.message_types.specs.declared.message.Body.TheVariants.{Down, GiveBack}
use Rattle.message_types.specs.declared.message.Message.{Message}
use Rattle.run_parts.specs.Doings.{doings, doings_cause}
use Rattle.run_parts.specs.Uses.{Frees, FreesAny}
use Rattle.run_contents.proofs.Bodies.{cases_nat, here, is_down, is_give, live}
use Rattle.run_contents.proofs.Caused.{no_message}
use Rattle.run_rules.specs.Doings.{Doing, HasGoneDown, Here, IsApplied, IsLive, admitting, deciding, epoch, sending}
use Rattle.run_rules.specs.Doings.Doing.{Gets}
use Rattle.run_rules.specs.Doings.Doing.{Admits, BeginsEpoch, Flushes, MakesWant, Moves, Reserves, Sent, Took}
use Rattle.run_rules.specs.Doings.Doing.{WritesDown}
use Rattle.run_rules.specs.Past.{In}
use Rattle.run_rules.specs.ServerDecides.{FirstDown, FirstGiven, ServerApplies, by_cause, decisions, is_decision}
use Rattle.run_rules.specs.Tokens.{number_of}
use Rattle.run_rules.specs.declared.applied.Applied.TheVariants.{Done as IsDone, IsDown as GoesDown, Replied, Stored}
use Rattle.run_rules.specs.declared.applied.Applied.TheVariants.{Moves as IsMoved, Wants as IsWanted}
use Rattle.run_rules.specs.declared.applied.Admission.{Admission}
use Rattle.run_rules.specs.declared.applied.Answer.{Answer}
use Rattle.run_rules.specs.declared.applied.Applied.{Applied as AppliedOf}
use Rattle.run_rules.specs.declared.step.Cause.{Cause}
use Rattle.run_rules.specs.declared.step.Cause.TheVariants.{End, Evict, Flushed, Freight, Lapse, Line, Message as Came}
use Rattle.run_rules.specs.declared.step.Cause.TheVariants.{Restart}
use Rattle.run_rules.specs.declared.step.Labelled.{Labelled}
use Rattle.run_rules.specs.Doings.Doing.{Puts}
use Rattle.run_rules.specs.Doings.{shipped_by_body, shipping}
use Rattle.run_rules.specs.declared.step.Step.{Step}

-- the cause alone frees uses
module _ (v : ServerId) (h : HostId) (u : Labelled) where
  frees_took : (S : List Doing) (a : Doing) → Frees v S a h u → (e n : ℕ) × (b : Body) × (a ≡ Took h e n b)
  frees_took S a (inl x) = (x.0, x.1, Down, x.2)
  frees_took S a (inr (g, (t, fresh), gives)) = (epoch S, t.0, GiveBack g, t.2.0)

  abbrev None : List Doing → Type 0
  None more = (S : List Doing) → FreesAny v more S h u → ⊥

  one_less : (a : Doing) (more : List Doing) → ((e n : ℕ) (b : Body) → a ≡ Took h e n b → ⊥) → None more → None (a ∷ more)
  one_less a more never rest S (inl f) = let k = frees_took S a f in never k.0 k.1 k.2 k.3
  one_less a more never rest S (inr f) = rest (a ∷ S) f

  kept_none : (ts : _) → None (Reserves ts ∷ [])
  kept_none ts = one_less (Reserves ts) [] (λ e n b q. cc) (λ S f. elim f [ ])

  ships_none : (ms : List Message) (more : List Doing) → None more → None (shipping ms ++ more)
  ships_none [] more rest = rest
  ships_none (m ∷ ms) more rest =
      one_less (Puts (shipped_by_body m.body m.server) m.moves m.body) (shipping ms ++ more) (λ e n b q. cc)
      (ships_none ms more rest)

  sents_none : (ms : List Message) (more : List Doing) → None more → None (sending ms ++ more)
  sents_none [] more rest = rest
  sents_none (m ∷ ms) more rest =
      one_less (Sent m.host m.epoch m.moves m.body) (sending ms ++ more) (λ e n b q. cc) (sents_none ms more rest)

  admits_none : (cs : List Admission) (more : List Doing) → None more → None (admitting cs ++ more)
  admits_none [] more rest = rest
  admits_none (c ∷ cs) more rest =
      one_less (Admits c.host c.tokens) (admitting cs ++ more) (λ e n b q. cc) (admits_none cs more rest)

  writes_none : (xs : List AppliedOf) (more : List Doing) → None more → None (deciding xs ++ more)
  writes_none [] more rest = rest
  writes_none (IsWanted x ∷ xs) more rest =
      one_less (MakesWant x) (deciding xs ++ more) (λ e n b q. cc) (writes_none xs more rest)
  writes_none (IsDone x ∷ xs) more rest =
      one_less (WritesDown x) (deciding xs ++ more) (λ e n b q. cc) (writes_none xs more rest)
  writes_none (Replied x ∷ xs) more rest = writes_none xs more rest
  writes_none (Stored k f ss n ∷ xs) more rest = writes_none xs more rest
  writes_none (GoesDown k ∷ xs) more rest = writes_none xs more rest
  writes_none (IsMoved move ∷ xs) more rest =
      one_less (Moves move) (deciding xs ++ more) (λ e n b q. cc) (writes_none xs more rest)

  module _ (s : Step) (S : List Doing) where
    abbrev more : List Doing
    more = deciding s.applied ++ (admitting s.admitted ++ (sending s.sent ++ (shipping s.shipped ++ (Reserves s.reserved ∷ []))))

    none_more : None more
    none_more =
        writes_none s.applied _ (admits_none s.admitted _ (sents_none s.sent _ (ships_none s.shipped _ (kept_none s.reserved))))

    by_message : (c : Cause) → FreesAny v (doings_cause c S more) S h u
        → (m : Message) × (c ≡ Came m) × Frees v S (Took m.host m.epoch m.moves m.body) h u
    by_message (Came m) (inl f) = (m, refl, f)
    by_message (Came m) (inr f) = absurd (none_more (Took m.host m.epoch m.moves m.body ∷ S) f)
    by_message (Restart line) f = absurd (one_less (BeginsEpoch _) more (λ e n b q. cc) none_more S f)
    by_message Flushed f = absurd (one_less Flushes more (λ e n b q. cc) none_more S f)
    by_message (Line line) f = absurd (none_more S f)
    by_message Lapse f = absurd (none_more S f)
    by_message Evict f = absurd (none_more S f)
    by_message (Freight freight) f = absurd (one_less (Gets freight.server freight.moves freight.body) more (λ e n b q. cc) none_more S f)
    by_message End f = absurd (none_more S f)

    pub frees_is : FreesAny v (doings s S) S h u
        → (m : Message) × (s.cause ≡ Came m) × Frees v S (Took m.host m.epoch m.moves m.body) h u
    frees_is f = by_message s.cause f

    pub is_frees : (m : Message) → s.cause ≡ Came m → Frees v S (Took m.host m.epoch m.moves m.body) h u
        → FreesAny v (doings s S) S h u
    is_frees m e f = subst (λ (c : Cause). FreesAny v (doings_cause c S more) S h u) (sym e) (inl f)

    -- the doings after the cause free nothing
    pub to_cause : FreesAny v (doings s S) S h u → FreesAny v (doings_cause s.cause S []) S h u
    to_cause f = go s.cause f
      where
        go : (c : Cause) → FreesAny v (doings_cause c S more) S h u → FreesAny v (doings_cause c S []) S h u
        go (Came m) (inl f) = inl f
        go (Came m) (inr f) = absurd (none_more (Took m.host m.epoch m.moves m.body ∷ S) f)
        go (Restart line) (inl f) = inl f
        go (Restart line) (inr f) = absurd (none_more (BeginsEpoch (suc (epoch S)) ∷ S) f)
        go Flushed (inl f) = inl f
        go Flushed (inr f) = absurd (none_more (Flushes ∷ S) f)
        go (Line line) f = absurd (none_more S f)
        go Lapse f = absurd (none_more S f)
        go Evict f = absurd (none_more S f)
        go (Freight freight) (inl f) = inl f
        go (Freight freight) (inr f) = absurd (none_more (Gets freight.server freight.moves freight.body ∷ S) f)
        go End f = absurd (none_more S f)

    pub of_cause : FreesAny v (doings_cause s.cause S []) S h u → FreesAny v (doings s S) S h u
    of_cause f = go s.cause f
      where
        go : (c : Cause) → FreesAny v (doings_cause c S []) S h u → FreesAny v (doings_cause c S more) S h u
        go (Came m) (inl f) = inl f
        go (Came m) (inr f) = elim f [ ]
        go (Restart line) (inl f) = inl f
        go (Restart line) (inr f) = elim f [ ]
        go Flushed (inl f) = inl f
        go Flushed (inr f) = elim f [ ]
        go (Line line) f = elim f [ ]
        go Lapse f = elim f [ ]
        go Evict f = elim f [ ]
        go (Freight freight) (inl f) = inl f
        go (Freight freight) (inr f) = elim f [ ]
        go End f = elim f [ ]

one_message : (c : Cause) (m n : Message) → c ≡ Came m → c ≡ Came n → m ≡ n
one_message c m n p q = let r : Came m ≡ Came n = sym p ∙ q in cc

give_of : (g k : Give) → GiveBack g ≡ GiveBack k → g ≡ k
give_of g k e = cc

-- what is applied by the cause is of a give-back, or a host goes down
module _ (v : ServerId) (S : List Doing) (tree : Tree) (s : Step) (k : ServerApplies v tree S s) where
  abbrev pub First : Type 0
  First = ((h : HostId) × (g : Give) × FirstGiven v S s h g) ⊎ ((h : HostId) × FirstDown S s h)

  module _ (some : by_cause s.applied ≡ [] → ⊥) where
    never : ((h : HostId) (g : Give) → FirstGiven v S s h g → ⊥) → ((h : HostId) → FirstDown S s h → ⊥) → ⊥
    never none_given none_down = some (k.else_none none_given none_down)

    module _ (m : Message) (cause : s.cause ≡ Came m) where
      given_message : (h : HostId) (g : Give) → FirstGiven v S s h g
          → (m.host ≡ h) × (m.epoch ≡ epoch S) × (m.body ≡ GiveBack g)
      given_message h g first =
          let one = one_message s.cause m first.0.1.0.0 cause first.0.1.0.1 in (
            ap (λ (x : Message). x.host) one ∙ first.0.1.0.2,
            ap (λ (x : Message). x.epoch) one ∙ first.0.1.0.3,
            ap (λ (x : Message). x.body) one ∙ first.0.1.0.5,
          )

      down_message : (h : HostId) → FirstDown S s h → (m.host ≡ h) × (m.body ≡ Down)
      down_message h first =
          let one = one_message s.cause m first.0.0 cause first.0.1 in
          (ap (λ (x : Message). x.host) one ∙ first.0.2, ap (λ (x : Message). x.body) one ∙ first.0.3)

      goes_down : m.body ≡ Down → FirstDown S s m.host
      goes_down is = (
        (m, cause, refl, is),
        λ was. never
            (λ h g first. (let q : Down ≡ GiveBack g = sym is ∙ (given_message h g first).2 in cc))
            (λ h first. first.1 (subst (HasGoneDown S) (down_message h first).0 was)),
      )

      gives : (g : Give) → m.body ≡ GiveBack g → FirstGiven v S s m.host g
      gives g is = (
        (m.moves, ((m, cause, refl, now, refl, is), up), in_place),
        λ was. never
            (λ h j first.
            let p = given_message h j first in
            let one : g ≡ j = give_of g j (sym is ∙ p.2) in
            first.1 (subst (λ (y : HostId × Give). IsApplied v S y.0 (number_of y.1)) (λ i. (p.0 i, one i)) was)) no_down,
      )
        where
          no_down : (h : HostId) → FirstDown S s h → ⊥
          no_down h first = let q : GiveBack g ≡ Down = sym is ∙ (down_message h first).1 in cc

          now : m.epoch ≡ epoch S
          now = elim (cases_nat m.epoch (epoch S)) [
            | inl e ↦ e
            | inr late ↦ absurd (never (λ h j first. late (given_message h j first).1) no_down)
          ]

          up : IsLive S m.host
          up = elim (live S m.host) [
            | inl e ↦ e
            | inr dead ↦ absurd (never (λ h j first.
                dead (subst (IsLive S) (sym (given_message h j first).0) first.0.1.1)) no_down)
          ]

          in_place : Here v S g.fid.fileset m.moves
          in_place = elim (here v S g.fid.fileset m.moves) [
            | inl e ↦ e
            | inr away ↦ absurd (never (λ h j first.
                let one : g ≡ j = give_of g j (sym is ∙ (given_message h j first).2) in
                let same = one_message s.cause m first.0.1.0.0 cause first.0.1.0.1 in
                let moves : m.moves ≡ first.0.0 = ap (λ (x : Message). x.moves) same ∙ first.0.1.0.4 in
                away (subst (λ (y : Give × ℕ). Here v S y.0.fid.fileset y.1) (λ i. (sym one i, sym moves i)) first.0.2))
                no_down)
          ]

      of_body : First
      of_body = elim (is_down m.body) [
        | inl is ↦ inr (m.host, goes_down is)
        | inr not_down ↦ elim (is_give m.body) [
          | inl (g, is) ↦ inl (m.host, g, gives g is)
          | inr none ↦ absurd (never (λ h g first. none g (given_message h g first).2)
              (λ h first. not_down (down_message h first).1))
        ]
      ]

    pub first_of : First
    first_of = go s.cause refl
      where
        go : (c : Cause) → s.cause ≡ c → First
        go (Came m) e = of_body m e
        go (Restart line) e =
            absurd (some (no_message v S tree s k (λ m q. (let r : Restart line ≡ Came m = sym e ∙ q in cc))))
        go Flushed e = absurd (some (no_message v S tree s k (λ m q. (let r : Flushed ≡ Came m = sym e ∙ q in cc))))
        go (Line line) e =
            absurd (some (no_message v S tree s k (λ m q. (let r : Line line ≡ Came m = sym e ∙ q in cc))))
        go Lapse e = absurd (some (no_message v S tree s k (λ m q. (let r : Lapse ≡ Came m = sym e ∙ q in cc))))
        go Evict e = absurd (some (no_message v S tree s k (λ m q. (let r : Evict ≡ Came m = sym e ∙ q in cc))))
        go (Freight freight) e = absurd (some (no_message v S tree s k (λ m q. (let r : (Freight freight) ≡ Came m = sym e ∙ q in cc))))
        go End e = absurd (some (no_message v S tree s k (λ m q. (let r : End ≡ Came m = sym e ∙ q in cc))))

-- the end of a use stands before what is decided
pub end_by_cause : (xs : List AppliedOf) (a : Answer) → list_all is_decision (decisions xs) ≡ true → In (Replied a) xs
    → In (Replied a) (by_cause xs)
end_by_cause [] a all i = i
end_by_cause (Replied x ∷ xs) a all (inl e) = inl e
end_by_cause (Replied x ∷ xs) a all (inr i) = inr (end_by_cause xs a all i)
end_by_cause (Stored k f ss n ∷ xs) a all (inl e) = absurd (cc)
end_by_cause (Stored k f ss n ∷ xs) a all (inr i) = inr (end_by_cause xs a all i)
end_by_cause (GoesDown k ∷ xs) a all (inl e) = absurd (cc)
end_by_cause (IsMoved move ∷ xs) a all (inl e) = absurd (cc)
end_by_cause (GoesDown k ∷ xs) a all (inr i) = inr (end_by_cause xs a all i)
end_by_cause (IsMoved move ∷ xs) a all (inr i) = inr (end_by_cause xs a all i)
end_by_cause (IsWanted x ∷ xs) a all i = absurd (decided (IsWanted x ∷ xs) all i)
  where
    decided : (ys : List AppliedOf) → list_all is_decision ys ≡ true → In (Replied a) ys → ⊥
    decided [] e i = i
    decided (y ∷ ys) e (inl q) =
        false≢true (ap is_decision q ∙ (and_parts (is_decision y) (list_all is_decision ys) e).0)
    decided (y ∷ ys) e (inr i) = decided ys (and_parts (is_decision y) (list_all is_decision ys) e).1 i
end_by_cause (IsDone x ∷ xs) a all i = absurd (decided (IsDone x ∷ xs) all i)
  where
    decided : (ys : List AppliedOf) → list_all is_decision ys ≡ true → In (Replied a) ys → ⊥
    decided [] e i = i
    decided (y ∷ ys) e (inl q) =
        false≢true (ap is_decision q ∙ (and_parts (is_decision y) (list_all is_decision ys) e).0)
    decided (y ∷ ys) e (inr i) = decided ys (and_parts (is_decision y) (list_all is_decision ys) e).1 i
