-- What a server's step applies by its cause: a give-back that it takes for the first time, a Down, or nothing.
use Rattle.std.proofs.Common.{List, ap, inl, inr, refl, subst, sym, ℕ, ◌++◌, ◌∙◌, ◌∷◌, ◌≡◌}
use Rattle.std.specs.Prelude.{[]}
use Rattle.base_types.specs.declared.ids.FilesetId.{FilesetId}
use Rattle.base_types.specs.declared.ids.HostId.{HostId}
use Rattle.base_types.specs.declared.ids.ServerId.{ServerId}
use Rattle.tree_answers.specs.declared.tree.Tree.{Tree}
use Rattle.message_types.specs.declared.giving.Give.{Give}
use Rattle.message_types.specs.declared.message.Body.TheVariants.{Down, GiveBack}
use Rattle.message_types.specs.declared.message.Message.{Message}
use Rattle.run_contents.proofs.Bodies.{cases_nat, down, here, is_down, is_give, live}
use Rattle.run_contents.proofs.Caused.{no_message}
use Rattle.run_rules.specs.Doings.{Doing, HasGoneDown as IsDownHost, Here, IsApplied, IsLive, epoch}
use Rattle.run_rules.specs.ServerDecides.{FirstDown, FirstGiven, ServerApplies, by_cause, ended_by, stored_of}
use Rattle.run_rules.specs.Tokens.{number_of}
use Rattle.run_rules.specs.declared.applied.Applied.TheVariants.{IsDown}
use Rattle.run_rules.specs.declared.applied.Applied.{Applied}
use Rattle.run_rules.specs.declared.step.Cause.{Cause}
use Rattle.run_rules.specs.declared.step.Cause.TheVariants.{End, Evict, Flushed, Freight, Lapse, Line, Message as Came}
use Rattle.run_rules.specs.declared.step.Cause.TheVariants.{Restart}
use Rattle.run_rules.specs.declared.step.Step.{Step}

pub data CauseIs (v : ServerId) (S : List Doing) (K : Tree) (s : Step) : Type 0 where
  Gives : (m : Message) (g : Give) → s.cause ≡ Came m → m.body ≡ GiveBack g → FirstGiven v S s m.host g
      → by_cause s.applied ≡ stored_of K m.host g ++ ended_by m.host g → CauseIs v S K s
  Downs : (h : HostId) → by_cause s.applied ≡ IsDown h ∷ [] → CauseIs v S K s
  AppliesNone : by_cause s.applied ≡ [] → CauseIs v S K s

module _ (v : ServerId) (S : List Doing) (K : Tree) (s : Step) (k : ServerApplies v K S s) where
  -- a message is the cause, and something is applied
  module _ (some : by_cause s.applied ≡ [] → ⊥) (m : Message) (cause : s.cause ≡ Came m) where
    one_message : (n : Message) → s.cause ≡ Came n → m ≡ n
    one_message n e = let r : Came m ≡ Came n = sym cause ∙ e in cc

    down_body : (h : HostId) → FirstDown S s h → m.body ≡ Down
    down_body h first = ap (λ (x : Message). x.body) (one_message first.0.0 first.0.1) ∙ first.0.3

    down_host : (h : HostId) → FirstDown S s h → m.host ≡ h
    down_host h first = ap (λ (x : Message). x.host) (one_message first.0.0 first.0.1) ∙ first.0.2

    give_body : (h : HostId) (g : Give) → FirstGiven v S s h g → m.body ≡ GiveBack g
    give_body h g first = ap (λ (x : Message). x.body) (one_message first.0.1.0.0 first.0.1.0.1) ∙ first.0.1.0.5

    -- it is a give-back
    module _ (g : Give) (is : m.body ≡ GiveBack g) where
      never : ((h : HostId) (j : Give) → FirstGiven v S s h j → ⊥) → ⊥
      never non =
          some (k.else_none non (λ h first. (let q : GiveBack g ≡ Down = sym is ∙ down_body h first in cc)))

      one_give : (h : HostId) (j : Give) → FirstGiven v S s h j → g ≡ j
      one_give h j first = let q : GiveBack g ≡ GiveBack j = sym is ∙ give_body h j first in cc

      one_host : (h : HostId) (j : Give) → FirstGiven v S s h j → m.host ≡ h
      one_host h j first = ap (λ (x : Message). x.host) (one_message first.0.1.0.0 first.0.1.0.1) ∙ first.0.1.0.2

      given : FirstGiven v S s m.host g
      given = elim (cases_nat m.epoch (epoch S)) [
        | inr late ↦ absurd (never (λ h j first.
            late (ap (λ (x : Message). x.epoch) (one_message first.0.1.0.0 first.0.1.0.1) ∙ first.0.1.0.3)))
        | inl now ↦ elim (live S m.host) [
          | inr dead ↦ absurd (never (λ h j first.
              dead (subst (IsLive S) (sym (one_host h j first)) first.0.1.1)))
          | inl up ↦ elim (here v S g.fid.fileset m.moves) [
            | inr away ↦ absurd (never (λ h j first.
                let moves : m.moves ≡ first.0.0 =
                ap (λ (x : Message). x.moves) (one_message first.0.1.0.0 first.0.1.0.1) ∙ first.0.1.0.4 in
                let one = one_give h j first in
                away (subst (λ (y : FilesetId × ℕ). Here v S y.0 y.1)
                (λ i. ((sym one i).fid.fileset, sym moves i)) first.0.2)))
            | inl in_place ↦ (
              (m.moves, ((m, cause, refl, now, refl, is), up), in_place),
              λ was. never (λ h j first.
                  let host_is = one_host h j first in
                  let one = one_give h j first in
                  first.1 (subst (λ (y : HostId × Give). IsApplied v S y.0 (number_of y.1))
                  (λ i. (host_is i, one i)) was)),
            )
          ]
        ]
      ]

    -- it is a Down
    downs : m.body ≡ Down → ((h : HostId) (j : Give) → FirstGiven v S s h j → ⊥) → CauseIs v S K s
    downs is non = elim (down S m.host) [
      | inr up ↦ Downs m.host (k.down m.host ((m, cause, refl, is), up))
      | inl was ↦ absurd (some (k.else_none non (λ h first. first.1 (subst (IsDownHost S) (down_host h first) was))))
    ]

    by_message : CauseIs v S K s
    by_message = elim (is_give m.body) [
      | inl (g, is) ↦ Gives m g cause is (given g is) (k.given m.host g (given g is))
      | inr none ↦ elim (is_down m.body) [
        | inl is ↦ downs is (λ h j first. none j (give_body h j first))
        | inr other ↦ absurd (some (k.else_none (λ h j first. none j (give_body h j first))
            (λ h first. other (down_body h first))))
      ]
    ]

  pub cause_is : CauseIs v S K s
  cause_is = go (by_cause s.applied) refl s.cause refl
    where
      none : (other : Cause) → s.cause ≡ other → ((m : Message) → other ≡ Came m → ⊥) → CauseIs v S K s
      none other e never = AppliesNone (no_message v S K s k (λ m q. never m (sym e ∙ q)))

      go : (xs : List Applied) → by_cause s.applied ≡ xs → (c : Cause) → s.cause ≡ c → CauseIs v S K s
      go [] e c q = AppliesNone e
      go (x ∷ xs) e (Came m) q = by_message (λ no. (let r : x ∷ xs ≡ [] = sym e ∙ no in cc)) m q
      go (x ∷ xs) e (Restart line) q = none (Restart line) q (λ m q. cc)
      go (x ∷ xs) e (Line line) q = none (Line line) q (λ m q. cc)
      go (x ∷ xs) e Flushed q = none Flushed q (λ m q. cc)
      go (x ∷ xs) e Lapse q = none Lapse q (λ m q. cc)
      go (x ∷ xs) e Evict q = none Evict q (λ m q. cc)
      go (x ∷ xs) e (Freight freight) q = none (Freight freight) q (λ m q. cc)
      go (x ∷ xs) e End q = none End q (λ m q. cc)
