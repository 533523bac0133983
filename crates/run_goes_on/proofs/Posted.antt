-- What comes of a message that a step sends.
use Rattle.std.proofs.Common.{Bool, List, [], ap, false, if◌then◌else◌, inl, inr, length, map, refl, subst, sym, true}
use Rattle.std.proofs.Common.{◌++◌, ◌∙◌, ◌∷◌, ◌≡◌, ◌⊎◌}
use Rattle.std.specs.Prelude.{drop}
use Rattle.script_lines.specs.declared.script.Script.{Script}
use Rattle.message_types.specs.declared.message.Message.{Message}
use Rattle.run_rules.specs.Past.{In, appended}
use Rattle.run_rules.specs.Plans.{MayCome, Posting, all_left, left_after, post, posted, receiver, resender}
use Rattle.run_rules.specs.Plans.{says_down, sent_in, ways_in}
use Rattle.run_rules.specs.declared.fate.Fate.{Fate}
use Rattle.run_rules.specs.declared.fate.Fate.TheVariants.{Lost, Once as GoesOnce, Twice}
use Rattle.run_rules.specs.declared.fate.Left.{Left}
use Rattle.run_rules.specs.declared.fate.Way.{Way}
use Rattle.run_rules.specs.declared.fate.Way.TheVariants.{Delayed, Free, Held}
use Rattle.run_rules.specs.declared.step.Step.{Step}
use Rattle.run_goes_on.specs.Rest.{AllIsOver, IsOver, IsStopped, IsTakenIn, LapsesIn, NoneIsHeld, posted_by}

messages_of : (script : Script) (ms earlier : List Message) (left : Left)
    → map (λ (p : Posting). p.message) (post script earlier left ms) ≡ ms
messages_of script [] earlier left = refl
messages_of script (m ∷ ms) earlier left =
    ap (λ (z : List Message). m ∷ z) (messages_of script ms (earlier ++ m ∷ []) (left_after script earlier m left))

among : (ms : List Message) (L : List Posting) → map (λ (p : Posting). p.message) L ≡ ms → (m : Message) → In m ms
    → (p : Posting) × In p L × (p.message ≡ m)
among [] L e m i = elim i [ ]
among (x ∷ ms) [] e m i = absurd (cc)
among (x ∷ ms) (p ∷ L) e m (inl q) = let first : p.message ≡ x = cc in (p, inl refl, first ∙ sym q)
among (x ∷ ms) (p ∷ L) e m (inr i) =
    let rest : map (λ (p : Posting). p.message) L ≡ ms = cc in
    let k = among ms L rest m i in (k.0, inr k.1, k.2)

behind : (xs ms : List Message) (L : List Posting) → map (λ (p : Posting). p.message) L ≡ xs ++ ms → (m : Message)
    → In m ms → (p : Posting) × In p (drop (length xs) L) × (p.message ≡ m)
behind [] ms L e m i = among ms L e m i
behind (x ∷ xs) ms [] e m i = absurd (let z : [] ≡ x ∷ (xs ++ ms) = e in cc)
behind (x ∷ xs) ms (p ∷ L) e m i =
    let z : p.message ∷ map (λ (p : Posting). p.message) L ≡ x ∷ (xs ++ ms) = e in
    let rest : map (λ (p : Posting). p.message) L ≡ xs ++ ms = cc in
    behind xs ms L rest m i

-- # That a host stops is never lost, held or delayed
if_true : {X : Type 0} (b : Bool) (x y : X) → b ≡ true → (if b then x else y) ≡ x
if_true true x y e = refl
if_true false x y e = absurd (cc)

down_fate : (script : Script) (ms earlier : List Message) (left : Left) (p : Posting) → In p
    (post script earlier left ms)
    → says_down p.message ≡ true → p.fate ≡ GoesOnce Free
down_fate script [] earlier left p i e = elim i [ ]
down_fate script (m ∷ ms) earlier left p (inl q) e =
    ap (λ (x : Posting). x.fate) q
    ∙ if_true (says_down m) (GoesOnce Free) _ (subst (λ (x : Posting). says_down x.message ≡ true) q e)
down_fate script (m ∷ ms) earlier left p (inr i) e =
    down_fate script ms (earlier ++ m ∷ []) (left_after script earlier m left) p i e

in_drop : {X : Type 0} (x : X) (ys : List Message) (xs : List X) → In x (drop (length ys) xs) → In x xs
in_drop x [] xs i = i
in_drop x (y ∷ ys) [] i = elim i [ ]
in_drop x (y ∷ ys) (z ∷ xs) i = inr (in_drop x ys xs i)

-- so a later step takes it
pub down_comes : (script : Script) (run : List Step) → AllIsOver script run → (past later : List Step) (s : Step)
    → appended (s ∷ later) past ≡ run → (m : Message) → In m s.sent → says_down m ≡ true
    → IsTakenIn later m ⊎ IsStopped run (receiver m)
down_comes script run over past later s e m i down =
    subst (λ (x : Message). IsTakenIn later x ⊎ IsStopped run (receiver x)) p.2
    ((over past later s p.0 e p.1).taken Free
    (subst (λ (x : Fate). In Free (ways_in x)) (sym fate) (inl refl)) tt)
  where
    p : (p : Posting) × In p (posted_by script past s) × (p.message ≡ m)
    p = behind (sent_in past) s.sent (posted script (sent_in (s ∷ past)))
        (messages_of script (sent_in (s ∷ past)) [] (all_left script.net)) m i

    fate : p.0.fate ≡ GoesOnce Free
    fate =
        down_fate script (sent_in (s ∷ past)) [] (all_left script.net) p.0
        (in_drop p.0 (sent_in past) (posted script (sent_in (s ∷ past))) p.1)
        (subst (λ (x : Message). says_down x ≡ true) (sym p.2) down)

module _ (script : Script) (run : List Step) (over : AllIsOver script run) (none : NoneIsHeld script run) where
  -- a later step takes it, or it is a lapse of the node that sends it again
  pub comes_of : (past later : List Step) (s : Step) → appended (s ∷ later) past ≡ run → (m : Message) → In m s.sent
      → (IsStopped run (receiver m) → ⊥) → (IsStopped run (resender m) → ⊥)
      → LapsesIn later (resender m) ⊎ IsTakenIn later m
  comes_of past later s e m i takes sends = go p.0.fate refl
    where
      p : (p : Posting) × In p (posted_by script past s) × (p.message ≡ m)
      p = behind (sent_in past) s.sent (posted script (sent_in (s ∷ past)))
          (messages_of script (sent_in (s ∷ past)) [] (all_left script.net)) m i

      is : IsOver script run later p.0
      is = over past later s p.0 e p.1

      may : (way : Way) → In way (ways_in p.0.fate) → MayCome script run way
      may Free j = tt
      may Delayed j = tt
      may (Held flag) j = none past later s p.0 flag e p.1 j

      taken : (way : Way) → In way (ways_in p.0.fate) → LapsesIn later (resender m) ⊎ IsTakenIn later m
      taken way j = elim (is.taken way j (may way j)) [
        | inl t ↦ inr (subst (IsTakenIn later) p.2 t)
        | inr st ↦ absurd (takes (subst (λ (x : Message). IsStopped run (receiver x)) p.2 st))
      ]

      go : (f : Fate) → p.0.fate ≡ f → LapsesIn later (resender m) ⊎ IsTakenIn later m
      go Lost f = elim (is.lapsed f) [
        | inl t ↦ inl (subst (λ (x : Message). LapsesIn later (resender x)) p.2 t)
        | inr st ↦ absurd (sends (subst (λ (x : Message). IsStopped run (resender x)) p.2 st))
      ]
      go (GoesOnce way) f = taken way (subst (λ (x : Fate). In way (ways_in x)) (sym f) (inl refl))
      go (Twice way other) f = taken way (subst (λ (x : Fate). In way (ways_in x)) (sym f) (inl refl))
