-- How looks end, and on what that depends.
use Rattle.std.proofs.Common.{◌≡◌, Bool, true, false, List, [], ◌∷◌, Result, Ok, Err, refl, sym, ap, ◌∙◌, subst, inl, inr}
use Rattle.base_types.specs.Outcomes.{and_then, either}
use Rattle.base_types.specs.declared.ids.Fid.{Fid}
use Rattle.tree_calls.specs.declared.reply.Refusal.{Refusal}
use Rattle.tree_filesets.specs.Checks.{unless}
use Rattle.token_types.specs.declared.token.Need.{Need}
use Rattle.token_types.specs.declared.token.Token.{Token}
use Rattle.token_types.specs.Covers.{Covers}
use Rattle.need_host.specs.Looks.{Look, outcome, look_on, after_check, checked, refuse_if, needs_of, kind_for, CoverAll, IsCovered, IsFirstLack, View}
use Rattle.tree_laws.specs.Parts.{Part}
use Rattle.need_host.specs.Laws.{LacksAreFirst}
use Rattle.need_host.specs.Looks.Look.{Ends, Looks, Takes}

-- a look after another ends as it does from where the first ended
pub outcome_on : {A B : Type 0} (view : View) (look : Look A) (next : A → Look B) → outcome view (look_on look next) ≡ outcome view (next (outcome view look))
outcome_on view (Ends result) next = refl
outcome_on view (Looks fid part after) next = outcome_on view (after (view fid part)) next
outcome_on view (Takes need after) next = outcome_on view after next

after_checked : {A B : Type 0} (view : View) (next : A → Look (Result B Refusal)) (found : Result A Refusal) → outcome view (after_check next found) ≡ and_then found (λ value. outcome view (next value))
after_checked view next (Ok value) = refl
after_checked view next (Err refusal) = refl

pub outcome_checked : {A B : Type 0} (view : View) (look : Look (Result A Refusal)) (next : A → Look (Result B Refusal)) →
    outcome view (checked look next) ≡ and_then (outcome view look) (λ value. outcome view (next value))
outcome_checked view look next = outcome_on view look (after_check next) ∙ after_checked view next (outcome view look)

pub outcome_refuse : {A : Type 0} (view : View) (b : Bool) (refusal : Refusal) (next : Look (Result A Refusal)) → outcome view (refuse_if b refusal next) ≡ unless b refusal (outcome view next)
outcome_refuse view true refusal next = refl
outcome_refuse view false refusal next = refl

-- steps that go on alike
pub either_then : {A B C E : Type 0} (found : Result A E) (f : A → Result B E) (done : B → C) (refused : E → C) → either (and_then found f) done refused ≡ either found (λ value. either (f value) done refused) refused
either_then (Ok value) f done refused = refl
either_then (Err error) f done refused = refl

-- two views that agree under the tokens
module _ {R : Type 0} (held : List Token) (a b : View) (same : (fid : Fid) (part : Part) → Covers held (record { fid = fid; kind = kind_for part }) → a fid part ≡ b fid part) where
  pub needs_alike : (look : Look R) → IsCovered held a look → needs_of a look ≡ needs_of b look
  needs_alike (Ends result) covered = refl
  needs_alike (Looks fid part next) covered =
      ap (λ needs. record { fid = fid; kind = kind_for part } ∷ needs) (needs_alike (next (a fid part)) covered.1 ∙ ap (λ seen. needs_of b (next seen)) (same fid part covered.0))
  needs_alike (Takes need next) covered = ap (λ needs. need ∷ needs) (needs_alike next covered.1)

  pub outcome_alike : (look : Look R) → IsCovered held a look → outcome a look ≡ outcome b look
  outcome_alike (Ends result) covered = refl
  outcome_alike (Looks fid part next) covered = outcome_alike (next (a fid part)) covered.1 ∙ ap (λ seen. outcome b (next seen)) (same fid part covered.0)
  outcome_alike (Takes need next) covered = outcome_alike next covered.1

  pub covered_alike : (look : Look R) → IsCovered held a look → IsCovered held b look
  covered_alike look covered = subst (CoverAll held) (needs_alike look covered) covered

  pub lack_alike : (look : Look R) (need : Need) → IsFirstLack held (needs_of a look) need → IsFirstLack held (needs_of b look) need
  lack_alike (Ends result) need h = h
  lack_alike (Looks fid part next) need (inl h) = inl h
  lack_alike (Looks fid part next) need (inr (covered, h)) =
      inr (covered, subst (λ seen. IsFirstLack held (needs_of b (next seen)) need) (same fid part covered) (lack_alike (next (a fid part)) need h))
  lack_alike (Takes first next) need (inl h) = inl h
  lack_alike (Takes first next) need (inr (covered, h)) = inr (covered, lack_alike next need h)

-- the first lack
pub lacks_are_first : (held : List Token) (needs : List Need) → LacksAreFirst held needs
lacks_are_first held needs = record { none = none needs; some = some needs; lacked = lacked needs; one = one needs }
  where
    none : (needs : List Need) → CoverAll held needs → (need : Need) → IsFirstLack held needs need → ⊥
    none [] all need h = h
    none (first ∷ needs) all need (inl h) = h.0 all.0
    none (first ∷ needs) all need (inr h) = none needs all.1 need h.1

    some : (needs : List Need) → (CoverAll held needs → ⊥) → ((need : Need) → IsFirstLack held needs need → ⊥) → ⊥
    some [] open_needs nothing = open_needs tt
    some (first ∷ needs) open_needs nothing = nothing first (inl ((λ covered. some needs (λ all. open_needs (covered, all)) (λ need h. nothing need (inr (covered, h)))), refl))

    lacked : (needs : List Need) (need : Need) → IsFirstLack held needs need → Covers held need → ⊥
    lacked [] need h covered = h
    lacked (first ∷ needs) need (inl h) covered = h.0 (subst (Covers held) (sym h.1) covered)
    lacked (first ∷ needs) need (inr h) covered = lacked needs need h.1 covered

    one : (needs : List Need) (a b : Need) → IsFirstLack held needs a → IsFirstLack held needs b → a ≡ b
    one [] a b h k = absurd h
    one (first ∷ needs) a b (inl h) (inl k) = sym h.1 ∙ k.1
    one (first ∷ needs) a b (inl h) (inr k) = absurd (h.0 k.0)
    one (first ∷ needs) a b (inr h) (inl k) = absurd (k.0 h.0)
    one (first ∷ needs) a b (inr h) (inr k) = one needs a b h.1 k.1
