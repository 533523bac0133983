-- Steps of stores, one after the other.
use Rattle.std.proofs.Common.{◌≡◌, ◌≢◌, ◌⊎◌, ◌+◌, ◌++◌, ◌∙◌, ℕ, zero, suc, List, [], ◌∷◌, length, take, set, inl, inr, refl, sym, subst, ap, arith, length-append}
use Rattle.std.specs.Prelude.{Option, Bool, true, false, ◌==◌, if◌then◌else◌, slice_get, Some, Result, Ok, Err, OnOk}
use Rattle.std.proofs.lemmas.Bool.{cond-true, cond-false, eq-eqb, ne_eqb}
use Rattle.std.proofs.lemmas.List.{take-append-le}
use Rattle.std.proofs.Math.Seq.{take-append-add, take-length}
use Rattle.base_types.specs.declared.limits.TheConstants.{BATCH_ACTS_MAX}
use Rattle.store_acts.specs.Acts.{state_after}
use Rattle.store_acts.specs.declared.act.Act.{Act}
use Rattle.store_memory.specs.Views.{View, Leaves, IsFirstOf, DoesActs}
use Rattle.store_memory.proofs.Doing.{after_append, first_more, first_then, leaves_none, leaves_then, leaves_weaker}
use Rattle.store_state.specs.declared.state.StoreState.{StoreState}
use Rattle.service_moves.specs.Doing.{Step, acts_at, steps_of, DoSteps}
use Rattle.service_moves.proofs.Stores.{either_place, is_there, map_length, on_ok_then, set_beside, set_length, set_there, there_within}

-- the acts of a store among steps

put_front : (here : Bool) (act : Act) (xs ys : List Act) → (if here then act ∷ (xs ++ ys) else (xs ++ ys)) ≡ (if here then act ∷ xs else xs) ++ ys
put_front true act xs ys = refl
put_front false act xs ys = refl

pub acts_append : (place : ℕ) (front behind : List Step) → acts_at place (front ++ behind) ≡ acts_at place front ++ acts_at place behind
acts_append place [] behind = refl
acts_append place (step ∷ front) behind =
    ap (λ (l : List Act). if step.place == place then step.act ∷ l else l) (acts_append place front behind) ∙ put_front (step.place == place) step.act (acts_at place front) (acts_at place behind)

pub acts_own : (place : ℕ) (acts : List Act) → acts_at place (steps_of place acts) ≡ acts
acts_own place [] = refl
acts_own place (act ∷ acts) =
    cond-true (place == place) (act ∷ acts_at place (steps_of place acts)) (acts_at place (steps_of place acts)) (eq-eqb place place refl) ∙ ap (λ (l : List Act). act ∷ l) (acts_own place acts)

pub acts_other : (place other : ℕ) (acts : List Act) → other ≢ place → acts_at place (steps_of other acts) ≡ []
acts_other place other [] apart = refl
acts_other place other (act ∷ acts) apart =
    cond-false (other == place) (act ∷ acts_at place (steps_of other acts)) (acts_at place (steps_of other acts)) (ne_eqb other place apart) ∙ acts_other place other acts apart

pub take_steps : (n place : ℕ) (acts : List Act) → take n (steps_of place acts) ≡ steps_of place (take n acts)
take_steps zero place acts = refl
take_steps (suc n) place [] = refl
take_steps (suc n) place (act ∷ acts) = (let here : Step = record { place = place; act = act } in ap (λ (l : List Step). here ∷ l) (take_steps n place acts))

pub steps_length : (place : ℕ) (acts : List Act) → length (steps_of place acts) ≡ length acts
steps_length place acts = map_length {A = Act} {B = Step} (λ act. record { place = place; act = act }) acts

take_front : (n : ℕ) (front behind : List Step) → (rest : List Step) × (take n (front ++ behind) ≡ take n front ++ rest)
take_front zero front behind = ([], refl)
take_front (suc n) [] behind = (take (suc n) behind, refl)
take_front (suc n) (step ∷ front) behind = (let rest = take_front n front behind in (rest.0, ap (λ (l : List Step). step ∷ l) rest.1))

take_whole : (n : ℕ) (steps : List Step) → (rest : List Step) × (steps ≡ take n steps ++ rest)
take_whole zero steps = (steps, refl)
take_whole (suc n) [] = ([], refl)
take_whole (suc n) (step ∷ steps) = (let rest = take_whole n steps in (rest.0, ap (λ (l : List Step). step ∷ l) rest.1))

-- what the first acts of a store among some steps made, the first among more of them made
more_steps : (state : StoreState) (place : ℕ) (few more : List Step) → (rest : List Step) × (more ≡ few ++ rest) → (found : Option StoreState) → IsFirstOf state (acts_at place few) found → IsFirstOf state (acts_at place more) found
more_steps state place few more (rest, is) found first =
    subst (λ (l : List Act). IsFirstOf state l found) (sym (ap (acts_at place) is ∙ acts_append place few rest)) (first_more state (acts_at place few) (acts_at place rest) found first)

module _ {S : Type 0} (view : S → View) where
  -- nothing was to be done
  pub steps_none : {T E : Type 0} (result : Result T E) (stores : List S) → DoSteps view result [] stores stores
  steps_none result stores = record {
    cut = 0;
    within = omega arith;
    all = by result;
    count = refl;
    states = λ k before after x y.
        (let both : Some before ≡ Some after = sym x ∙ y in
        let same : before ≡ after = cc in
        ap (λ (s : S). (view s).state) (sym same));
    leaves = λ k before after x y.
        (let both : Some before ≡ Some after = sym x ∙ y in
        let same : before ≡ after = cc in
        subst (λ (s : S). Leaves (IsFirstOf (view before).state []) (view before) (view s)) same (leaves_none _ (view before)));
  }
    where
      by : {T E : Type 0} (result : Result T E) → OnOk result (◌≡◌ {A = ℕ} 0 0)
      by (Ok value) = refl
      by (Err error) = tt

  -- one store did acts
  pub steps_one : {T E : Type 0} (result : Result T E) (acts : List Act) (stores : List S) (place : ℕ) (before after : S) → slice_get stores place ≡ Some before
      → DoesActs result acts (view before) (view after) → DoSteps view result (steps_of place acts) stores (set stores place after)
  steps_one result acts stores place before after was does = record {
    cut = does.done;
    within = (let size = steps_length place acts in let few = does.within in omega (arith, size, few));
    all = on_ok_then result (does.done ≡ length acts) (does.done ≡ length (steps_of place acts)) (λ e. e ∙ sym (steps_length place acts)) does.all;
    count = set_length stores place after;
    states = λ k old new x y. states k old new x y (either_place k place);
    leaves = λ k old new x y. left k old new x y (either_place k place);
  }
    where
      news : List S
      news = set stores place after

      here : slice_get news place ≡ Some after
      here = set_there stores place after (there_within stores place before was)

      own : (n : ℕ) → acts_at place (take n (steps_of place acts)) ≡ take n acts
      own n = ap (acts_at place) (take_steps n place acts) ∙ acts_own place (take n acts)

      none : (k n : ℕ) → k ≢ place → acts_at k (take n (steps_of place acts)) ≡ []
      none k n apart = ap (acts_at k) (take_steps n place acts) ∙ acts_other k place (take n acts) (λ e. apart (sym e))

      states : (k : ℕ) (old new : S) → slice_get stores k ≡ Some old → slice_get news k ≡ Some new → (k ≡ place) ⊎ (k ≢ place) → (view new).state ≡ state_after (view old).state (acts_at k (take does.done (steps_of place acts)))
      states k old new x y (inl e) =
          (let one : Some before ≡ Some old = sym was ∙ ap (slice_get stores) (sym e) ∙ x in
          let two : Some after ≡ Some new = sym here ∙ ap (slice_get news) (sym e) ∙ y in
          let p : before ≡ old = cc in
          let q : after ≡ new = cc in
          subst (λ (j : ℕ). (view new).state ≡ state_after (view old).state (acts_at j (take does.done (steps_of place acts)))) (sym e)
          (subst (λ (s : S). (view new).state ≡ state_after (view s).state (acts_at place (take does.done (steps_of place acts)))) p
          (subst (λ (s : S). (view s).state ≡ state_after (view before).state (acts_at place (take does.done (steps_of place acts)))) q (does.state ∙ ap (state_after (view before).state) (sym (own does.done))))))
      states k old new x y (inr apart) =
          (let both : Some old ≡ Some new = sym x ∙ sym (set_beside stores place k after apart) ∙ y in
          let same : old ≡ new = cc in
          ap (λ (s : S). (view s).state) (sym same) ∙ ap (state_after (view old).state) (sym (none k does.done apart)))

      left : (k : ℕ) (old new : S) → slice_get stores k ≡ Some old → slice_get news k ≡ Some new → (k ≡ place) ⊎ (k ≢ place)
          → Leaves (IsFirstOf (view old).state (acts_at k (take (does.done + BATCH_ACTS_MAX) (steps_of place acts)))) (view old) (view new)
      left k old new x y (inl e) =
          (let one : Some before ≡ Some old = sym was ∙ ap (slice_get stores) (sym e) ∙ x in
          let two : Some after ≡ Some new = sym here ∙ ap (slice_get news) (sym e) ∙ y in
          let p : before ≡ old = cc in
          let q : after ≡ new = cc in
          let far : ℕ = does.done + BATCH_ACTS_MAX in
          subst (λ (j : ℕ). Leaves (IsFirstOf (view old).state (acts_at j (take far (steps_of place acts)))) (view old) (view new)) (sym e)
          (subst (λ (s : S). Leaves (IsFirstOf (view s).state (acts_at place (take far (steps_of place acts)))) (view s) (view new)) p
          (subst (λ (s : S). Leaves (IsFirstOf (view before).state (acts_at place (take far (steps_of place acts)))) (view before) (view s)) q
          (subst (λ (l : List Act). Leaves (IsFirstOf (view before).state l) (view before) (view after)) (sym (own far)) does.leaves))))
      left k old new x y (inr apart) =
          (let both : Some old ≡ Some new = sym x ∙ sym (set_beside stores place k after apart) ∙ y in
          let same : old ≡ new = cc in
          subst (λ (s : S). Leaves (IsFirstOf (view old).state (acts_at k (take (does.done + BATCH_ACTS_MAX) (steps_of place acts)))) (view old) (view s)) same (leaves_none _ (view old)))

  -- some steps, and then others
  pub steps_then : {T U E : Type 0} (value : T) (result : Result U E) (front behind : List Step) (old mid new : List S)
      → DoSteps {E = E} view (Ok value) front old mid → DoSteps view result behind mid new → DoSteps view result (front ++ behind) old new
  steps_then value result front behind old mid new first second = record {
    cut = length front + second.cut;
    within = (let size = length-append front behind in let few = second.within in omega (arith, size, few));
    all = (let size = length-append front behind in on_ok_then result (second.cut ≡ length behind) (length front + second.cut ≡ length (front ++ behind)) (λ e. omega (arith, size, e)) second.all);
    count = second.count ∙ first.count;
    states = λ k before after x y.
        (let m = between k before x in
        second.states k m.0 after m.1 y
        ∙ ap (λ (s : StoreState). state_after s (acts_at k (take second.cut behind))) (made k before m.0 x m.1)
        ∙ sym (after_append (acts_at k front) (acts_at k (take second.cut behind)) (view before).state)
        ∙ ap (state_after (view before).state) (sym (acts_append k front (take second.cut behind)))
        ∙ ap (λ (l : List Step). state_after (view before).state (acts_at k l)) (sym (take-append-add front behind second.cut)));
    leaves = λ k before after x y.
        (let m = between k before x in
        let far : ℕ = length front + second.cut + BATCH_ACTS_MAX in
        let near : ℕ = second.cut + BATCH_ACTS_MAX in
        let sum : length front + near ≡ far = omega arith in
        let all : take far (front ++ behind) ≡ front ++ take near behind = ap (λ (n : ℕ). take n (front ++ behind)) (sym sum) ∙ take-append-add front behind near in
        let here : acts_at k (take far (front ++ behind)) ≡ acts_at k front ++ acts_at k (take near behind) = ap (acts_at k) all ∙ acts_append k front (take near behind) in
        leaves_then
        (leaves_weaker (first.leaves k before m.0 x m.1)
        (λ found is.
        subst (λ (l : List Act). IsFirstOf (view before).state l found) (sym here)
        (first_more (view before).state (acts_at k front) (acts_at k (take near behind)) found
        (more_steps (view before).state k (take (first.cut + BATCH_ACTS_MAX) front) front (within_front first.cut) found is))))
        (leaves_weaker (second.leaves k m.0 after m.1 y)
        (λ found is.
        subst (λ (l : List Act). IsFirstOf (view before).state l found) (sym here)
        (first_then (view before).state (acts_at k front) (acts_at k (take near behind)) found (subst (λ (s : StoreState). IsFirstOf s (acts_at k (take near behind)) found) (made k before m.0 x m.1) is)))));
  }
    where
      between : (k : ℕ) (before : S) → slice_get old k ≡ Some before → (m : S) × (slice_get mid k ≡ Some m)
      between k before x = is_there mid k (let w = there_within old k before x in let c = first.count in omega (arith, w, c))

      made : (k : ℕ) (before m : S) → slice_get old k ≡ Some before → slice_get mid k ≡ Some m → (view m).state ≡ state_after (view before).state (acts_at k front)
      made k before m x y =
          first.states k before m x y ∙ ap (λ (n : ℕ). state_after (view before).state (acts_at k (take n front))) first.all
          ∙ ap (λ (l : List Step). state_after (view before).state (acts_at k l)) (take-length front)

      within_front : (n : ℕ) → (rest : List Step) × (front ≡ take (n + BATCH_ACTS_MAX) front ++ rest)
      within_front n = take_whole (n + BATCH_ACTS_MAX) front

  -- where some steps failed, others behind them weren't begun
  pub steps_stop : {T U E F : Type 0} (result : Result T E) (error : F) (front behind : List Step) (old new : List S) → DoSteps view result front old new → DoSteps {T = U} view (Err error) (front ++ behind) old new
  steps_stop result error front behind old new first = record {
    cut = first.cut;
    within = (let size = length-append front behind in let few = first.within in omega (arith, size, few));
    all = tt;
    count = first.count;
    states = λ k before after x y.
        first.states k before after x y ∙ ap (λ (l : List Step). state_after (view before).state (acts_at k l)) (sym (take-append-le first.cut front behind first.within));
    leaves = λ k before after x y.
        leaves_weaker (first.leaves k before after x y)
        (λ found is. more_steps (view before).state k (take (first.cut + BATCH_ACTS_MAX) front) (take (first.cut + BATCH_ACTS_MAX) (front ++ behind)) (take_front (first.cut + BATCH_ACTS_MAX) front behind) found is);
  }

  -- the same steps by another answer of the same kind
  pub steps_ok : {T U E F : Type 0} (value : T) (other : U) (steps : List Step) (old new : List S) → DoSteps {E = E} view (Ok value) steps old new → DoSteps {E = F} view (Ok other) steps old new
  steps_ok value other steps old new does = record { cut = does.cut; within = does.within; all = does.all; count = does.count; states = does.states; leaves = does.leaves }

  pub steps_err : {T U E F : Type 0} (result : Result T E) (error : F) (steps : List Step) (old new : List S) → DoSteps view result steps old new → DoSteps {T = U} view (Err error) steps old new
  steps_err result error steps old new does = record { cut = does.cut; within = does.within; all = tt; count = does.count; states = does.states; leaves = does.leaves }

  -- nothing is nothing, whatever the answer
  pub steps_nothing : {T U E F : Type 0} (result : Result T E) (answer : Result U F) (old new : List S) → DoSteps view result [] old new → DoSteps view answer [] old new
  steps_nothing result answer old new does = record {
    cut = does.cut;
    within = does.within;
    all = by answer;
    count = does.count;
    states = does.states;
    leaves = does.leaves;
  }
    where
      none : does.cut ≡ 0
      none = (let few = does.within in omega (arith, few))

      by : {U F : Type 0} (answer : Result U F) → OnOk answer (does.cut ≡ 0)
      by (Ok value) = none
      by (Err error) = tt
