-- What a store does that is given a batch, opened anew where that failed, and given the batch once more.
use Rattle.std.proofs.Common.{◌≡◌, ◌≤◌, ◌+◌, ◌++◌, ◌∙◌, ℕ, zero, suc, List, [], length, take, max, refl, sym, subst, ap, arith}
use Rattle.std.specs.Prelude.{Option, Some, Result, Ok, Err, OnOk, IsErrAnd}
use Rattle.std.proofs.Math.Seq.{take-length}
use Rattle.base_types.specs.declared.limits.TheConstants.{BATCH_ACTS_MAX}
use Rattle.store_acts.specs.Acts.{state_after}
use Rattle.store_acts.specs.declared.act.Act.{Act}
use Rattle.store_state.specs.declared.state.StoreState.{StoreState}
use Rattle.store_memory.specs.Views.{View, Leaves, IsFirstOf, DoesActs}
use Rattle.store_memory.proofs.Doing.{does_stop, leaves_then, leaves_weaker}
use Rattle.service_moves.specs.Again.{IsAgain}
use Rattle.service_moves.proofs.Tries.{take_all}

-- a failure that is passed on
pub never_ok : {T E : Type 0} (result : Result T E) (Q : E → Type 0) → IsErrAnd result Q → OnOk result ⊥
never_ok (Ok value) Q failed = failed
never_ok (Err error) Q failed = tt

-- all of some acts
pub done_all : {T E : Type 0} (value : T) (acts : List Act) (old new : View) → new.state ≡ state_after old.state acts → Leaves (IsFirstOf old.state acts) old new → DoesActs {E = E} (Ok value) acts old new
done_all value acts old new made left = record {
  done = length acts;
  within = omega arith;
  all = refl;
  state = made ∙ ap (state_after old.state) (sym (take-length acts));
  leaves = leaves_weaker left (λ found is. subst (λ (l : List Act). IsFirstOf old.state l found) (sym (take_all (length acts + BATCH_ACTS_MAX) acts (omega arith))) is);
}

-- the first of a batch
pub done_some : {T E : Type 0} (result : Result T E) (acts : List Act) (old new : View) → OnOk result ⊥ → length acts ≤ BATCH_ACTS_MAX → (k : ℕ) × (k ≤ length acts) × (new.state ≡ state_after old.state (take k acts))
    → Leaves (IsFirstOf old.state acts) old new → DoesActs result acts old new
done_some (Ok value) acts old new failed few some left = absurd failed
done_some (Err error) acts old new failed few some left = record {
  done = some.0;
  within = some.1;
  all = tt;
  state = some.2;
  leaves = leaves_weaker left (λ found is. subst (λ (l : List Act). IsFirstOf old.state l found) (sym (take_all (some.0 + BATCH_ACTS_MAX) acts (omega (arith, few)))) is);
}

-- nothing was to be done
pub first_of_none : (state : StoreState) (found : Option StoreState) → IsFirstOf state [] found → found ≡ Some state
first_of_none state found (zero, few, is) = is
first_of_none state found (suc k, few, is) = is

pub done_none : {T E : Type 0} (result : Result T E) (old new : View) → new.state ≡ old.state → Leaves (IsFirstOf old.state []) old new → DoesActs result [] old new
done_none (Ok value) old new same left = record { done = 0; within = omega arith; all = refl; state = same; leaves = left }
done_none (Err error) old new same left = record { done = 0; within = omega arith; all = tt; state = same; leaves = left }

-- one that was asked, and asked again
pub still_leaves : (old mid new : View) → mid.state ≡ old.state → Leaves (IsFirstOf old.state []) old mid → Leaves (IsFirstOf mid.state []) mid new → Leaves (IsFirstOf old.state []) old new
still_leaves old mid new same first second = leaves_then first (leaves_weaker second (λ found is. subst (λ (s : StoreState). IsFirstOf s [] found) same is))

pub asked_again : (old mid opened new : View) → mid.state ≡ old.state → opened.state ≡ mid.state → Leaves (IsFirstOf old.state []) old mid → Leaves (IsFirstOf mid.state []) mid opened → Leaves (IsFirstOf opened.state []) opened new → Leaves (IsFirstOf old.state []) old new
asked_again old mid opened new same again first second third = still_leaves old opened new (again ∙ same) (still_leaves old mid opened same first second) third

-- opened anew after a first try
pub opened_leaves : (old mid opened : View) (batch : List Act) (k : ℕ) → k ≤ length batch → mid.state ≡ state_after old.state (take k batch) → Leaves (IsFirstOf old.state batch) old mid
    → Leaves (IsFirstOf mid.state []) mid opened → Leaves (IsFirstOf old.state batch) old opened
opened_leaves old mid opened batch k few made first again =
    leaves_then first (leaves_weaker again (λ found is. (k, few, first_of_none mid.state found is ∙ ap (λ (s : StoreState). Some s) made)))

-- and a second one
pub twice_leaves : (old mid opened new : View) (batch : List Act) (k : ℕ) → IsAgain old.state batch → k ≤ length batch → mid.state ≡ state_after old.state (take k batch) → opened.state ≡ mid.state
    → Leaves (IsFirstOf old.state batch) old mid → Leaves (IsFirstOf mid.state []) mid opened → Leaves (IsFirstOf opened.state batch) opened new → Leaves (IsFirstOf old.state batch) old new
twice_leaves old mid opened new batch k again few made same first reopened second =
    leaves_then (opened_leaves old mid opened batch k few made first reopened)
    (leaves_weaker second
    (λ found is.
    (let less = is.1 in (
      max k is.0,
      omega (arith, few, less),
      is.2 ∙ ap (λ (s : StoreState). Some (state_after s (take is.0 batch))) (same ∙ made) ∙ ap (λ (s : StoreState). Some s) (again.part k is.0),
    ))))

-- what was done, by another answer of the same kind
pub does_ok : {T U E F : Type 0} (value : T) (other : U) (acts : List Act) (old new : View) → DoesActs {E = E} (Ok value) acts old new → DoesActs {E = F} (Ok other) acts old new
does_ok value other acts old new does = record { done = does.done; within = does.within; all = does.all; state = does.state; leaves = does.leaves }

pub does_err : {T U E F : Type 0} (result : Result T E) (error : F) (acts : List Act) (old new : View) → DoesActs result acts old new → DoesActs {T = U} (Err error) acts old new
does_err result error acts old new does = record { done = does.done; within = does.within; all = tt; state = does.state; leaves = does.leaves }

-- a failure that is passed on
pub does_failed : {T U E F : Type 0} (first : Result T E) (result : Result U F) (acts : List Act) (old new : View) → OnOk result ⊥ → DoesActs first acts old new → DoesActs result acts old new
does_failed first (Ok value) acts old new failed does = absurd failed
does_failed first (Err error) acts old new failed does = does_err first error acts old new does

pub stops_failed : {T U E F : Type 0} (first : Result T E) (result : Result U F) (acts more : List Act) (old new : View) → OnOk result ⊥ → DoesActs first acts old new → DoesActs result (acts ++ more) old new
stops_failed first (Ok value) acts more old new failed does = absurd failed
stops_failed first (Err error) acts more old new failed does = does_stop first error acts more old new does

-- what a store did of one act, and what it holds then
pub made_of : {T E : Type 0} (value : T) (acts : List Act) (old new : View) → DoesActs {E = E} (Ok value) acts old new → new.state ≡ state_after old.state acts
made_of value acts old new does = does.state ∙ ap (λ (n : ℕ). state_after old.state (take n acts)) does.all ∙ ap (state_after old.state) (take-length acts)
