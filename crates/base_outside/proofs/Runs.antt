-- Runs of disk calls, one after another.
use Rattle.std.proofs.Common.{◌⊎◌, inl, inr, ⊎_elim, ℕ, List, sym, ◌∙◌, subst, arith}
use Rattle.base_types.specs.View.{View}
use Rattle.base_types.specs.Crash.{IsSettled, IsQuiet, After, ChangesBy}
use Rattle.base_outside.specs.Runs.{LeavesOnly}

-- one run and then another
pub then : {P : List ℕ → Type 0} {old mid new : View} → LeavesOnly P old mid → LeavesOnly P mid new → LeavesOnly P old new
then first second = record {
  later = omega (arith, first.later, second.later);
  each = λ t c le left. ⊎_elim (first.each t c le) (λ has. inr has) (second.each t c (omega (arith, le, first.later)) left);
}

-- what has P has Q
pub weaker : {P Q : List ℕ → Type 0} {old new : View} → LeavesOnly P old new → ((c : List ℕ) → P c → Q c) → LeavesOnly Q old new
weaker run so = record {
  later = run.later;
  each = λ t c le left. ⊎_elim (λ earlier. inl earlier) (λ has. inr (so c has)) (run.each t c le left);
}

-- what changes no byte leaves what could have been left before
pub quiet : {old new : View} (P : List ℕ → Type 0) → IsQuiet old new → LeavesOnly P old new
quiet P calls = record { later = calls.later; each = λ t c le left. inl (calls.since t c le left) }

pub quiet_then : {old mid new : View} → IsQuiet old mid → IsQuiet mid new → IsQuiet old new
quiet_then first second = record {
  image = second.image ∙ first.image;
  later = omega (arith, first.later, second.later);
  now = λ c left. first.now c (second.now c left);
  since = λ t c le left. first.since t c le (second.since t c (omega (arith, le, first.later)) left);
  kept = λ t c le left. second.kept t c (omega (arith, le, first.later)) (first.kept t c le left);
}

-- and a settled disk stays settled
pub quiet_settled : {old new : View} → IsQuiet old new → IsSettled old → IsSettled new
quiet_settled calls settled = λ c left. settled c (calls.now c left) ∙ sym calls.image

-- one change and then another make one
pub then_changes : {old mid new : View} (step : List ℕ → List ℕ → Type 0) → ((a b c : List ℕ) → step a b → step b c → step a c)
    → ChangesBy step old mid → ChangesBy step mid new → ChangesBy step old new
then_changes {old = old} {mid = mid} {new = new} step trans first second = record {
  later = omega (arith, first.later, second.later);
  now = λ c left. both c (second.now c left);
  since = λ t c le left. ⊎_elim (first.since t c le) (λ changed. inr (both c changed)) (second.since t c (omega (arith, le, first.later)) left);
  kept = λ t c le left. second.kept t c (omega (arith, le, first.later)) (first.kept t c le left);
}
  where
    both : (c : List ℕ) → After step mid.may_leave c → After step old.may_leave c
    both c changed =
        let from = first.now changed.0 changed.1 in
        (from.0, from.1, trans from.0 changed.0 c from.2 changed.2)

-- the same change, seen as a wider step
pub wider_changes : {old new : View} {step wider : List ℕ → List ℕ → Type 0} → ChangesBy step old new → ((c d : List ℕ) → step c d → wider c d) → ChangesBy wider old new
wider_changes {old = old} {step = step} {wider = wider} run so = record {
  later = run.later;
  now = λ c left. wide c (run.now c left);
  since = λ t c le left. ⊎_elim (λ earlier. inl earlier) (λ changed. inr (wide c changed)) (run.since t c le left);
  kept = run.kept;
}
  where
    wide : (c : List ℕ) → After step old.may_leave c → After wider old.may_leave c
    wide c changed = (changed.0, changed.1, so changed.0 c changed.2)

-- what changes no byte is any change that may be none
pub quiet_changes : {old new : View} (step : List ℕ → List ℕ → Type 0) → ((c : List ℕ) → step c c) → IsQuiet old new → ChangesBy step old new
quiet_changes step none calls = record {
  later = calls.later;
  now = λ c left. (c, calls.now c left, none c);
  since = λ t c le left. inl (calls.since t c le left);
  kept = calls.kept;
}

-- a change of a settled disk leaves its image after the step, or what could have been left before
pub changes_settled : {old new : View} (step : List ℕ → List ℕ → Type 0) → IsSettled old → ChangesBy step old new → LeavesOnly (step old.image) old new
changes_settled {old = old} step settled run = record {
  later = run.later;
  each = λ t c le left. ⊎_elim (λ earlier. inl earlier) (λ changed. inr (subst (λ (d : List ℕ). step d c) (settled changed.0 changed.1) changed.2)) (run.since t c le left);
}

-- a crash during the run leaves what a crash at its start could leave, or what has P
pub during : {P : List ℕ → Type 0} {old new : View} → LeavesOnly P old new → (c : List ℕ) → new.left_since old.moment c → old.may_leave c ⊎ P c
during {old = old} run c left = ⊎_elim (λ earlier. inl (old.only_now c earlier)) (λ has. inr has) (run.each old.moment c (omega arith) left)

-- a change leaves what has P, where each outcome of before has it after the step
pub changes_leave : {P : List ℕ → Type 0} {step : List ℕ → List ℕ → Type 0} {old new : View} → ChangesBy step old new → ((c : List ℕ) → After step old.may_leave c → P c) → LeavesOnly P old new
changes_leave run so = record {
  later = run.later;
  each = λ t c le left. ⊎_elim (λ earlier. inl earlier) (λ changed. inr (so c changed)) (run.since t c le left);
}
