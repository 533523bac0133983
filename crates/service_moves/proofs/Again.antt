-- Acts that were done change nothing when they come again.
use Rattle.std.proofs.Common.{◌≡◌, ◌≤◌, ℕ, zero, suc, List, [], ◌∷◌, ◌++◌, take, drop, max, inl, inr, refl, sym, subst, ◌∙◌, ap, arith}
use Rattle.std.specs.Prelude.{IsTrue, Some, None, replicate}
use Rattle.std.proofs.lemmas.Bool.{cases_lt, false≢true}
use Rattle.std.proofs.lemmas.List.{take-append-drop}
use Rattle.message_types.specs.Soundness.{Each}
use Rattle.store_acts.proofs.Next.{act_next}
use Rattle.store_acts.specs.Acts.{act_done, state_after}
use Rattle.store_acts.specs.Sound.{IsAct}
use Rattle.store_acts.specs.declared.act.Act.{Act}
use Rattle.store_acts.proofs.Limits.{new_fits}
use Rattle.store_state.specs.State.{held_at}
use Rattle.store_state.specs.declared.state.Holding.{Holding}
use Rattle.store_state.specs.declared.state.StoreState.{StoreState}
use Rattle.service_moves.specs.Again.{IsNumbered, AreFresh, KeepsNumbers, AreNew, AgainChangesNothing, AgainAddsNothing, NumbersAreKept}
use Rattle.service_moves.proofs.Numbered.{WasDone, NowOrNothing, done_grows, done_changes_nothing, act_does, keeps_next}

-- acts under numbers, of which some may have been done
pub record IsRun (state : StoreState) (acts : List Act) : Type 0 where
  pub keeps : KeepsNumbers state
  pub sound : Each (IsAct state.roster state.server) acts
  pub numbered : Each IsNumbered acts

pub run_of : (state : StoreState) (acts : List Act) → AreNew state acts → IsRun state acts
run_of state acts h = record { keeps = h.keeps; sound = h.sound; numbered = h.numbered }

pub sound_next : (old new : StoreState) (acts : List Act) → new.roster ≡ old.roster → new.server ≡ old.server → Each (IsAct old.roster old.server) acts → Each (IsAct new.roster new.server) acts
sound_next old new acts roster server h =
    subst (λ r. Each (IsAct r new.server) acts) (sym roster) (subst (λ s. Each (IsAct old.roster s) acts) (sym server) h)

run_next : (state : StoreState) (act : Act) (acts : List Act) → IsRun state (act ∷ acts) → IsRun (act_done state act).state acts
run_next state act acts r =
    let next = act_next state act r.keeps.limits r.sound.0 in
    record {
      keeps = keeps_next act state r.keeps r.sound.0 r.numbered.0;
      sound = sound_next state (act_done state act).state acts next.roster next.server r.sound.1;
      numbered = r.numbered.1;
    }

new_next : (state : StoreState) (act : Act) (acts : List Act) → AreNew state (act ∷ acts) → AreNew (act_done state act).state acts
new_next state act acts h =
    let r = run_next state act acts (run_of state (act ∷ acts) h) in
    record { keeps = r.keeps; sound = r.sound; numbered = r.numbered; fresh = h.fresh.1 }

-- what was done stays done
done_next : (act other : Act) (state : StoreState) → NowOrNothing state (act_done state other) (WasDone other) → WasDone act state → WasDone act (act_done state other).state
done_next act other state (inl (stale, same)) d = subst (WasDone act) (sym same) d
done_next act other state (inr (grows, is)) d = done_grows act state (act_done state other).state grows d

stays_done : (acts : List Act) (state : StoreState) (act : Act) → IsRun state acts → WasDone act state → WasDone act (state_after state acts)
stays_done [] state act r d = d
stays_done (other ∷ acts) state act r d =
    stays_done acts (act_done state other).state act (run_next state other acts r)
    (done_next act other state (act_does other state r.keeps r.sound.0 r.numbered.0) d)

done_now : (act : Act) (state : StoreState) → NowOrNothing state (act_done state act) (WasDone act) → IsTrue (act_done state act).done.fresh → WasDone act (act_done state act).state
done_now act state (inl (stale, same)) fresh = absurd (false≢true (sym stale ∙ fresh))
done_now act state (inr (grows, is)) fresh = is

-- acts that are new were done when they are through
all_done : (acts : List Act) (state : StoreState) → AreNew state acts → Each (λ act. WasDone act (state_after state acts)) acts
all_done [] state h = tt
all_done (act ∷ acts) state h = (
  stays_done acts (act_done state act).state act (run_next state act acts (run_of state (act ∷ acts) h))
      (done_now act state (act_does act state h.keeps h.sound.0 h.numbered.0) h.fresh.0),
  all_done acts (act_done state act).state (new_next state act acts h),
)

nothing_again : (acts : List Act) (state : StoreState) → Each (λ act. WasDone act state) acts → state_after state acts ≡ state
nothing_again [] state h = refl
nothing_again (act ∷ acts) state h = ap (λ s. state_after s acts) (done_changes_nothing act state h.0) ∙ nothing_again acts state h.1

pub after_append : (xs ys : List Act) (state : StoreState) → state_after state (xs ++ ys) ≡ state_after (state_after state xs) ys
after_append [] ys state = refl
after_append (act ∷ xs) ys state = after_append xs ys (act_done state act).state

-- the first of some acts
pub each_take : {X : Type 0} (P : X → Type 0) (k : ℕ) (xs : List X) → Each P xs → Each P (take k xs)
each_take P zero xs h = tt
each_take P (suc k) [] h = tt
each_take P (suc k) (x ∷ xs) h = (h.0, each_take P k xs h.1)

fresh_take : (k : ℕ) (acts : List Act) (state : StoreState) → AreFresh state acts → AreFresh state (take k acts)
fresh_take zero acts state h = tt
fresh_take (suc k) [] state h = tt
fresh_take (suc k) (act ∷ acts) state h = (h.0, fresh_take k acts (act_done state act).state h.1)

pub new_take : (k : ℕ) (acts : List Act) (state : StoreState) → AreNew state acts → AreNew state (take k acts)
new_take k acts state h = record {
  keeps = h.keeps;
  sound = each_take (IsAct state.roster state.server) k acts h.sound;
  numbered = each_take IsNumbered k acts h.numbered;
  fresh = fresh_take k acts state h.fresh;
}

pub new_drop : (k : ℕ) (acts : List Act) (state : StoreState) → AreNew state acts → AreNew (state_after state (take k acts)) (drop k acts)
new_drop zero acts state h = h
new_drop (suc k) [] state h = h
new_drop (suc k) (act ∷ acts) state h = new_drop k acts (act_done state act).state (new_next state act acts h)

pub take_within : {X : Type 0} (k j : ℕ) (xs : List X) → k ≤ j → take k (take j xs) ≡ take k xs
take_within zero j xs h = refl
take_within (suc k) zero xs h = absurd (omega (arith, h))
take_within (suc k) (suc j) [] h = refl
take_within (suc k) (suc j) (x ∷ xs) h = ap (λ ys. x ∷ ys) (take_within k j xs (omega (arith, h)))

pub again_changes_nothing : AgainChangesNothing
again_changes_nothing state acts h k =
    let done = state_after state (take k acts) in
    let split : take k acts ++ drop k acts ≡ acts = take-append-drop k acts in
    let same = nothing_again (take k acts) done (all_done (take k acts) state (new_take k acts state h)) in
    ap (state_after done) (sym split)
    ∙ after_append (take k acts) (drop k acts) done
    ∙ ap (λ s. state_after s (drop k acts)) same
    ∙ sym (after_append (take k acts) (drop k acts) state)
    ∙ ap (state_after state) split

pub again_adds_nothing : AgainAddsNothing
again_adds_nothing state acts h k j = elim (cases_lt k j) [ inl low ↦ longer (omega (arith, low)) | inr high ↦ shorter high ]
  where
    longer : k ≤ j → state_after (state_after state (take k acts)) (take j acts) ≡ state_after state (take (max k j) acts)
    longer low =
        let most : max k j ≡ j = omega (arith, low) in
        let first : take k (take j acts) ≡ take k acts = take_within k j acts low in
        ap (λ (xs : List Act). state_after (state_after state xs) (take j acts)) (sym first)
        ∙ again_changes_nothing state (take j acts) (new_take j acts state h) k
        ∙ ap (λ n. state_after state (take n acts)) (sym most)

    shorter : j ≤ k → state_after (state_after state (take k acts)) (take j acts) ≡ state_after state (take (max k j) acts)
    shorter high =
        let most : max k j ≡ k = omega (arith, high) in
        let first : take j (take k acts) ≡ take j acts = take_within j k acts high in
        let done = all_done (take k acts) state (new_take k acts state h) in
        nothing_again (take j acts) (state_after state (take k acts))
        (subst (λ xs. Each (λ act. WasDone act (state_after state (take k acts))) xs) first (each_take _ j (take k acts) done))
        ∙ ap (λ n. state_after state (take n acts)) (sym most)

-- records that keep numbers
nothing_held : (n s : ℕ) (b : Holding) → held_at (replicate n None) s ≡ Some b → ⊥
nothing_held zero s b e = absurd (cc)
nothing_held (suc n) zero b e = absurd (cc)
nothing_held (suc n) (suc s) b e = nothing_held n s b e

kept_after : (acts : List Act) (state : StoreState) → IsRun state acts → KeepsNumbers (state_after state acts)
kept_after [] state r = r.keeps
kept_after (act ∷ acts) state r = kept_after acts (act_done state act).state (run_next state act acts r)

pub numbers_are_kept : NumbersAreKept
numbers_are_kept = record {
  new = λ server capacity roster few. record {
    limits = new_fits server capacity roster;
    hosts = few;
    given = λ slot holding e. absurd (nothing_held 16 slot holding e);
  };
  after = λ state acts h. kept_after acts state (run_of state acts h);
}
