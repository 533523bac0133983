-- What a batch leaves that is tried twice, and what batches leave one after the other.
use Rattle.std.proofs.Common.{◌≡◌, ◌≤◌, ◌⊎◌, ℕ, zero, suc, ◌+◌, ◌-◌, List, [], ◌∷◌, length, take, drop, ◌++◌, max, min, inl, inr, refl, sym, subst, ◌∙◌, ap, arith}
use Rattle.std.proofs.lemmas.List.{take_min, take-append-drop}
use Rattle.message_types.specs.Soundness.{Each}
use Rattle.store_acts.specs.Acts.{act_done, booted, state_after}
use Rattle.store_acts.specs.Sound.{AllFit, Fits}
use Rattle.store_acts.specs.declared.act.Act.{Act}
use Rattle.store_acts.specs.declared.act.Act.TheVariants.{Boot, Epoch, Host, Do, Refuse, Give, Leave, Back, Left, Settle, Part}
use Rattle.store_state.specs.declared.state.StoreState.{StoreState}
use Rattle.service_moves.specs.Again.{IsNumbered, AreNew, IsAgain, IsRepeatable}
use Rattle.service_moves.proofs.Repeats.{fits_again}
use Rattle.service_moves.proofs.Again.{again_changes_nothing, again_adds_nothing, new_take, new_drop}

-- whether an act under a number fits hangs on no record
fits_anywhere : (act : Act) (s t : StoreState) → IsNumbered act → Fits s act → Fits t act
fits_anywhere (Do host number call) s t n f = f
fits_anywhere (Refuse host id number refusal) s t n f = f
fits_anywhere (Give host number fid pieces given) s t n f = f
fits_anywhere Boot s t n f = absurd n
fits_anywhere Epoch s t n f = absurd n
fits_anywhere (Host host known) s t n f = absurd n
fits_anywhere (Leave id to) s t n f = absurd n
fits_anywhere (Back host number id refusal) s t n f = absurd n
fits_anywhere (Left id) s t n f = absurd n
fits_anywhere (Settle id) s t n f = absurd n
fits_anywhere (Part from ship id moves at part) s t n f = absurd n

pub all_fit : (acts : List Act) (s t : StoreState) → Each IsNumbered acts → AllFit s acts → AllFit t acts
all_fit [] s t n f = tt
all_fit (act ∷ acts) s t n f =
    (fits_anywhere act s t n.0 f.0, all_fit acts (act_done s act).state (act_done t act).state n.1 f.1)

fit_take : (k : ℕ) (acts : List Act) (s : StoreState) → AllFit s acts → AllFit s (take k acts)
fit_take zero acts s f = tt
fit_take (suc k) [] s f = tt
fit_take (suc k) (act ∷ acts) s f = (f.0, fit_take k acts (act_done s act).state f.1)

fit_drop : (k : ℕ) (acts : List Act) (s : StoreState) → AllFit s acts → AllFit (state_after s (take k acts)) (drop k acts)
fit_drop zero acts s f = f
fit_drop (suc k) [] s f = tt
fit_drop (suc k) (act ∷ acts) s f = fit_drop k acts (act_done s act).state f.1

-- acts that are new may be given again
pub new_again : (acts : List Act) (state : StoreState) → AllFit state acts → AreNew state acts → IsAgain state acts
new_again acts state f h = record {
  fits = λ k. all_fit acts state (state_after state (take k acts)) h.numbered f;
  whole = again_changes_nothing state acts h;
  part = again_adds_nothing state acts h;
}

-- and so may one act that is repeatable
pub once_again : (state : StoreState) (act : Act) → Fits state act → IsRepeatable state act → IsAgain state (act ∷ [])
once_again state act f same = record { fits = fits; whole = whole; part = part }
  where
    none : (j : ℕ) → take {A = Act} j [] ≡ []
    none zero = refl
    none (suc j) = refl

    one : (k : ℕ) → take (suc k) (act ∷ []) ≡ act ∷ []
    one k = ap (λ acts. act ∷ acts) (none k)

    done : (k : ℕ) → state_after state (take (suc k) (act ∷ [])) ≡ (act_done state act).state
    done k = ap (state_after state) (one k)

    again : (k : ℕ) → state_after (state_after state (take (suc k) (act ∷ []))) (act ∷ []) ≡ (act_done state act).state
    again k = ap (λ s. state_after s (act ∷ [])) (done k) ∙ same

    fits : (k : ℕ) → AllFit (state_after state (take k (act ∷ []))) (act ∷ [])
    fits zero = (f, tt)
    fits (suc k) = subst (λ s. AllFit s (act ∷ [])) (sym (done k)) (fits_again state act same f, tt)

    whole : (k : ℕ) → state_after (state_after state (take k (act ∷ []))) (act ∷ []) ≡ state_after state (act ∷ [])
    whole zero = refl
    whole (suc k) = again k

    part : (k j : ℕ) → state_after (state_after state (take k (act ∷ []))) (take j (act ∷ [])) ≡ state_after state (take (max k j) (act ∷ []))
    part zero j = let most : max zero j ≡ j = omega arith in rw most refl
    part (suc k) zero = let most : max (suc k) zero ≡ suc k = omega arith in rw most refl
    part (suc k) (suc j) =
        let most : max (suc k) (suc j) ≡ suc (max k j) = omega arith in
        ap (λ acts. state_after (state_after state (take (suc k) (act ∷ []))) acts) (one j)
        ∙ again k ∙ sym (done (max k j)) ∙ ap (λ n. state_after state (take n (act ∷ []))) (sym most)

-- acts fit again
pub again_fits : (start after opened : StoreState) (batch : List Act) (k : ℕ) → IsAgain start batch → after ≡ state_after start (take k batch) → opened ≡ after → AllFit opened batch
again_fits start after opened batch k h first same = subst (λ s. AllFit s batch) (sym (same ∙ first)) (h.fits k)

-- the second try
pub tried_twice : (start after opened end : StoreState) (batch : List Act) (k : ℕ) → IsAgain start batch → after ≡ state_after start (take k batch) → opened ≡ after
    → end ≡ state_after opened batch → end ≡ state_after start batch
tried_twice start after opened end batch k h first same second = second ∙ ap (λ s. state_after s batch) (same ∙ first) ∙ h.whole k

-- and what it leaves where it fails
pub failed_twice : (start after opened end : StoreState) (batch : List Act) (k j : ℕ) → IsAgain start batch → k ≤ length batch → j ≤ length batch
    → after ≡ state_after start (take k batch) → opened ≡ after → end ≡ state_after opened (take j batch)
    → (m : ℕ) × (m ≤ length batch) × (end ≡ state_after start (take m batch))
failed_twice start after opened end batch k j h low short first same second =
    (max k j, omega (arith, low, short), second ∙ ap (λ s. state_after s (take j batch)) (same ∙ first) ∙ h.part k j)

-- a run begins
pub begins : (state : StoreState) → state_after state (Boot ∷ []) ≡ booted state
unfolding act_done
begins state = refl

-- what a store holds once it began one, or failed
pub begun : (start after : StoreState) → (k : ℕ) × (k ≤ length (Boot ∷ [])) × (after ≡ state_after start (take k (Boot ∷ []))) → (after ≡ start) ⊎ (after ≡ booted start)
begun start after (zero, low, e) = inl e
begun start after (suc zero, low, e) = inr (e ∙ begins start)
begun start after (suc (suc k), low, e) = absurd (omega (arith, low))

pub same_begun : (start after opened : StoreState) → opened ≡ after → (after ≡ start) ⊎ (after ≡ booted start) → (opened ≡ start) ⊎ (opened ≡ booted start)
same_begun start after opened same (inl e) = inl (same ∙ e)
same_begun start after opened same (inr e) = inr (same ∙ e)

-- the epoch tells which it is
pub not_begun : (start opened : StoreState) → opened.epoch ≡ start.epoch → (opened ≡ start) ⊎ (opened ≡ booted start) → opened ≡ start
not_begun start opened e (inl same) = same
not_begun start opened e (inr made) = let more = ap (λ (s : StoreState). s.epoch) made in absurd (omega (arith, e, more))

pub has_begun : (start opened : StoreState) → (opened.epoch ≡ start.epoch → ⊥) → (opened ≡ start) ⊎ (opened ≡ booted start) → opened ≡ booted start
has_begun start opened h (inl same) = absurd (h (ap (λ (s : StoreState). s.epoch) same))
has_begun start opened h (inr made) = made

-- a batch of many acts
abbrev pub batch_in : List Act → ℕ → ℕ → List Act
batch_in acts from to = take (to - from) (drop from acts)

-- it fits, and is new
batch_new : (start now : StoreState) (acts : List Act) (from to : ℕ) → now ≡ state_after start (take from acts) → AreNew start acts → AreNew now (batch_in acts from to)
batch_new start now acts from to e h =
    subst (λ s. AreNew s (batch_in acts from to)) (sym e) (new_take (to - from) (drop from acts) (state_after start (take from acts)) (new_drop from acts start h))

batch_fits : (start now : StoreState) (acts : List Act) (from to : ℕ) → now ≡ state_after start (take from acts) → AllFit start acts → AllFit now (batch_in acts from to)
batch_fits start now acts from to e f =
    subst (λ s. AllFit s (batch_in acts from to)) (sym e) (fit_take (to - from) (drop from acts) (state_after start (take from acts)) (fit_drop from acts start f))

-- so it may be given again
pub batch_again : (start now : StoreState) (acts : List Act) (from to : ℕ) → now ≡ state_after start (take from acts) → AllFit start acts → AreNew start acts
    → IsAgain now (batch_in acts from to)
batch_again start now acts from to e f h = new_again (batch_in acts from to) now (batch_fits start now acts from to e f) (batch_new start now acts from to e h)

-- all of them
pub take_all : (n : ℕ) (acts : List Act) → length acts ≤ n → take n acts ≡ acts
take_all zero [] h = refl
take_all zero (act ∷ acts) h = absurd (omega (arith, h))
take_all (suc n) [] h = refl
take_all (suc n) (act ∷ acts) h = ap (λ xs. act ∷ xs) (take_all n acts (omega (arith, h)))

-- a batch that ends with the acts
pub take_to : (acts : List Act) (to end : ℕ) → to ≡ min (length acts) end → take to acts ≡ take end acts
take_to acts to end e =
    let swapped : to ≡ min end (length acts) = omega (arith, e) in
    ap (λ n. take n acts) swapped ∙ take_min end acts

-- the acts so far and a batch are the acts up to its end
take_more : (n m : ℕ) (acts : List Act) → take n acts ++ take m (drop n acts) ≡ take (n + m) acts
take_more zero m acts = let e : zero + m ≡ m = omega arith in rw e refl
take_more (suc n) zero [] = let e : suc n + zero ≡ suc n = omega arith in rw e refl
take_more (suc n) (suc m) [] = let e : suc n + suc m ≡ suc (suc (n + m)) = omega arith in rw e refl
take_more (suc n) m (act ∷ acts) = let e : suc n + m ≡ suc (n + m) = omega arith in rw e (ap (λ xs. act ∷ xs) (take_more n m acts))

pub take_batch : (acts : List Act) (from to : ℕ) → from ≤ to → take from acts ++ batch_in acts from to ≡ take to acts
take_batch acts from to low =
    let sum : from + (to - from) ≡ to = omega (arith, low) in
    take_more from (to - from) acts ∙ ap (λ n. take n acts) sum

-- and with what is left they are all
pub take_rest : (acts : List Act) (from to : ℕ) → from ≤ to → (take from acts ++ batch_in acts from to) ++ drop to acts ≡ acts
take_rest acts from to low = ap (λ l. l ++ drop to acts) (take_batch acts from to low) ∙ take-append-drop to acts
