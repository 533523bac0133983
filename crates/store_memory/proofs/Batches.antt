-- What the first acts of a batch make.
use Rattle.std.proofs.Common.{◌≡◌, ◌<◌, ◌≤◌, ℕ, zero, suc, ◌+◌, List, [], ◌∷◌, ◌++◌, length, get_or, take, sym, ap, ◌∙◌, subst, arith, Result, Ok, Err}
use Rattle.std.specs.Prelude.{OnOk, OnErr}
use Rattle.message_types.specs.Soundness.{Each}
use Rattle.store_acts.specs.declared.act.Act.{Act}
use Rattle.store_state.specs.declared.state.StoreState.{StoreState}
use Rattle.store_acts.specs.Acts.{act_done, state_after, dones_of}
use Rattle.store_acts.specs.Sound.{IsAct, KeepsLimits}
use Rattle.store_acts.proofs.Next.{act_next}

-- one act more
pub after_next : (acts : List Act) (i : ℕ) (act : Act) (state : StoreState) → i < length acts →
    act ≡ get_or acts i act →
    state_after state (take (i + 1) acts) ≡ (act_done (state_after state (take i acts)) act).state
after_next [] i act state h e = absurd (omega (arith, h))
after_next (first ∷ acts) zero act state h e = ap (λ a. (act_done state a).state) (sym e)
after_next (first ∷ acts) (suc i) act state h e =
    let more : suc i + 1 ≡ suc (i + 1) = omega arith in
    rw more (after_next acts i act (act_done state first).state (omega (arith, h)) e)

pub dones_next : (acts : List Act) (i : ℕ) (act : Act) (state : StoreState) → i < length acts →
    act ≡ get_or acts i act →
    dones_of state (take (i + 1) acts) ≡ dones_of state (take i acts) ++
    (act_done (state_after state (take i acts)) act).done ∷ []
dones_next [] i act state h e = absurd (omega (arith, h))
dones_next (first ∷ acts) zero act state h e = ap (λ a. (act_done state a).done ∷ []) (sym e)
dones_next (first ∷ acts) (suc i) act state h e =
    let more : suc i + 1 ≡ suc (i + 1) = omega arith in
    rw more (ap (λ dones. (act_done state first).done ∷ dones)
    (dones_next acts i act (act_done state first).state (omega (arith, h)) e))

-- each act is one that a store may be given
pub each_at : {X : Type 0} (P : X → Type 0) (xs : List X) (i : ℕ) (x : X) → i < length xs → x ≡ get_or xs i x →
    Each P xs → P x
each_at P [] i x h e k = absurd (omega (arith, h))
each_at P (y ∷ xs) zero x h e k = subst P (sym e) k.0
each_at P (y ∷ xs) (suc i) x h e k = each_at P xs i x (omega (arith, h)) e k.1

-- what is said of a store after the first acts of a batch
pub record Reached (start now : StoreState) (acts : List Act) (i : ℕ) : Type 0 where
  pub state : now ≡ state_after start (take i acts)
  pub server : now.server ≡ start.server
  pub roster : now.roster ≡ start.roster
  pub limits : KeepsLimits now
  pub counts : now.epoch + now.ship ≤ start.epoch + start.ship + i

-- one act more
pub reached_next : (start now next : StoreState) (acts : List Act) (i : ℕ) (act : Act) → Reached start now acts i →
    Each (IsAct start.roster start.server) acts →
    i < length acts → act ≡ get_or acts i act → next ≡ (act_done now act).state → Reached start next acts (i + 1)
reached_next start now next acts i act r fits h e s =
    let fit : IsAct now.roster now.server act = rw r.roster
    (rw r.server (each_at (IsAct start.roster start.server) acts i act h e fits)) in
    let n = act_next now act r.limits fit in
    let done = (act_done now act).state in
    let a = n.counts in let b = r.counts in
    let most : done.epoch + done.ship ≤ start.epoch + start.ship + (i + 1) = omega (arith, a, b) in
    let Within : StoreState → Type 0 = λ x. x.epoch + x.ship ≤ start.epoch + start.ship + (i + 1) in
    record {
      state = s ∙ ap (λ x. (act_done x act).state) r.state ∙ sym (after_next acts i act start h e);
      server = ap (λ x. x.server) s ∙ n.server ∙ r.server;
      roster = ap (λ x. x.roster) s ∙ n.roster ∙ r.roster;
      limits = subst KeepsLimits (sym s) n.limits;
      counts = subst Within (sym s) most;
    }

-- what holds holds also where there was an error
pub on_err : {T E : Type 0} (result : Result T E) (P : Type 0) → P → OnErr result P
on_err (Ok value) P p = tt
on_err (Err error) P p = p

-- the limits are kept, whether an act was done or not
pub limits_next : {T E : Type 0} (result : Result T E) (old new : StoreState) (act : Act) → KeepsLimits old → IsAct old.roster old.server act
    → OnOk result (new ≡ (act_done old act).state) → OnErr result (new ≡ old) → KeepsLimits new
limits_next (Ok done) old new act limits is made same = subst KeepsLimits (sym made) (act_next old act limits is).limits
limits_next (Err fault) old new act limits is made same = subst KeepsLimits (sym same) limits
