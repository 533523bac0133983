-- Give-backs that may all be given once more wherever the first of them were done.
use Rattle.std.proofs.Common.{◌≡◌, ◌∙◌, ◌≤◌, ℕ, zero, suc, List, [], ◌∷◌, ◌++◌, length, refl, sym, ap, subst, arith}
use Rattle.std.specs.Prelude.{drop, take}
use Rattle.base_types.specs.declared.ids.HostId.{HostId}
use Rattle.base_types.specs.declared.ids.ServerId.{ServerId}
use Rattle.base_types.specs.declared.limits.TheConstants.{HOSTS_MAX}
use Rattle.tree_calls.specs.declared.roster.Roster.{Roster}
use Rattle.message_types.specs.Soundness.{Each, IsHost}
use Rattle.store_acts.proofs.Next.{act_next}
use Rattle.store_acts.specs.Acts.{act_done, state_after}
use Rattle.store_acts.specs.Sound.{AllFit, IsAct, KeepsLimits}
use Rattle.store_acts.specs.declared.act.Act.{Act}
use Rattle.store_acts.specs.declared.act.Act.TheVariants.{
  Boot,
  Epoch,
  Host,
  Do,
  Refuse,
  Give as Gives,
  Leave,
  Back,
  Left,
  Settle,
  Part,
}
use Rattle.store_state.specs.declared.state.StoreState.{StoreState}
use Rattle.server_keeps.proofs.Gaves.{IsStale, give_no_less, give_stale, stale_idle, stale_stays}
use Rattle.server_looks.specs.Acts.{AreRepeatable, IsGive, IsLimited}

-- a give-back that changes nothing
abbrev IsIdle : StoreState → Act → Type 0
IsIdle state (Gives host number fid pieces given) = IsStale state fid.fileset host number
IsIdle state _ = ⊥

few : (state : StoreState) → IsLimited state → (host : HostId) → IsHost state.roster host → host.0 ≤ HOSTS_MAX
few state k host is = let most = k.hosts in omega (arith, most, is)

-- # One act

-- what holds of a store holds behind a give-back
limited_next : (state : StoreState) (act : Act) → IsLimited state → IsAct state.roster state.server act
    → IsLimited (act_done state act).state
limited_next state act k is =
    let next = act_next state act k.limits is in record {
      limits = next.limits;
      hosts = subst (λ (r : Roster). length r.hosts ≤ HOSTS_MAX) (sym next.roster) k.hosts;
    }

acts_next : (state : StoreState) (act : Act) → IsLimited state → IsAct state.roster state.server act → (acts : List Act)
    → Each (IsAct state.roster state.server) acts
    → Each (IsAct (act_done state act).state.roster (act_done state act).state.server) acts
acts_next state act k is acts all =
    let next = act_next state act k.limits is in
    subst (λ (r : Roster). Each (IsAct r (act_done state act).state.server) acts) (sym next.roster)
    (subst (λ (v : ServerId). Each (IsAct state.roster v) acts) (sym next.server) all)

idle_stays : (state : StoreState) (act one : Act) → IsLimited state → IsAct state.roster state.server act → IsGive act
    → IsIdle state one → IsIdle (act_done state act).state one
idle_stays state (Gives h n fid pieces given) (Gives host number other bytes len) k is give idle =
    stale_stays state (act_done state (Gives h n fid pieces given)).state other.fileset host number
    (give_no_less state h n fid pieces given k.limits (few state k h is.0) other.fileset host) idle
idle_stays state (Gives h n fid pieces given) Boot k is give idle = absurd idle
idle_stays state (Gives h n fid pieces given) Epoch k is give idle = absurd idle
idle_stays state (Gives h n fid pieces given) (Host host known) k is give idle = absurd idle
idle_stays state (Gives h n fid pieces given) (Do host number call) k is give idle = absurd idle
idle_stays state (Gives h n fid pieces given) (Refuse host id number refusal) k is give idle = absurd idle
idle_stays state (Gives h n fid pieces given) (Leave id to) k is give idle = absurd idle
idle_stays state (Gives h n fid pieces given) (Back host number id refusal) k is give idle = absurd idle
idle_stays state (Gives h n fid pieces given) (Left id) k is give idle = absurd idle
idle_stays state (Gives h n fid pieces given) (Settle id) k is give idle = absurd idle
idle_stays state (Gives h n fid pieces given) (Part from ship id moves at part) k is give idle = absurd idle
idle_stays state Boot one k is give idle = absurd give
idle_stays state Epoch one k is give idle = absurd give
idle_stays state (Host host known) one k is give idle = absurd give
idle_stays state (Do host number call) one k is give idle = absurd give
idle_stays state (Refuse host id number refusal) one k is give idle = absurd give
idle_stays state (Leave id to) one k is give idle = absurd give
idle_stays state (Back host number id refusal) one k is give idle = absurd give
idle_stays state (Left id) one k is give idle = absurd give
idle_stays state (Settle id) one k is give idle = absurd give
idle_stays state (Part from ship id moves at part) one k is give idle = absurd give

idle_now : (state : StoreState) (act : Act) → IsLimited state → IsAct state.roster state.server act → IsGive act
    → IsIdle (act_done state act).state act
idle_now state (Gives h n fid pieces given) k is give =
    give_stale state h n fid pieces given k.limits (few state k h is.0)
idle_now state Boot k is give = absurd give
idle_now state Epoch k is give = absurd give
idle_now state (Host host known) k is give = absurd give
idle_now state (Do host number call) k is give = absurd give
idle_now state (Refuse host id number refusal) k is give = absurd give
idle_now state (Leave id to) k is give = absurd give
idle_now state (Back host number id refusal) k is give = absurd give
idle_now state (Left id) k is give = absurd give
idle_now state (Settle id) k is give = absurd give
idle_now state (Part from ship id moves at part) k is give = absurd give

idle_same : (state : StoreState) (act : Act) → IsLimited state → IsAct state.roster state.server act
    → IsIdle state act → (act_done state act).state ≡ state
idle_same state (Gives h n fid pieces given) k is idle =
    stale_idle state h n fid pieces given k.limits (few state k h is.0) idle
idle_same state Boot k is idle = absurd idle
idle_same state Epoch k is idle = absurd idle
idle_same state (Host host known) k is idle = absurd idle
idle_same state (Do host number call) k is idle = absurd idle
idle_same state (Refuse host id number refusal) k is idle = absurd idle
idle_same state (Leave id to) k is idle = absurd idle
idle_same state (Back host number id refusal) k is idle = absurd idle
idle_same state (Left id) k is idle = absurd idle
idle_same state (Settle id) k is idle = absurd idle
idle_same state (Part from ship id moves at part) k is idle = absurd idle

-- # Several

-- they fit wherever they are given
pub all_fit : (acts : List Act) (state : StoreState) → Each IsGive acts → AllFit state acts
all_fit [] state gives = tt
all_fit (Gives h n fid pieces given ∷ acts) state gives = (tt, all_fit acts _ gives.1)
all_fit (Boot ∷ acts) state gives = absurd gives.0
all_fit (Epoch ∷ acts) state gives = absurd gives.0
all_fit (Host host known ∷ acts) state gives = absurd gives.0
all_fit (Do host number call ∷ acts) state gives = absurd gives.0
all_fit (Refuse host id number refusal ∷ acts) state gives = absurd gives.0
all_fit (Leave id to ∷ acts) state gives = absurd gives.0
all_fit (Back host number id refusal ∷ acts) state gives = absurd gives.0
all_fit (Left id ∷ acts) state gives = absurd gives.0
all_fit (Settle id ∷ acts) state gives = absurd gives.0
all_fit (Part from ship id moves at part ∷ acts) state gives = absurd gives.0

-- give-backs that a store may be given
record AreSo (state : StoreState) (acts : List Act) : Type 0 where
  pub limited : IsLimited state
  pub gives : Each IsGive acts
  pub each : Each (IsAct state.roster state.server) acts

next_so : (state : StoreState) (act : Act) (acts : List Act) → AreSo state (act ∷ acts)
    → AreSo (act_done state act).state acts
next_so state act acts k = record {
  limited = limited_next state act k.limited k.each.0;
  gives = k.gives.1;
  each = acts_next state act k.limited k.each.0 acts k.each.1;
}

idle_after : (acts : List Act) (state : StoreState) (one : Act) → AreSo state acts → IsIdle state one
    → IsIdle (state_after state acts) one
idle_after [] state one k idle = idle
idle_after (act ∷ acts) state one k idle =
    idle_after acts (act_done state act).state one (next_so state act acts k)
    (idle_stays state act one k.limited k.each.0 k.gives.0 idle)

all_idle : (acts : List Act) (state : StoreState) → AreSo state acts → Each (IsIdle (state_after state acts)) acts
all_idle [] state k = tt
all_idle (act ∷ acts) state k = (
  idle_after acts (act_done state act).state act (next_so state act acts k)
      (idle_now state act k.limited k.each.0 k.gives.0),
  all_idle acts (act_done state act).state (next_so state act acts k),
)

so_after : (acts more : List Act) (state : StoreState) → AreSo state acts
    → Each (IsAct state.roster state.server) more
    → IsLimited (state_after state acts)
    × Each (IsAct (state_after state acts).roster (state_after state acts).server) more
so_after [] more state k all = (k.limited, all)
so_after (act ∷ acts) more state k all =
    so_after acts more (act_done state act).state (next_so state act acts k)
    (acts_next state act k.limited k.each.0 more all)

nothing_again : (acts : List Act) (state : StoreState) → IsLimited state
    → Each (IsAct state.roster state.server) acts → Each (IsIdle state) acts → state_after state acts ≡ state
nothing_again [] state k all idle = refl
nothing_again (act ∷ acts) state k all idle =
    ap (λ (s : StoreState). state_after s acts) (idle_same state act k all.0 idle.0)
    ∙ nothing_again acts state k all.1 idle.1

after_both : (xs ys : List Act) (state : StoreState)
    → state_after state (xs ++ ys) ≡ state_after (state_after state xs) ys
after_both [] ys state = refl
after_both (act ∷ xs) ys state = after_both xs ys (act_done state act).state

parted : (k : ℕ) (xs : List Act) → take k xs ++ drop k xs ≡ xs
parted zero xs = refl
parted (suc k) [] = refl
parted (suc k) (x ∷ xs) = ap (λ (ys : List Act). x ∷ ys) (parted k xs)

each_first : (P : Act → Type 0) (k : ℕ) (xs : List Act) → Each P xs → Each P (take k xs)
each_first P zero xs all = tt
each_first P (suc k) [] all = tt
each_first P (suc k) (x ∷ xs) all = (all.0, each_first P k xs all.1)

pub gives_repeat : (state : StoreState) (acts : List Act) → IsLimited state → Each IsGive acts
    → Each (IsAct state.roster state.server) acts → AreRepeatable state acts
gives_repeat state acts limited gives each = record {
  fits = all_fit acts state gives;
  fits_again = λ k. all_fit acts (state_after state (take k acts)) gives;
  again = again;
}
  where
    again : (k : ℕ) → state_after (state_after state (take k acts)) acts ≡ state_after state acts
    again k =
        let front = take k acts in let rest = drop k acts in
        let so : AreSo state front = record {
          limited = limited;
          gives = each_first IsGive k acts gives;
          each = each_first (IsAct state.roster state.server) k acts each;
        } in
        let later = so_after front front state so so.each in
        let still : state_after (state_after state front) front ≡ state_after state front =
        nothing_again front (state_after state front) later.0 later.1 (all_idle front state so) in
        let is : front ++ rest ≡ acts = parted k acts in
        subst (λ (l : List Act). state_after (state_after state front) l ≡ state_after state l) is
        (after_both front rest (state_after state front)
        ∙ ap (λ (s : StoreState). state_after s rest) still ∙ sym (after_both front rest state))

-- they leave whose store it is
same_after : (acts : List Act) (state : StoreState) → AreSo state acts
    → ((state_after state acts).server ≡ state.server) × ((state_after state acts).roster ≡ state.roster)
same_after [] state k = (refl, refl)
same_after (act ∷ acts) state k =
    let next = act_next state act k.limited.limits k.each.0 in
    let rest = same_after acts (act_done state act).state (next_so state act acts k) in
    (rest.0 ∙ next.server, rest.1 ∙ next.roster)

pub gives_same : (state : StoreState) (acts : List Act) → IsLimited state → Each IsGive acts
    → Each (IsAct state.roster state.server) acts
    → ((state_after state acts).server ≡ state.server) × ((state_after state acts).roster ≡ state.roster)
gives_same state acts limited gives each =
    same_after acts state (record { limited = limited; gives = gives; each = each })
