-- Acts that fit any store, and the first of a batch.
use Rattle.std.proofs.Common.{◌≡◌, ◌≤◌, ◌<◌, ◌++◌, ◌∙◌, ◌↔◌, ◌⊎◌, ℕ, zero, suc, Bool, List, [], ◌∷◌, length, take}
use Rattle.std.proofs.Common.{drop, get_or, inl, inr, refl, sym, subst, ap, arith}
use Rattle.std.specs.Prelude.{IsTrue}
use Rattle.std.proofs.lemmas.List.{take-append-drop, take-append-le}
use Rattle.store_acts.specs.Acts.{act_done, state_after}
use Rattle.store_acts.specs.Sound.{AllFit, Fits, HasName}
use Rattle.store_acts.specs.declared.act.Act.{Act}
use Rattle.store_acts.specs.declared.act.Act.TheVariants.{Do, Leave, Part}
use Rattle.store_memory.proofs.Doing.{first_more, leaves_weaker}
use Rattle.store_memory.specs.Views.{View, IsFirstOf, Leaves}
use Rattle.base_types.specs.declared.ids.FilesetId.{FilesetId}
use Rattle.base_types.specs.declared.ids.HostId.{HostId}
use Rattle.base_types.specs.declared.ids.ServerId.{ServerId}
use Rattle.store_state.specs.State.{new_state}
use Rattle.store_state.specs.declared.state.StoreState.{StoreState}
use Rattle.tree_calls.specs.declared.call.Call.{Call}
use Rattle.tree_calls.specs.declared.ship.ShipPart.{ShipPart}

-- one more
pub fit_next : (n : ℕ) (acts : List Act) (d : Act) (state : StoreState) → n < length acts → AllFit state
    (take n acts) → ((s : StoreState) → Fits s (get_or acts n d))
    → AllFit state (take (suc n) acts)
fit_next n [] d state lt fit fits = absurd (omega (arith, lt))
fit_next zero (act ∷ acts) d state lt fit fits = (fits state, tt)
fit_next (suc n) (act ∷ acts) d state lt fit fits = (
  fit.0,
  fit_next n acts d (act_done state act).state
      (omega (arith, lt)) fit.1 fits,
)

-- what became of the first of a batch became of the first of it
pub first_fault : (old new : StoreState) (count : ℕ) (batch : List Act) → (k : ℕ) × (k ≤ length (take count batch))
    × (new ≡ state_after old (take k (take count batch)))
    → (k : ℕ) × (k ≤ length batch) × (new ≡ state_after old (take k batch))
first_fault old new count batch fault =
    (let whole : take count batch ++ drop count batch ≡ batch = take-append-drop count batch in
    let same : take fault.0 batch ≡ take fault.0 (take count batch) =
    ap (λ (l : List Act). take fault.0 l) (sym whole) ∙ take-append-le fault.0 (take count batch)
    (drop count batch) fault.1 in
    (fault.0, few fault.0 count batch fault.1, fault.2 ∙ ap (λ (l : List Act). state_after old l) (sym same)))
  where
    few : (k n : ℕ) (acts : List Act) → k ≤ length (take n acts) → k ≤ length acts
    few k zero acts le = omega (arith, le)
    few k (suc n) [] le = omega (arith, le)
    few zero (suc n) (act ∷ acts) le = omega arith
    few (suc k) (suc n) (act ∷ acts) le = (let rest = few k n acts (omega (arith, le)) in omega (arith, rest))

pub first_leaves : (old new : View) (count : ℕ) (batch : List Act) → Leaves (IsFirstOf old.state (take count batch))
    old new → Leaves (IsFirstOf old.state batch) old new
first_leaves old new count batch leaves =
    leaves_weaker leaves
    (λ found first.
    subst (λ (l : List Act). IsFirstOf old.state l found) (take-append-drop count batch)
    (first_more old.state (take count batch) (drop count batch) found first))

-- # Acts that fit any store

-- a server's store with nothing in it
abbrev bare : ServerId → StoreState
bare server = new_state server 0 (record { users = []; hosts = []; capacity = [] })

pub do_fits : (b : Bool) (act : Act) (host : HostId) (number : ℕ) (call : Call) → act ≡ Do host number call
    → (IsTrue b ↔ HasName call) → IsTrue b ↔ ((state : StoreState) → Fits state act)
do_fits b act host number call is named =
    (let none = bare (record { 0 = 1 }) in (
      λ yes state. subst (λ (a : Act). Fits state a) (sym is) (named.0 yes),
      λ fits. named.1 (subst (λ (a : Act). Fits none a) is (fits none)),
    ))

-- what begins to leave for a server doesn't fit its own store, nor does what comes from it
leave_fits : (act : Act) (id : FilesetId) (to : ServerId) → act ≡ Leave id to
    → ((state : StoreState) → Fits state act) → ⊥
leave_fits act id to is fits = subst (λ (a : Act). Fits (bare to) a) is (fits (bare to)) refl

part_fits : (act : Act) (from : ServerId) (ship : ℕ) (id : FilesetId) (moves at : ℕ) (part : ShipPart)
    → act ≡ Part from ship id moves at part → ((state : StoreState) → Fits state act) → ⊥
part_fits act from ship id moves at part is fits =
    (subst (λ (a : Act). Fits (bare from) a) is (fits (bare from))).1.other refl

pub moves_fit : (act : Act) → ((id : FilesetId) × (to : ServerId) × (act ≡ Leave id to))
    ⊎ ((from : ServerId) × (ship : ℕ) × (id : FilesetId) × (moves : ℕ) × (at : ℕ) × (part : ShipPart)
    × (act ≡ Part from ship id moves at part)) → ((state : StoreState) → Fits state act) → ⊥
moves_fit act (inl x) fits = leave_fits act x.0 x.1 x.2 fits
moves_fit act (inr x) fits = part_fits act x.0 x.1 x.2 x.3 x.4 x.5 x.6 fits
