-- What a batch of acts leaves, as it is seen.
use Rattle.std.proofs.Common.{◌≡◌, ◌≤◌, ℕ, zero, suc, List, [], ◌∷◌, length, take, refl, sym, subst, ◌∙◌, ap}
use Rattle.std.specs.Prelude.{false}
use Rattle.base_types.specs.Crash.{IsSettled}
use Rattle.base_types.specs.View.{View as DiskView}
use Rattle.base_types.specs.declared.ids.ServerId.{ServerId}
use Rattle.tree_calls.specs.declared.roster.Roster.{Roster}
use Rattle.message_types.specs.Soundness.{Each}
use Rattle.store_acts.specs.Acts.{act_done, state_after}
use Rattle.store_acts.specs.Sound.{IsAct, KeepsLimits}
use Rattle.store_acts.specs.declared.act.Act.{Act}
use Rattle.store_acts.proofs.Next.{act_next}
use Rattle.store_state.specs.declared.state.StoreState.{StoreState}
use Rattle.disk_acts.specs.Batch.{first_of}
use Rattle.disk_aggregate.specs.Applying.{HasFirst, IsDurable}
use Rattle.disk_aggregate.specs.Opening.{HoldsStore}
use Rattle.disk_aggregate.specs.Records.{HasRecord}
use Rattle.disk_aggregate.specs.Stands.{state_in, disk_in}
use Rattle.disk_aggregate.specs.StoreView.{kept_state}
use Rattle.disk_aggregate.specs.declared.aggregate.Aggregate.{Aggregate}
use Rattle.disk_aggregate.proofs.Seen.{shut_holds, shut_seen}

-- acts leave a store's server and its roster
pub record IsSame (old new : StoreState) : Type 0 where
  pub server : new.server ≡ old.server
  pub roster : new.roster ≡ old.roster

pub first_same : (acts : List Act) (k : ℕ) (state : StoreState) → KeepsLimits state → Each (IsAct state.roster state.server) acts → IsSame state (first_of state acts k)
first_same acts zero state limits each = record { server = refl; roster = refl }
first_same [] (suc k) state limits each = record { server = refl; roster = refl }
first_same (act ∷ acts) (suc k) state limits each =
    let next = act_next state act limits each.0 in
    let rest : Each (IsAct (act_done state act).state.roster (act_done state act).state.server) acts =
    subst (λ (r : Roster). Each (IsAct r (act_done state act).state.server) acts) (sym next.roster) (subst (λ (s : ServerId). Each (IsAct state.roster s) acts) (sym next.server) each.1) in
    let same = first_same acts k (act_done state act).state next.limits rest in
    record { server = same.server ∙ next.server; roster = same.roster ∙ next.roster }

module _ {D : Type 0} (view : D → DiskView) (old new : Aggregate D) (server : (state_in new).server ≡ (state_in old).server) (roster : (state_in new).roster ≡ (state_in old).roster) (acts : List Act)
    (limits : KeepsLimits (state_in old)) (each : Each (IsAct (state_in old).roster (state_in old).server) acts) (shut : new.is_open ≡ false) (left : HasFirst new.wear (state_in old) acts (view (disk_in new)).image) where
  holds : HoldsStore view (first_of (state_in old) acts left.0) new
  holds =
      let same = first_same acts left.0 (state_in old) limits each in
      record { store = left.2; server_is = same.server ∙ sym server; roster_is = same.roster ∙ sym roster }

  -- its disk holds what is seen
  pub left_mendable : HoldsStore view (kept_state view new) new
  left_mendable = shut_holds view new shut (first_of (state_in old) acts left.0) holds

  -- which is what the first acts made
  pub left_seen : (before : StoreState) → before ≡ state_in old → (k : ℕ) × (k ≤ length acts) × (kept_state view new ≡ state_after before (take k acts))
  left_seen before is = (
    left.0,
    left.1,
    shut_seen view new shut (first_of (state_in old) acts left.0) holds ∙ ap (λ (s : StoreState). state_after s (take left.0 acts)) (sym is),
  )

-- a settled disk that has a record has nothing else to leave
pub settled_durable : (state : StoreState) (disk : DiskView) → IsSettled disk → HasRecord state disk.image → IsDurable state disk
settled_durable state disk settled has = λ c left. subst (HasRecord state) (sym (settled c left)) has
