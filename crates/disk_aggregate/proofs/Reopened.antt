-- The clauses of an opening of an aggregate's own disk, of which the log was mounted.
use Rattle.std.proofs.Common.{◌≡◌, ℕ, ◌+◌, List, refl, sym, subst}
use Rattle.std.specs.Prelude.{true, Result, Ok, Err, OnOk}
use Rattle.base_types.specs.Crash.{IsSettled}
use Rattle.base_types.specs.Image.{AreBytes}
use Rattle.base_types.specs.View.{View}
use Rattle.base_types.specs.declared.ids.ServerId.{ServerId}
use Rattle.tree_calls.specs.declared.roster.Roster.{Roster}
use Rattle.base_outside.specs.Runs.{LeavesOnly}
use Rattle.store_state.specs.declared.state.StoreState.{StoreState}
use Rattle.disk_log.specs.Log.{disk_of, state_of, IsSoundLog}
use Rattle.disk_log.specs.Mount.{IsMounted}
use Rattle.disk_log.specs.declared.log.Log.{Log}
use Rattle.disk_aggregate.specs.Opening.{Opens, IsLeftReformed, HasStore, HoldsStore}
use Rattle.disk_aggregate.specs.Stands.{Stands, StandsOn, disk_in, state_in}
use Rattle.disk_aggregate.specs.declared.aggregate.Aggregate.{Aggregate}
use Rattle.disk_aggregate.proofs.Again.{final_store, is_kept, read_is}
use Rattle.disk_aggregate.proofs.Opened.{IsKept, opened_stands}

module _ {D T E : Type 0} (tells : Type 0) (view : D → View) (before : Aggregate D) (log : Log D) (after : Aggregate D) (sound : IsSoundLog tells view log)
    (mounted : tells → IsMounted (view (disk_in before)).image (view (disk_of log)).image (state_of log)) (result : Result T E) where
  abbrev old : List ℕ
  old = (view (disk_in before)).image

  abbrev most : ℕ
  most = 9223372036854775808 + (before.wear + 2)

  abbrev AreOpen : Type 0
  AreOpen = Opens tells view (state_in before).server (state_in before).roster most (state_in after) log after.log

  -- what was read is of the server and roster of the store
  of_store : (state : StoreState) → HoldsStore view state before → AreOpen → Opens tells view state.server state.roster most (state_in after) log after.log
  of_store state holds opens =
      subst (λ (r : Roster). Opens tells view state.server r most (state_in after) log after.log) (sym holds.roster_is)
      (subst (λ (s : ServerId). Opens tells view s (state_in before).roster most (state_in after) log after.log) (sym holds.server_is) opens)

  kept : (told : tells) → AreOpen → AreBytes old → (state : StoreState) → HoldsStore view state before → IsKept view (state_in after) after.log
  kept told opens bytes state holds =
      is_kept tells view old log after.log before.wear state sound (mounted told) holds.store told (state_in after) most (of_store state holds opens) bytes

  pub stands_again : OnOk result AreOpen → OnOk result (after.is_open ≡ true) → after.wear ≡ before.wear + 2 → (tells → AreBytes old) → (tells → (x : StoreState) × HoldsStore view x before)
      → OnOk result (Stands tells view after)
  stands_again opens shown wear bytes holds = by result opens shown
    where
      by : (r : Result T E) → OnOk r AreOpen → OnOk r (after.is_open ≡ true) → OnOk r (Stands tells view after)
      by (Ok t) opens shown = (
        shown,
        subst (λ (w : ℕ). StandsOn tells view (state_in after) w after.log) (sym wear)
            (opened_stands tells view log after.log (state_in before).server (state_in before).roster (state_in after) most (before.wear + 2) refl opens
            (λ told. kept told opens (bytes told) (holds told).0 (holds told).1)),
      )
      by (Err e) opens shown = tt

  pub state_again : OnOk result AreOpen → AreBytes old → tells → (state : StoreState) → HoldsStore view state before → OnOk result (state_in after ≡ state)
  state_again opens bytes told state holds = by result opens
    where
      by : (r : Result T E) → OnOk r AreOpen → OnOk r (state_in after ≡ state)
      by (Ok t) opens = read_is tells view old log after.log before.wear state sound (mounted told) holds.store told (state_in after) most (of_store state holds opens) bytes
      by (Err e) opens = tt

  pub left_again : after.wear ≡ before.wear + 2 → (told : tells) → (state : StoreState) → HoldsStore view state before → IsSettled (view (disk_of log))
      → LeavesOnly (IsLeftReformed view log) (view (disk_of log)) (view (disk_in after)) → (view (disk_in after)).may_leave (view (disk_in after)).image → HasStore after.wear state (view (disk_in after)).image
  left_again wear told state holds settled run reads =
      subst (λ (w : ℕ). HasStore w state (view (disk_in after)).image) (sym wear)
      (final_store tells view old log after.log before.wear state sound (mounted told) holds.store told settled run reads)
