-- What a crash leaves of a disk, as it is seen of the store on it.
use Rattle.std.proofs.Common.{◌≡◌, ℕ, List, [], inl, inr, ⊎_elim, sym, subst, ◌∙◌, arith}
use Rattle.std.specs.Prelude.{Option, true}
use Rattle.base_types.specs.Image.{AreBytes}
use Rattle.base_types.specs.View.{View as DiskView}
use Rattle.base_outside.specs.Runs.{LeavesOnly}
use Rattle.message_types.specs.Soundness.{Each}
use Rattle.store_acts.specs.Sound.{IsAct, KeepsLimits}
use Rattle.store_acts.specs.declared.act.Act.{Act}
use Rattle.store_memory.specs.Views.{Leaves, IsFirstOf}
use Rattle.store_state.specs.declared.state.StoreState.{StoreState}
use Rattle.disk_records.specs.Record.{record_in}
use Rattle.disk_aggregate.specs.Applying.{IsLeftOfBatch}
use Rattle.disk_aggregate.specs.Records.{HasRecord}
use Rattle.disk_aggregate.specs.Stands.{state_in, disk_in}
use Rattle.disk_aggregate.specs.StoreView.{aggregate_view, found_of, kept_state}
use Rattle.disk_aggregate.specs.declared.aggregate.Aggregate.{Aggregate}
use Rattle.disk_aggregate.proofs.Acted.{first_same}
use Rattle.disk_aggregate.proofs.Seen.{seen_open, seen_own}

module _ {D : Type 0} (tells : Type 0) (view : D → DiskView) (old new : Aggregate D) (server : (state_in new).server ≡ (state_in old).server) (roster : (state_in new).roster ≡ (state_in old).roster) where
  found_same : (c : List ℕ) → found_of new c ≡ found_of old c
  found_same c = λ i. record_in (roster i) (server i) c

  seen_leaves : (P : List ℕ → Type 0) (Q : Option StoreState → Type 0) → LeavesOnly P (view (disk_in old)) (view (disk_in new)) → ((c : List ℕ) → AreBytes c → P c → Q (found_of old c))
      → Leaves Q (aggregate_view tells view old) (aggregate_view tells view new)
  seen_leaves P Q run so = record {
    later = run.later;
    finds = found_same;
    each = λ t c le left. ⊎_elim (λ earlier. inl (left.0, earlier)) (λ has. inr (so c left.0 has)) (run.each t c le left.1);
  }

  -- a batch
  pub batch_leaves : (wear : ℕ) (batch : List Act) → old.is_open ≡ true → KeepsLimits (state_in old) → Each (IsAct (state_in old).roster (state_in old).server) batch
      → LeavesOnly (IsLeftOfBatch wear (state_in old) batch) (view (disk_in old)) (view (disk_in new)) → Leaves (IsFirstOf (kept_state view old) batch) (aggregate_view tells view old) (aggregate_view tells view new)
  batch_leaves wear batch opened limits each run =
      subst (λ (s : StoreState). Leaves (IsFirstOf s batch) (aggregate_view tells view old) (aggregate_view tells view new)) (sym (seen_open view old opened))
      (seen_leaves (IsLeftOfBatch wear (state_in old) batch) (IsFirstOf (state_in old) batch) run
      (λ c bytes has.
      (let first = has bytes in
      let same = first_same batch first.0 (state_in old) limits each in
      (first.0, first.1, (λ i. record_in (sym same.roster i) (sym same.server i) c) ∙ first.2.found))))

  -- one that was opened again
  pub reopened_leaves : LeavesOnly (HasRecord (kept_state view old)) (view (disk_in old)) (view (disk_in new)) → Leaves (IsFirstOf (kept_state view old) []) (aggregate_view tells view old) (aggregate_view tells view new)
  reopened_leaves run =
      seen_leaves (HasRecord (kept_state view old)) (IsFirstOf (kept_state view old) []) run
      (λ c bytes has.
      (let own = seen_own view old in
      (0, omega arith, (λ i. record_in (sym own.roster_is i) (sym own.server_is i) c) ∙ has)))
