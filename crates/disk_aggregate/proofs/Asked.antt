-- What a store in memory tells is told by its aggregate.
use Rattle.std.proofs.Common.{◌≡◌, ◌≤◌, refl, sym, subst, ap, ◌∙◌, inl, arith}
use Rattle.std.specs.Prelude.{⊤, Result, Ok, Err}
use Rattle.base_types.specs.Image.{AreBytes}
use Rattle.base_types.specs.View.{View as DiskView}
use Rattle.store_memory.specs.MapStores.{kept_in, map_view}
use Rattle.store_memory.specs.Views.{IsAsked, IsBlamed}
use Rattle.store_memory.proofs.Doing.{leaves_none}
use Rattle.store_memory.specs.declared.map_store.MapStore.{MapStore}
use Rattle.store_memory.specs.declared.store.StoreFault.{StoreFault}
use Rattle.store_memory.specs.declared.store.StoreFault.TheVariants as stores
use Rattle.store_state.specs.declared.state.StoreState.{StoreState}
use Rattle.disk_anode.specs.Faults.{IsNodeFault}
use Rattle.disk_anode.specs.declared.fault.NodeFault.{NodeFault}
use Rattle.disk_anode.specs.declared.fault.NodeFault.TheVariants as nodes
use Rattle.disk_records.specs.Record.{record_in}
use Rattle.disk_aggregate.specs.Refused.{store_fault}
use Rattle.disk_aggregate.specs.Stands.{Stands, StandsOn, disk_in}
use Rattle.disk_aggregate.specs.StoreView.{aggregate_view}
use Rattle.disk_aggregate.specs.declared.aggregate.Aggregate.{Aggregate}
use Rattle.disk_aggregate.proofs.Mending.{stands_mendable}
use Rattle.disk_aggregate.proofs.Seen.{seen_same, seen_open}

module _ {D : Type 0} (tells : Type 0) (view : D → DiskView) (old : Aggregate D) (stands : Stands tells view old) (bytes : tells → AreBytes (view (disk_in old)).image) where
  stands_still : (store : MapStore) → kept_in store ≡ kept_in old.store → Stands tells view (record old { store = store })
  stands_still store same = (stands.0, subst (λ (s : StoreState). StandsOn tells view s old.wear old.log) (sym same) stands.1)

  pub asked_still : {T : Type 0} (result : Result T StoreFault) (store : MapStore) → IsAsked ⊤ result (map_view old.store) (map_view store)
      → IsAsked tells result (aggregate_view tells view old) (aggregate_view tells view (record old { store = store }))
  asked_still result store asked =
      let new : Aggregate D = record old { store = store } in
      let same : kept_in store ≡ kept_in old.store = asked.state tt in
      let now : Stands tells view new = stands_still store same in
      record {
        same = seen_same view old new (ap (λ (s : StoreState). s.server) same) (ap (λ (s : StoreState). s.roster) same) tells;
        state = λ told. seen_open view new stands.0 ∙ same ∙ sym (seen_open view old stands.0);
        leaves = λ told. record { later = omega arith; finds = λ c. ap (λ (s : StoreState). record_in s.roster s.server c) same; each = λ t c le left. inl left };
        wear = refl;
        ready = λ other. now;
        mendable = stands_mendable tells view new now bytes;
        blame = record { counted = omega arith; cause = λ e. (let rose = (asked.blame.cause e).0 in absurd (omega (arith, rose))) };
      }

  -- an answer of no memory at once
  pub asked_none : {T : Type 0} → IsAsked {T = T} tells (Err stores.Memory) (aggregate_view tells view old) (aggregate_view tells view old)
  asked_none = record {
    same = seen_same view old old refl refl tells;
    state = λ told. refl;
    leaves = λ told. leaves_none _ (aggregate_view tells view old);
    wear = refl;
    ready = λ other. stands;
    mendable = stands_mendable tells view old stands bytes;
    blame = record { counted = omega arith; cause = λ e. absurd (cc) };
  }

-- whose fault an error is
module _ {D T : Type 0} (tells : Type 0) (view : D → DiskView) (old new : Aggregate D) (counted : (view (disk_in old)).faults ≤ (view (disk_in new)).faults) where
  pub blamed_ok : (value : T) → IsBlamed (Ok value) (aggregate_view tells view old) (aggregate_view tells view new)
  blamed_ok value = record { counted = counted; cause = λ e. absurd (cc) }

  pub blamed : (fault : NodeFault) (answer : StoreFault) → answer ≡ store_fault fault → IsNodeFault fault (view (disk_in old)) (view (disk_in new))
      → IsBlamed {T = T} (Err answer) (aggregate_view tells view old) (aggregate_view tells view new)
  blamed nodes.Failed answer is only = record { counted = counted; cause = λ e. only }
  blamed nodes.Memory answer is only = record { counted = counted; cause = λ e. absurd (cc) }
