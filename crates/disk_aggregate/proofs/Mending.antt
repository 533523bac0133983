-- What stands has its record on its disk.
use Rattle.std.proofs.Common.{◌≡◌, ℕ, List, refl, arith}
use Rattle.std.specs.Prelude.{Result, Ok, Err, IfOk}
use Rattle.base_types.specs.Image.{AreBytes}
use Rattle.base_types.specs.View.{View as DiskView}
use Rattle.store_state.specs.declared.state.StoreState.{StoreState}
use Rattle.disk_layout.specs.Pages.{pages_in}
use Rattle.disk_layout.specs.declared.half.Half.{Half}
use Rattle.disk_layout.specs.declared.superblock.Superblock.{Superblock}
use Rattle.disk_log.specs.Contents.{contents_of, stage_in}
use Rattle.disk_log.specs.Log.{disk_of, state_of}
use Rattle.disk_log.specs.declared.log.Log.{Log}
use Rattle.disk_acts.proofs.Passed.{record_same}
use Rattle.disk_acts.specs.Stored.{HoldsStore as HoldsIn}
use Rattle.disk_aggregate.specs.Opening.{HasStore, HoldsStore}
use Rattle.disk_aggregate.specs.Stands.{Stands, StandsOn, state_in, disk_in}
use Rattle.disk_aggregate.specs.StoreView.{kept_state, IsOpened}
use Rattle.disk_aggregate.specs.declared.aggregate.Aggregate.{Aggregate}
use Rattle.disk_aggregate.proofs.Applied.{found, generation_is, stands_rests}
use Rattle.disk_aggregate.proofs.Seen.{open_holds, seen_open}
use Rattle.disk_aggregate.proofs.Standing.{has_log, stage_there}

pub stands_store : {D : Type 0} (tells : Type 0) (view : D → DiskView) (state : StoreState) (wear : ℕ) (log : Log D) → StandsOn tells view state wear log → tells → AreBytes (view (disk_of log)).image
    → HasStore wear state (view (disk_of log)).image
stands_store tells view state wear log stands told bytes =
    let image : List ℕ = (view (disk_of log)).image in
    let superblock : Superblock = (state_of log).superblock in
    let half : Half = (state_of log).half in
    let rests = stands_rests tells view state wear log stands in
    let sound = stands.idle.sound in
    let own = rests.own told in
    let holds : HoldsIn half.generation state image = record {
      superblock = superblock;
      half = half;
      log = has_log tells view log sound told;
      generation = omega arith;
      own = own;
      held = record_same state superblock.blocks (stage_in (contents_of view log) 0) (λ p. pages_in half image p) image (λ p lt. stage_there tells view log sound told p) (rests.held told);
    } in
    record {
      found = found half.generation state image bytes holds;
      storable = own.storable;
      generation = λ other used there. (let e = generation_is half.generation state image holds other used there in let low = stands.generation in omega (arith, e, low));
      epoch = stands.epoch;
      ship = stands.ship;
    }

module _ {D : Type 0} (tells : Type 0) (view : D → DiskView) where
  abbrev IsMendable : Aggregate D → Type 0
  IsMendable aggregate = tells → HoldsStore view (kept_state view aggregate) aggregate

  pub stands_mendable : (aggregate : Aggregate D) → Stands tells view aggregate → (tells → AreBytes (view (disk_in aggregate)).image) → IsMendable aggregate
  stands_mendable aggregate stands bytes = λ told.
      open_holds view aggregate stands.0 (record { store = stands_store tells view (state_in aggregate) aggregate.wear aggregate.log stands.1 told (bytes told); server_is = refl; roster_is = refl })

  -- as it is where it was just opened
  pub stands_opened : (aggregate : Aggregate D) → Stands tells view aggregate → aggregate.wear ≡ 0 → (tells → AreBytes (view (disk_in aggregate)).image) → IsOpened tells view aggregate
  stands_opened aggregate stands fresh bytes = record { state = seen_open view aggregate stands.0; ready = stands; mendable = stands_mendable aggregate stands bytes; wear = fresh }

  pub opened_if : {E : Type 0} (result : Result (Aggregate D) E) → ((d : D) → tells → AreBytes (view d).image) → IfOk result (λ aggregate. Stands tells view aggregate) → IfOk result (λ aggregate. aggregate.wear ≡ 0)
      → IfOk result (λ aggregate. IsOpened tells view aggregate)
  opened_if (Ok aggregate) bytes stands fresh = stands_opened aggregate stands fresh (bytes (disk_in aggregate))
  opened_if (Err e) bytes stands fresh = tt
