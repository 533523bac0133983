-- A log that stands, as a batch of acts takes and leaves it; and what the bytes of a disk have after one.
use Rattle.std.proofs.Common.{◌≡◌, ◌≤◌, ℕ, zero, suc, ◌+◌, List, [], ◌∷◌, length, sym, ◌∙◌, ap, subst, arith}
use Rattle.std.specs.Prelude.{Some}
use Rattle.base_types.specs.Image.{AreBytes}
use Rattle.base_types.specs.View.{View}
use Rattle.base_outside.specs.Runs.{LeavesOnly}
use Rattle.base_outside.proofs.Runs.{weaker}
use Rattle.tree_objects.specs.declared.content.Anode.{Anode}
use Rattle.store_acts.specs.Acts.{act_done}
use Rattle.store_acts.specs.declared.act.Act.{Act}
use Rattle.store_state.specs.declared.state.StoreState.{StoreState}
use Rattle.disk_layout.specs.Half.{HasLog, used_half}
use Rattle.disk_layout.specs.Pages.{pages_in}
use Rattle.disk_layout.specs.Places.{pages_of}
use Rattle.disk_layout.specs.declared.half.Half.{Half}
use Rattle.disk_layout.specs.declared.superblock.Superblock.{Superblock}
use Rattle.disk_layout.proofs.Unique.{superblock_unique}
use Rattle.disk_log.specs.Contents.{contents_of}
use Rattle.disk_log.specs.Log.{disk_of, state_of}
use Rattle.disk_log.specs.declared.log.Log.{Log}
use Rattle.disk_image.specs.Aggregate.{aggregate_of, page_of}
use Rattle.disk_image.proofs.Joined.{get_or-listed}
use Rattle.disk_records.proofs.There.{record_is_there}
use Rattle.disk_records.specs.Loading.{KeepsRecord}
use Rattle.disk_acts.specs.Passed.{HasStage, HasNow}
use Rattle.disk_acts.proofs.Passed.{record_same}
use Rattle.disk_acts.proofs.Passed.{stage_now, now_stage}
use Rattle.disk_acts.specs.Stored.{HoldsStore}
use Rattle.disk_acts.specs.Batch.{first_of, HoldsFirst, Rests}
use Rattle.disk_acts.proofs.Counts.{act_counted}
use Rattle.disk_aggregate.specs.Applying.{HasFirst, IsLeftOfBatch}
use Rattle.disk_aggregate.specs.Records.{HasRecord}
use Rattle.disk_aggregate.specs.Stands.{StandsOn}

module _ {D : Type 0} (tells : Type 0) (view : D → View) (state : StoreState) where
  pub stands_rests : (wear : ℕ) (log : Log D) → StandsOn tells view state wear log → Rests tells view state log
  stands_rests wear log stands = record {
    idle = stands.idle;
    last = stands.last;
    settled = stands.settled;
    own = λ told. record { storable = (stands.record_held told).storable; server = stands.server_is told; blocks = stands.blocks_are told; least = stands.least told };
    held = λ told.
        (let kept = stands.record_held told in
        let now : HasNow state (state_of log) (view (disk_of log)).image = (kept.slots, record { held = kept.keeps.held; each = kept.keeps.each; says = kept.says }) in
        subst (λ (k : ℕ). HasStage state k (contents_of view log)) stands.last (now_stage tells view log stands.idle told state now));
  }

  pub rests_stands : (wear : ℕ) (log : Log D) → Rests tells view state log → (state_of log).half.generation ≤ 9223372036854775808 + wear → state.epoch ≤ 9223372036854775808 + wear → state.ship ≤ 9223372036854775808 + wear
      → StandsOn tells view state wear log
  rests_stands wear log rests generation epoch ship = record {
    idle = rests.idle;
    last = rests.last;
    settled = rests.settled;
    generation = generation;
    epoch = epoch;
    ship = ship;
    record_held = λ told. kept told (stage_now tells view log rests.idle told state (subst (λ (k : ℕ). HasStage state k (contents_of view log)) (sym rests.last) (rests.held told)));
    server_is = λ told. (rests.own told).server;
    blocks_are = λ told. (rests.own told).blocks;
    least = λ told. (rests.own told).least;
  }
    where
      kept : tells → HasNow state (state_of log) (view (disk_of log)).image → KeepsRecord view state log
      kept told now = record {
        slots = now.0;
        keeps = record { held = now.1.held; each = now.1.each };
        says = now.1.says;
        storable = (rests.own told).storable;
      }

-- bytes that hold a record have it
pub found : (most : ℕ) (state : StoreState) (c : List ℕ) → AreBytes c → HoldsStore most state c → HasRecord state c
found most state c bytes holds =
    let superblock = holds.superblock in
    let half = holds.half in
    let has = record_same state superblock.blocks (λ p. pages_in half c p) (λ p. page_of (aggregate_of superblock half c) p) c (λ p lt. get_or-listed (pages_in half c) (pages_of superblock.blocks) p [] lt) holds.held in
    let slots : ℕ → List Anode = has.0 in
    record_is_there c superblock half state slots holds.log holds.own.storable (record { held = has.1.held; each = has.1.each; bytes = bytes }) has.1.says holds.own.server holds.own.blocks holds.own.least

some_same : {X : Type 0} {a b : X} → Some a ≡ Some b → a ≡ b
some_same e = cc

-- and no log but theirs
pub generation_is : (most : ℕ) (state : StoreState) (c : List ℕ) → HoldsStore most state c → (superblock : Superblock) (half : Half) → HasLog superblock half c → half.generation ≤ most
generation_is most state c holds superblock half log =
    let same : superblock ≡ holds.superblock = superblock_unique superblock holds.superblock c log.front holds.log.front in
    let one : half ≡ holds.half = some_same (sym log.used ∙ (λ i. used_half (pages_of (same i).blocks) c) ∙ holds.log.used) in
    let e = ap (λ (h : Half). h.generation) one in
    let le = holds.generation in
    omega (arith, e, le)

-- the counts of a record rise by one an act
pub counts_after : (acts : List Act) (k : ℕ) (state : StoreState) → (first_of state acts k).epoch ≤ state.epoch + k × (first_of state acts k).ship ≤ state.ship + k
counts_after acts zero state = (omega arith, omega arith)
counts_after [] (suc k) state = (omega arith, omega arith)
counts_after (act ∷ acts) (suc k) state =
    let rest = counts_after acts k (act_done state act).state in
    let epochs = rest.0 in let ships = rest.1 in
    let epoch = (act_counted state act).epoch in let ship = (act_counted state act).ship in
    (omega (arith, epochs, epoch), omega (arith, ships, ship))

pub has_first : (most wear : ℕ) (start : StoreState) (acts : List Act) (c : List ℕ) → AreBytes c → length acts ≤ 8 → most ≤ 9223372036854775808 + wear → start.epoch + 8 ≤ 9223372036854775808 + wear → start.ship + 8 ≤ 9223372036854775808 + wear
    → HoldsFirst most start acts c → HasFirst wear start acts c
has_first most wear start acts c bytes few fresh epoch ship (k, le, holds) =
    let counts = counts_after acts k start in
    let epochs = counts.0 in let ships = counts.1 in (
      k,
      le,
      record {
        found = found most (first_of start acts k) c bytes holds;
        storable = holds.own.storable;
        generation = λ superblock half log. (let e = generation_is most (first_of start acts k) c holds superblock half log in omega (arith, e, fresh));
        epoch = omega (arith, epochs, epoch, le, few);
        ship = omega (arith, ships, ship, le, few);
      },
    )

-- what a crash in a batch leaves
pub batch_leaves : (most wear : ℕ) (start : StoreState) (acts : List Act) (old new : View) → length acts ≤ 8 → most ≤ 9223372036854775808 + wear → start.epoch + 8 ≤ 9223372036854775808 + wear → start.ship + 8 ≤ 9223372036854775808 + wear
    → LeavesOnly (HoldsFirst most start acts) old new → LeavesOnly (IsLeftOfBatch wear start acts) old new
batch_leaves most wear start acts old new few fresh epoch ship run = weaker run (λ c holds bytes. has_first most wear start acts c bytes few fresh epoch ship holds)
