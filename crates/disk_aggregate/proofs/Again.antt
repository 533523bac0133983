-- What an opening makes of a disk that holds a store.
use Rattle.std.proofs.Common.{◌≡◌, ◌⊎◌, ◌≤◌, ℕ, ◌+◌, List, inl, inr, refl, sym, subst, ◌∙◌, ap, arith}
use Rattle.std.specs.Prelude.{true, Option, Some, None, is_some}
use Rattle.std.specs.Option.{option_map}
use Rattle.std.proofs.lemmas.Bool.{false≢true}
use Rattle.base_types.specs.Crash.{IsSettled}
use Rattle.base_types.specs.Image.{AreBytes}
use Rattle.base_types.specs.View.{View}
use Rattle.base_outside.specs.Runs.{LeavesOnly}
use Rattle.base_outside.proofs.Runs.{during, then, weaker}
use Rattle.store_state.specs.declared.state.StoreState.{StoreState}
use Rattle.store_records.specs.Stored.{IsStorable}
use Rattle.disk_layout.specs.Half.{HasLog, used_half}
use Rattle.disk_layout.specs.Pages.{HasPages, IsSameOrNext}
use Rattle.disk_layout.specs.Places.{pages_of}
use Rattle.disk_layout.specs.declared.half.Half.{Half}
use Rattle.disk_layout.specs.declared.superblock.Superblock.{Superblock}
use Rattle.disk_layout.proofs.Unique.{superblock_unique, log_unique}
use Rattle.disk_log.specs.Contents.{contents_of, stage_in}
use Rattle.disk_log.specs.Log.{disk_of, state_of, IsSoundLog}
use Rattle.disk_log.specs.Mount.{IsMounted, IsSameLog, IsQuietOr}
use Rattle.disk_log.specs.State.{State}
use Rattle.disk_log.specs.declared.log.Log.{Log}
use Rattle.disk_pages.specs.Server.{is_server_page}
use Rattle.disk_image.specs.Aggregate.{aggregate_of}
use Rattle.disk_image.specs.Image.{Image, image_of, image_in}
use Rattle.disk_image.proofs.Front.{superblock_is, unblank_fails}
use Rattle.disk_image.proofs.Images.{image_there}
use Rattle.disk_image_laws.proofs.Mounted as front
use Rattle.disk_records.specs.Record.{record_of}
use Rattle.disk_aggregate.specs.Opening.{Opens, IsLeftReformed, HasStore}
use Rattle.disk_aggregate.specs.Records.{HasRecord}
use Rattle.disk_aggregate.specs.Stands.{IsUnworn}
use Rattle.disk_aggregate.proofs.Left.{same_log_record}
use Rattle.disk_aggregate.proofs.Opened as opened
use Rattle.disk_aggregate.proofs.Opened.{IsFound, IsKept, opened_stands}
use Rattle.disk_aggregate.proofs.Standing as standing

some_same : {X : Type 0} (a b : X) → Some a ≡ Some b → a ≡ b
some_same a b e = cc

-- what is mapped to something was something
some_mapped : {A B : Type 0} (f : A → B) (o : Option A) (b : B) → option_map f o ≡ Some b → is_some o ≡ true
some_mapped {B = B} f None b e = absurd (false≢true (ap (λ (o : Option B). is_some o) e))
some_mapped f (Some a) b e = refl

-- the log of a disk that has a record: it has no faults behind it, and its image is that of the record
pub record IsStoreOf (state : StoreState) (superblock : Superblock) (half : Half) (bytes : List ℕ) : Type 0 where
  pub found : IsFound state.server superblock half bytes
  pub record_is : record_of state.roster (image_in (aggregate_of superblock half bytes)) ≡ state

pub store_found : (state : StoreState) (bytes : List ℕ) (superblock : Superblock) (half : Half) → HasLog superblock half bytes → HasRecord state bytes → IsStoreOf state superblock half bytes
store_found state bytes superblock half log has =
    let there = (image_there state.server.0 bytes).0 (some_mapped (record_of state.roster) (image_of state.server.0 bytes) state has) in
    let shown = unblank_fails bytes there.0 in
    let known = there.2.0 in
    let parts = superblock_is bytes known there.2.1 in
    let same : known ≡ superblock = superblock_unique known superblock bytes parts.0 log.front in
    let used : used_half (pages_of known.blocks) bytes ≡ Some half = (λ j. used_half (pages_of (same j).blocks) bytes) ∙ log.used in
    let clean = sym (front.faults_there state.server.0 0 bytes shown known there.2.1 there.2.2 half used) ∙ there.1 in
    let image = front.image_is state.server.0 0 bytes shown known there.2.1 there.2.2 half used there.1 in
    subst (λ (s : Superblock). IsStoreOf state s half bytes) same (record {
      found = record { clean = clean; own = there.2.2; first = parts.1; last = parts.2; least = parts.3 };
      record_is = some_same (record_of state.roster (image_in (aggregate_of known half bytes))) state (sym (ap (λ (o : Option Image). option_map (record_of state.roster) o) image) ∙ has);
    })

-- a number is unworn still where it may rise by more
pub unworn_more : (wear more number : ℕ) → wear ≤ more → IsUnworn wear number → IsUnworn more number
unworn_more wear more number le is = omega (arith, le, is)

pub more_store : (wear more : ℕ) (state : StoreState) (bytes : List ℕ) → wear ≤ more → HasStore wear state bytes → HasStore more state bytes
more_store wear more state bytes le has = record {
  found = has.found;
  storable = has.storable;
  generation = λ superblock half log. unworn_more wear more half.generation le (has.generation superblock half log);
  epoch = unworn_more wear more state.epoch le has.epoch;
  ship = unworn_more wear more state.ship le has.ship;
}

-- bytes that are a log of a generation or the next, with the record
turned_store : (wear : ℕ) (state : StoreState) (old c : List ℕ) (superblock : Superblock) (generation : ℕ) (pages : ℕ → List ℕ) (d : List ℕ) → HasStore wear state old → HasPages superblock generation pages d c
    → generation ≤ 9223372036854775808 + wear + 1 → HasRecord state c → HasStore (wear + 2) state c
turned_store wear state old c superblock generation pages d has there low found = record {
  found = found;
  storable = has.storable;
  generation = λ other half log. (let e : half.generation ≡ there.half.generation = ap (λ (h : Half). h.generation) (log_unique other superblock half there.half c log there.log).1 in by half.generation e there.follows);
  epoch = unworn_more wear (wear + 2) state.epoch (omega arith) has.epoch;
  ship = unworn_more wear (wear + 2) state.ship (omega arith) has.ship;
}
  where
    by : (g : ℕ) → g ≡ there.half.generation → IsSameOrNext generation there.half.generation → IsUnworn (wear + 2) g
    by g e (inl same) = omega (arith, e, same, low)
    by g e (inr next) = omega (arith, e, next, low)

-- what a crash leaves while the log is mounted
pub same_store : (wear : ℕ) (state : StoreState) (old c : List ℕ) → HasStore wear state old → IsSameLog old c → HasStore (wear + 2) state c
same_store wear state old c has same =
    let low = has.generation same.superblock same.half same.log in
    turned_store wear state old c same.superblock same.half.generation _ old has same.same (omega (arith, low)) (same_log_record old c same state.roster state.server ∙ has.found)

-- and where that failed
pub vain_store : (wear : ℕ) (state : StoreState) (old new : View) → HasStore wear state old.image → new.may_leave new.image → IsQuietOr (IsSameLog old.image) old new → HasStore (wear + 2) state new.image
vain_store wear state old new has reads (inl quiet) = subst (HasStore (wear + 2) state) (sym quiet.image) (more_store wear (wear + 2) state old.image (omega arith) has)
vain_store wear state old new has reads (inr same) = same_store wear state old.image new.image has (same new.image reads)

module _ {D : Type 0} (tells : Type 0) (view : D → View) (old : List ℕ) (first final : Log D) (wear : ℕ) (state : StoreState)
    (sound : IsSoundLog tells view first) (mounted : IsMounted old (view (disk_of first)).image (state_of first)) (has : HasStore wear state old) (told : tells) where
  of : IsStoreOf state (state_of first).superblock mounted.half old
  of = store_found state old (state_of first).superblock mounted.half mounted.log has.found

  -- the server's page is one
  pub page : is_server_page (stage_in (contents_of view first) 0 0) ≡ true
  page = opened.page tells view old first final state.server state.roster sound mounted of.found told

  generation_is : (state_of first).half.generation ≡ mounted.half.generation + 1
  generation_is = ap (λ (s : State). s.half.generation) mounted.state_is

  -- what a crash leaves while the log is brought to format 2
  pub left_store : (c : List ℕ) → IsLeftReformed view first c → HasStore (wear + 2) state c
  left_store c left =
      (let low = has.generation (state_of first).superblock mounted.half mounted.log in
      let e = generation_is in
      turned_store wear state old c (state_of first).superblock (state_of first).half.generation left.0 (view (disk_of first)).image has left.2 (omega (arith, low, e))
      (opened.left_same tells view old first final state.server state.roster sound mounted of.found told c left ∙ has.found))

  -- and what is there behind it
  pub final_store : IsSettled (view (disk_of first)) → LeavesOnly (IsLeftReformed view first) (view (disk_of first)) (view (disk_of final)) → (view (disk_of final)).may_leave (view (disk_of final)).image
      → HasStore (wear + 2) state (view (disk_of final)).image
  final_store settled run reads = left_store (view (disk_of final)).image (by (during run (view (disk_of final)).image ((view (disk_of final)).counts_now (view (disk_of first)).moment (view (disk_of final)).image run.later reads)))
    where
      by : (view (disk_of first)).may_leave (view (disk_of final)).image ⊎ IsLeftReformed view first (view (disk_of final)).image → IsLeftReformed view first (view (disk_of final)).image
      by (inl before) =
          subst (IsLeftReformed view first) (sym (settled (view (disk_of final)).image before))
          (stage_in (contents_of view first) 0, inl (λ p lt. refl), standing.has_pages tells view first sound told)
      by (inr left) = left

  module _ (read : StoreState) (most : ℕ) (opens : Opens tells view state.server state.roster most read first final) (bytes : AreBytes old) where
    storable : IsStorable (record_of state.roster (image_in (opened.mid tells view old first final state.server state.roster sound mounted of.found told read most opens)))
    storable = subst IsStorable (sym (opened.mid_record tells view old first final state.server state.roster sound mounted of.found told read most opens ∙ of.record_is)) has.storable

    pub read_is : read ≡ state
    read_is = opened.state_was tells view old first final state.server state.roster sound mounted of.found told read most opens bytes storable ∙ of.record_is

    pub is_kept : IsKept view read final
    is_kept = opened.is_kept tells view old first final state.server state.roster sound mounted of.found told read most opens bytes storable

-- what a crash leaves in all
pub again_leaves : {D : Type 0} (tells : Type 0) (view : D → View) (old last : View) (first final : Log D) (wear : ℕ) (state : StoreState) → IsSoundLog tells view first
    → IsMounted old.image (view (disk_of first)).image (state_of first) → HasStore wear state old.image → tells → LeavesOnly (IsSameLog old.image) old (view (disk_of first))
    → LeavesOnly (IsLeftReformed view first) (view (disk_of first)) last → LeavesOnly (HasRecord state) old last
again_leaves tells view old last first final wear state sound mounted has told mounting reforming =
    (then) (weaker mounting (λ c same. same_log_record old.image c same state.roster state.server ∙ has.found))
    (weaker reforming (λ c left. (left_store tells view old.image first final wear state sound mounted has told c left).found))
