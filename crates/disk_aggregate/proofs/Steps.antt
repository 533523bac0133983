-- The steps of an opening, one after another.
use Rattle.std.proofs.Common.{◌≡◌, ℕ, ◌-◌, List, get_or, sym, subst, ◌∙◌}
use Rattle.base_types.specs.Crash.{IsQuiet}
use Rattle.base_types.specs.Image.{byte_at}
use Rattle.base_types.specs.View.{View}
use Rattle.base_types.specs.declared.ids.ServerId.{ServerId}
use Rattle.tree_calls.specs.declared.roster.Roster.{Roster}
use Rattle.base_outside.specs.Runs.{LeavesOnly}
use Rattle.base_outside.proofs.Runs.{quiet, quiet_settled, then}
use Rattle.store_state.specs.declared.state.StoreState.{StoreState}
use Rattle.disk_layout.specs.Places.{SameBlocks}
use Rattle.disk_log.specs.Contents.{Contents, contents_of, last_stage, page_in, stage_in}
use Rattle.disk_log.specs.Log.{disk_of, state_of, IsSoundLog}
use Rattle.disk_log.specs.declared.log.Log.{Log}
use Rattle.disk_objects.specs.Objects.{KeepsNow}
use Rattle.disk_records.specs.Stored.{SaysRecord}
use Rattle.disk_records.specs.Loading.{KeepsRecord, IsOf}
use Rattle.disk_records.specs.Reforming.{IsReformedOr, Reforms}

-- a log of which something was read
module _ {D : Type 0} (tells : Type 0) (view : D → View) (mid new : Log D) (sound : IsSoundLog tells view new) (same : state_of new ≡ state_of mid) (still : IsQuiet (view (disk_of mid)) (view (disk_of new))) where
  contents : contents_of view new ≡ contents_of view mid
  contents = λ i. record { state = same i; image = still.image i }

  pub reforms_still : (old : Log D) → Reforms tells view old mid → Reforms tells view old new
  reforms_still old reforms = record {
    idle = record { sound = sound; none_open = λ slot. (λ i. get_or (same i).reservations slot 0) ∙ reforms.idle.none_open slot };
    superblock = (λ i. (same i).superblock) ∙ reforms.superblock;
    half = (λ i. (same i).half) ∙ reforms.half;
    last = (λ i. last_stage (contents i)) ∙ reforms.last;
    settled = quiet_settled still reforms.settled;
    pages = λ told page. subst (λ (c : Contents). IsReformedOr (state_of old).half.pages (stage_in (contents_of view old) 0) (stage_in c 0)) (sym contents) (reforms.pages told page);
    blocks = λ told. subst (λ (l : List ℕ). SameBlocks (state_of old).half.pages (view (disk_of old)).image l) (sym still.image) (reforms.blocks told);
    format = λ told. (λ i. byte_at (page_in (contents i) 0) 29) ∙ reforms.format told;
  }

  pub kept_before : (state : StoreState) → KeepsRecord view state new → KeepsRecord view state mid
  kept_before state kept = record {
    slots = kept.slots;
    keeps = subst (λ (c : Contents). KeepsNow kept.slots c.state c.image) contents kept.keeps;
    says = subst (λ (c : Contents). SaysRecord state kept.slots (λ p. page_in c p)) contents kept.says;
    storable = kept.storable;
  }

  pub of_before : (server : ServerId) (roster : Roster) (state : StoreState) → IsOf server roster state new → IsOf server roster state mid
  of_before server roster state of = record {
    server_is = of.server_is;
    roster_is = of.roster_is;
    capacity = (λ i. (sym same i).superblock.blocks - 1024) ∙ of.capacity;
  }

  pub leaves_still : (P : List ℕ → Type 0) (old : View) → LeavesOnly P old (view (disk_of mid)) → LeavesOnly P old (view (disk_of new))
  leaves_still P old run = (then) run (quiet P still)
