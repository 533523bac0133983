-- The clauses of a mount, of which a log was opened.
use Rattle.std.proofs.Common.{◌≡◌, ◌≤◌, ◌⊎◌, ℕ, List, length, inl, inr, refl, sym, subst, ◌∙◌, ap}
use Rattle.std.specs.Prelude.{true, None, Result, Ok, Err, IfOk, IfErr}
use Rattle.base_types.specs.Crash.{IsQuiet, IsSettled}
use Rattle.base_types.specs.Image.{AreBytes}
use Rattle.base_types.specs.View.{View}
use Rattle.base_types.specs.declared.ids.ServerId.{ServerId}
use Rattle.tree_calls.specs.declared.roster.Roster.{Roster}
use Rattle.base_outside.specs.Runs.{LeavesOnly}
use Rattle.base_outside.proofs.Runs.{during}
use Rattle.disk_image.specs.Refused.{refused_at}
use Rattle.disk_log.specs.Contents.{contents_of, stage_in}
use Rattle.disk_log.specs.Log.{disk_of, state_of, IsSoundLog}
use Rattle.disk_log.specs.Mount.{IsMounted, IsQuietOr, IsSameLog}
use Rattle.disk_log.specs.declared.log.Log.{Log}
use Rattle.disk_aggregate.specs.Opening.{Opens, IsLeftReformed}
use Rattle.disk_aggregate.specs.Records.{HasRecord, HasSameRecord}
use Rattle.disk_aggregate.specs.Stands.{Stands, StandsOn, disk_in, state_in}
use Rattle.disk_aggregate.specs.declared.aggregate.Aggregate.{Aggregate}
use Rattle.disk_records.specs.Record.{record_in}
use Rattle.disk_aggregate.proofs.Leaving.{mounted_leaves}
use Rattle.disk_aggregate.proofs.Left.{same_log_record}
use Rattle.disk_aggregate.proofs.Mounted.{final_same, found_record, left_same, mounted_stands}
use Rattle.disk_aggregate.proofs.Standing.{has_pages}

module _ {D E : Type 0} (tells : Type 0) (view : D → View) (old judged : View) (log : Log D) (server : ServerId) (roster : Roster) (still : IsQuiet old judged)
    (none : tells → refused_at server.0 (length roster.capacity) old.image ≡ None) (sound : IsSoundLog tells view log) (mounted : tells → IsMounted judged.image (view (disk_of log)).image (state_of log))
    (result : Result (Aggregate D) E) where
  abbrev AreOpen : Type 0
  AreOpen = IfOk result (λ aggregate. Opens tells view server roster 9223372036854775808 (state_in aggregate) log aggregate.log)

  pub found_mounted : tells → IsMounted old.image (view (disk_of log)).image (state_of log)
  found_mounted told = subst (λ (l : List ℕ). IsMounted l (view (disk_of log)).image (state_of log)) still.image (mounted told)

  pub stands_if : AreOpen → IfOk result (λ aggregate. aggregate.wear ≡ 0) → IfOk result (λ aggregate. aggregate.is_open ≡ true) → length roster.capacity ≤ 4 → (tells → AreBytes old.image)
      → IfOk result (λ aggregate. Stands tells view aggregate)
  stands_if opens wear shown few bytes = by result opens wear shown
    where
      by : (r : Result (Aggregate D) E) → IfOk r (λ aggregate. Opens tells view server roster 9223372036854775808 (state_in aggregate) log aggregate.log) → IfOk r (λ aggregate. aggregate.wear ≡ 0)
          → IfOk r (λ aggregate. aggregate.is_open ≡ true) → IfOk r (λ aggregate. Stands tells view aggregate)
      by (Ok aggregate) opens wear shown = (
        shown,
        subst (λ (w : ℕ). StandsOn tells view (state_in aggregate) w aggregate.log) (sym wear)
            (mounted_stands tells view old.image log aggregate.log server roster (state_in aggregate) sound found_mounted none opens few bytes),
      )
      by (Err e) opens wear shown = tt

  pub kept_if : AreOpen → length roster.capacity ≤ 4 → (tells → AreBytes old.image) → tells → IfOk result (λ aggregate. HasRecord (state_in aggregate) old.image)
  kept_if opens few bytes told = by result opens
    where
      by : (r : Result (Aggregate D) E) → IfOk r (λ aggregate. Opens tells view server roster 9223372036854775808 (state_in aggregate) log aggregate.log) → IfOk r (λ aggregate. HasRecord (state_in aggregate) old.image)
      by (Ok aggregate) opens = found_record tells view old.image log aggregate.log server roster sound (found_mounted told) (none told) told (state_in aggregate) opens (bytes told) few
      by (Err e) opens = tt

  pub record_if : AreOpen → tells → IfOk result (λ aggregate. HasSameRecord roster server old.image (view (disk_in aggregate)).image)
  record_if opens told = by result opens
    where
      by : (r : Result (Aggregate D) E) → IfOk r (λ aggregate. Opens tells view server roster 9223372036854775808 (state_in aggregate) log aggregate.log)
          → IfOk r (λ aggregate. HasSameRecord roster server old.image (view (disk_in aggregate)).image)
      by (Ok aggregate) opens = final_same tells view old.image log aggregate.log server roster sound (found_mounted told) (none told) told (state_in aggregate) opens
      by (Err e) opens = tt

  leaves : (left : View) → tells → LeavesOnly (IsSameLog judged.image) judged (view (disk_of log)) → LeavesOnly (IsLeftReformed view log) (view (disk_of log)) left → LeavesOnly (HasSameRecord roster server old.image) old left
  leaves left told run reforming = mounted_leaves tells view old judged left log log server roster sound (found_mounted told) (none told) told still run reforming

  pub crash_if : tells → LeavesOnly (IsSameLog judged.image) judged (view (disk_of log)) → IfOk result (λ aggregate. LeavesOnly (IsLeftReformed view log) (view (disk_of log)) (view (disk_in aggregate)))
      → IfOk result (λ aggregate. LeavesOnly (HasSameRecord roster server old.image) old (view (disk_in aggregate)))
  crash_if told run reforming = by result reforming
    where
      by : (r : Result (Aggregate D) E) → IfOk r (λ aggregate. LeavesOnly (IsLeftReformed view log) (view (disk_of log)) (view (disk_in aggregate)))
          → IfOk r (λ aggregate. LeavesOnly (HasSameRecord roster server old.image) old (view (disk_in aggregate)))
      by (Ok aggregate) reforming = leaves (view (disk_in aggregate)) told run reforming
      by (Err e) reforming = tt

  pub crash_err_if : (disk : E → D) → tells → LeavesOnly (IsSameLog judged.image) judged (view (disk_of log)) → IfErr result (λ e. LeavesOnly (IsLeftReformed view log) (view (disk_of log)) (view (disk e)))
      → IfErr result (λ e. LeavesOnly (HasSameRecord roster server old.image) old (view (disk e)))
  crash_err_if disk told run reforming = by result reforming
    where
      by : (r : Result (Aggregate D) E) → IfErr r (λ e. LeavesOnly (IsLeftReformed view log) (view (disk_of log)) (view (disk e))) → IfErr r (λ e. LeavesOnly (HasSameRecord roster server old.image) old (view (disk e)))
      by (Ok aggregate) reforming = tt
      by (Err e) reforming = leaves (view (disk e)) told run reforming

  -- after an error the disk has the same record
  left_record : (d : D) → tells → IsSettled (view (disk_of log)) → (view d).may_leave (view d).image → LeavesOnly (IsLeftReformed view log) (view (disk_of log)) (view d) → HasSameRecord roster server old.image (view d).image
  left_record d told settled reads run =
      left_same tells view old.image log log server roster sound (found_mounted told) (none told) told (view d).image
      (by (during run (view d).image ((view d).counts_now (view (disk_of log)).moment (view d).image run.later reads)))
    where
      by : (view (disk_of log)).may_leave (view d).image ⊎ IsLeftReformed view log (view d).image → IsLeftReformed view log (view d).image
      by (inl before) =
          subst (IsLeftReformed view log) (sym (settled (view d).image before)) (stage_in (contents_of view log) 0, inl (λ p lt. refl), has_pages tells view log sound told)
      by (inr left) = left

  pub record_err_if : (disk : E → D) → tells → IsSettled (view (disk_of log)) → ((d : D) → (view d).may_leave (view d).image)
      → IfErr result (λ e. LeavesOnly (IsLeftReformed view log) (view (disk_of log)) (view (disk e))) → IfErr result (λ e. HasSameRecord roster server old.image (view (disk e)).image)
  record_err_if disk told settled reads reforming = by result reforming
    where
      by : (r : Result (Aggregate D) E) → IfErr r (λ e. LeavesOnly (IsLeftReformed view log) (view (disk_of log)) (view (disk e))) → IfErr r (λ e. HasSameRecord roster server old.image (view (disk e)).image)
      by (Ok aggregate) reforming = tt
      by (Err e) reforming = left_record (disk e) told settled (reads (disk e)) reforming

-- a disk that was judged, and then looked at for a log in vain, has the same record
pub vain_record : (old judged left : View) (roster : Roster) (server : ServerId) → IsQuiet old judged → left.may_leave left.image → IsQuietOr (IsSameLog judged.image) judged left → HasSameRecord roster server old.image left.image
vain_record old judged left roster server still reads (inl quiet) = ap (record_in roster server) (quiet.image ∙ still.image)
vain_record old judged left roster server still reads (inr same) = same_log_record old.image left.image (subst (λ (l : List ℕ). IsSameLog l left.image) still.image (same left.image reads)) roster server
