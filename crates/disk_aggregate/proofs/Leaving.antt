-- What a crash in a mount leaves, and what a log just mounted is.
use Rattle.std.proofs.Common.{◌≡◌, ℕ, zero, suc, List, get_or, refl, subst, ◌∙◌, ap, length}
use Rattle.std.specs.Prelude.{replicate, None}
use Rattle.base_types.specs.Crash.{IsQuiet}
use Rattle.base_types.specs.Image.{byte_at}
use Rattle.base_types.specs.View.{View}
use Rattle.base_types.specs.declared.ids.ServerId.{ServerId}
use Rattle.tree_calls.specs.declared.roster.Roster.{Roster}
use Rattle.base_outside.specs.Runs.{LeavesOnly}
use Rattle.base_outside.proofs.Runs.{quiet, then, weaker}
use Rattle.disk_image.specs.Refused.{refused_at}
use Rattle.disk_log.specs.Log.{disk_of, state_of, IsIdle, IsSoundLog}
use Rattle.disk_log.specs.Mount.{IsMounted, IsSameLog}
use Rattle.disk_log.specs.State.{State, fresh_state}
use Rattle.disk_log.specs.declared.log.Log.{Log}
use Rattle.disk_aggregate.specs.Opening.{IsLeftReformed}
use Rattle.disk_aggregate.specs.Records.{HasSameRecord}
use Rattle.disk_aggregate.proofs.Left.{same_log_record}
use Rattle.disk_aggregate.proofs.Mounted.{left_same}

zero_at : (n k : ℕ) → byte_at (replicate n 0) k ≡ 0
zero_at zero k = refl
zero_at (suc n) zero = refl
zero_at (suc n) (suc k) = zero_at n k

module _ {D : Type 0} (tells : Type 0) (view : D → View) (log : Log D) (fresh : state_of log ≡ fresh_state (state_of log).superblock (state_of log).half) where
  pub fresh_idle : IsSoundLog tells view log → IsIdle tells view log
  fresh_idle sound = record { sound = sound; none_open = λ slot. ap (λ (s : State). get_or s.reservations slot 0) fresh ∙ zero_at 2048 slot }

-- a disk that was judged, and then looked at for a log in vain
pub judged_leaves : (judged_from judged left : View) (roster : Roster) (server : ServerId) → IsQuiet judged_from judged → LeavesOnly (IsSameLog judged.image) judged left
    → LeavesOnly (HasSameRecord roster server judged_from.image) judged_from left
judged_leaves judged_from judged left roster server still run =
    (then) (quiet (HasSameRecord roster server judged_from.image) still)
    (weaker run (λ c same. same_log_record judged_from.image c (subst (λ (l : List ℕ). IsSameLog l c) still.image same) roster server))

-- and then mounted, and brought to format 2
pub mounted_leaves : {D : Type 0} (tells : Type 0) (view : D → View) (judged_from judged left : View) (first final : Log D) (server : ServerId) (roster : Roster)
    → IsSoundLog tells view first → IsMounted judged_from.image (view (disk_of first)).image (state_of first) → refused_at server.0 (length roster.capacity) judged_from.image ≡ None → tells
    → IsQuiet judged_from judged → LeavesOnly (IsSameLog judged.image) judged (view (disk_of first)) → LeavesOnly (IsLeftReformed view first) (view (disk_of first)) left
    → LeavesOnly (HasSameRecord roster server judged_from.image) judged_from left
mounted_leaves tells view judged_from judged left first final server roster sound mounted none told still run reforming =
    (then) (judged_leaves judged_from judged (view (disk_of first)) roster server still run)
    (weaker reforming (left_same tells view judged_from.image first final server roster sound mounted none told))
