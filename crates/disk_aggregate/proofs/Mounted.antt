-- What a mount makes of a disk that isn't refused.
use Rattle.std.proofs.Common.{◌≡◌, ◌≤◌, ℕ, List, length, subst, arith}
use Rattle.std.specs.Prelude.{true, None}
use Rattle.base_types.specs.Image.{AreBytes}
use Rattle.base_types.specs.View.{View}
use Rattle.base_types.specs.declared.ids.ServerId.{ServerId}
use Rattle.tree_calls.specs.declared.roster.Roster.{Roster}
use Rattle.store_state.specs.declared.state.StoreState.{StoreState}
use Rattle.store_records.specs.Stored.{IsStorable}
use Rattle.disk_layout.specs.Half.{HasLog}
use Rattle.disk_layout.specs.declared.half.Half.{Half}
use Rattle.disk_layout.specs.declared.superblock.Superblock.{Superblock}
use Rattle.disk_layout.proofs.Unique.{superblock_unique}
use Rattle.disk_log.specs.Contents.{contents_of, stage_in}
use Rattle.disk_log.specs.Log.{disk_of, state_of, IsSoundLog}
use Rattle.disk_log.specs.Mount.{IsMounted}
use Rattle.disk_log.specs.declared.log.Log.{Log}
use Rattle.disk_pages.specs.Server.{is_server_page}
use Rattle.disk_image.specs.Aggregate.{aggregate_of}
use Rattle.disk_image.specs.Image.{image_in}
use Rattle.disk_image.specs.Refused.{refused_at}
use Rattle.disk_image.proofs.Front.{superblock_is}
use Rattle.disk_image_laws.proofs.Mounted as front
use Rattle.disk_records.specs.Record.{record_of}
use Rattle.disk_records.specs.MountLaws.{IsMounted as IsUnrefused}
use Rattle.disk_records.proofs.Mounted.{faultless_is_storable}
use Rattle.disk_records.proofs.Unrefused.{unrefused_is_mounted}
use Rattle.disk_aggregate.specs.Opening.{Opens, IsLeftReformed}
use Rattle.disk_aggregate.specs.Records.{HasRecord, HasSameRecord}
use Rattle.disk_aggregate.specs.Stands.{StandsOn}
use Rattle.disk_aggregate.proofs.Opened as opened
use Rattle.disk_aggregate.proofs.Opened.{IsFound, IsKept, opened_stands}

-- the superblock of a disk that isn't refused
in_range : (server servers : ℕ) (bytes : List ℕ) (superblock : Superblock) (half : Half) → HasLog superblock half bytes → refused_at server servers bytes ≡ None
    → (1 ≤ superblock.server) × (superblock.server ≤ 4) × (1092 ≤ superblock.blocks)
in_range server servers bytes superblock half log none =
    let is = front.mounted_is server servers bytes none in
    let found = superblock_is bytes is.superblock is.front in
    let same : is.superblock ≡ superblock = superblock_unique is.superblock superblock bytes found.0 log.front in
    subst (λ (s : Superblock). (1 ≤ s.server) × (s.server ≤ 4) × (1092 ≤ s.blocks)) same (found.1, found.2, found.3)

pub unrefused_found : (server : ServerId) (roster : Roster) (bytes : List ℕ) (superblock : Superblock) (half : Half) → HasLog superblock half bytes → refused_at server.0 (length roster.capacity) bytes ≡ None
    → IsFound server superblock half bytes
unrefused_found server roster bytes superblock half log none =
    let law = unrefused_is_mounted server roster bytes superblock half log none in
    let range = in_range server.0 (length roster.capacity) bytes superblock half log none in
    record { clean = law.clean; own = law.own; first = range.0; last = range.1; least = range.2 }

module _ {D : Type 0} (tells : Type 0) (view : D → View) (old : List ℕ) (first final : Log D) (server : ServerId) (roster : Roster)
    (sound : IsSoundLog tells view first) (mounted : IsMounted old (view (disk_of first)).image (state_of first)) (none : refused_at server.0 (length roster.capacity) old ≡ None) (told : tells) where
  found : IsFound server (state_of first).superblock mounted.half old
  found = unrefused_found server roster old (state_of first).superblock mounted.half mounted.log none

  -- the server's page is one
  pub page : is_server_page (stage_in (contents_of view first) 0 0) ≡ true
  page = opened.page tells view old first final server roster sound mounted found told

  -- what a crash leaves while the log is brought to format 2
  pub left_same : (c : List ℕ) → IsLeftReformed view first c → HasSameRecord roster server old c
  left_same = opened.left_same tells view old first final server roster sound mounted found told

  module _ (state : StoreState) (opens : Opens tells view server roster 9223372036854775808 state first final) where
    pub final_same : HasSameRecord roster server old (view (disk_of final)).image
    final_same = opened.final_same tells view old first final server roster sound mounted found told state 9223372036854775808 opens

    module _ (bytes : AreBytes old) (few : length roster.capacity ≤ 4) where
      law : IsUnrefused server roster old (aggregate_of (state_of first).superblock mounted.half old)
      law = unrefused_is_mounted server roster old (state_of first).superblock mounted.half mounted.log none

      storable : IsStorable (record_of roster (image_in (opened.mid tells view old first final server roster sound mounted found told state 9223372036854775808 opens)))
      storable =
          faultless_is_storable (opened.mid tells view old first final server roster sound mounted found told state 9223372036854775808 opens) roster
          (opened.mid_clean tells view old first final server roster sound mounted found told state 9223372036854775808 opens)
          (opened.format tells view old first final server roster sound mounted found told state 9223372036854775808 opens) found.first found.last few
          (opened.declared tells view old first final server roster sound mounted found told state 9223372036854775808 opens law.declared)

      pub found_record : HasRecord state old
      found_record = opened.found_record tells view old first final server roster sound mounted found told state 9223372036854775808 opens bytes storable

      pub is_kept : IsKept view state final
      is_kept = opened.is_kept tells view old first final server roster sound mounted found told state 9223372036854775808 opens bytes storable

-- an aggregate that was mounted stands
pub mounted_stands : {D : Type 0} (tells : Type 0) (view : D → View) (old : List ℕ) (first final : Log D) (server : ServerId) (roster : Roster) (state : StoreState)
    → IsSoundLog tells view first → (tells → IsMounted old (view (disk_of first)).image (state_of first)) → (tells → refused_at server.0 (length roster.capacity) old ≡ None)
    → Opens tells view server roster 9223372036854775808 state first final → length roster.capacity ≤ 4 → (tells → AreBytes old) → StandsOn tells view state 0 final
mounted_stands tells view old first final server roster state sound mounted none opens few bytes =
    opened_stands tells view first final server roster state 9223372036854775808 0 (omega arith) opens
    (λ told. is_kept tells view old first final server roster sound (mounted told) (none told) told state opens (bytes told) few)
