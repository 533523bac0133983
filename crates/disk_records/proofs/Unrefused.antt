-- What a mount begins with, where it isn't refused.
use Rattle.std.proofs.Common.{◌≡◌, length, sym, subst, ◌∙◌, ap}
use Rattle.std.specs.Prelude.{Some}
use Rattle.std.specs.Option.{option_map}
use Rattle.disk_layout.proofs.Unique.{superblock_unique}
use Rattle.disk_layout.specs.Half.{used_half}
use Rattle.disk_layout.specs.Places.{pages_of}
use Rattle.disk_image.specs.Aggregate.{Aggregate, aggregate_of}
use Rattle.disk_image.proofs.Front.{superblock_is}
use Rattle.disk_image_laws.proofs.Mounted as front
use Rattle.disk_records.specs.Record.{record_of}
use Rattle.disk_records.specs.MountLaws.{IsMounted, UnrefusedIsMounted}
use Rattle.disk_records.proofs.Mounted.{faultless_is_storable}

some_same : {X : Type 0} (a b : X) → Some a ≡ Some b → a ≡ b
some_same a b e = cc

pub unrefused_is_mounted : UnrefusedIsMounted
unrefused_is_mounted server roster bytes superblock half log none =
    let is = front.mounted_is server.0 (length roster.capacity) bytes none in
    let found = superblock_is bytes is.superblock is.front in
    let same : is.superblock ≡ superblock = superblock_unique is.superblock superblock bytes found.0 log.front in
    let used : is.half ≡ half = some_same is.half half (sym is.used ∙ (λ j. used_half (pages_of (same j).blocks) bytes) ∙ log.used) in
    let disk : Aggregate = aggregate_of is.superblock is.half bytes in
    let clean = front.faults_there server.0 (length roster.capacity) bytes is.shown is.superblock is.front is.named is.half is.used ∙ is.taken.clean in
    let image = front.image_is server.0 (length roster.capacity) bytes is.shown is.superblock is.front is.named is.half is.used clean in
    let here : IsMounted server roster bytes disk = record {
      clean = is.taken.clean;
      own = is.named;
      declared = is.taken.declared;
      record_is = ap (option_map (record_of roster)) image;
      storable = λ format few. faultless_is_storable disk roster is.taken.clean format found.1 found.2 few is.taken.declared;
    } in
    subst (λ (d : Aggregate). IsMounted server roster bytes d) (λ j. aggregate_of (same j) (used j) bytes) here
