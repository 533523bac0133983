-- The bytes of a disk with a log behind its superblock have the record that its pages say.
use Rattle.std.proofs.Common.{◌≡◌, ℕ, List, [], ◌∷◌, length, inl, inr, ◌∙◌, ap, arith}
use Rattle.std.specs.Prelude.{true, false, ◌||◌, ◌==◌, not, Option, Some, None}
use Rattle.std.specs.Option.{option_map}
use Rattle.std.proofs.lemmas.Bool.{cond-true, cond-false, or_from, not_from_true, eq-eqb}
use Rattle.disk_layout.specs.Half.{used_half}
use Rattle.disk_layout.specs.Places.{pages_of}
use Rattle.disk_layout.specs.declared.half.Half.{Half}
use Rattle.disk_layout.specs.declared.superblock.Superblock.{Superblock}
use Rattle.disk_layout.proofs.Words.{not_blank}
use Rattle.disk_image.specs.Aggregate.{aggregate_of, is_blank, superblock_of}
use Rattle.disk_image.specs.Faults.{faults_of, faults_under, faults_behind}
use Rattle.disk_image.specs.Image.{image_of, image_under, image_behind, image_in}
use Rattle.disk_image.specs.declared.fault.Fault.{Fault}
use Rattle.disk_image.proofs.Front.{unblank_fails, superblock_some}
use Rattle.disk_records.specs.Record.{record_of}
use Rattle.disk_records.specs.Laws.{RecordIsThere}
use Rattle.disk_records.proofs.Read.{record_is_read}
use Rattle.disk_records.proofs.Right.{record_has_no_faults}

pub record_is_there : RecordIsThere
unfolding image_of faults_of
record_is_there bytes superblock half state slots log storable keeps says server blocks least =
    let shown : is_blank bytes ≡ false = unblank_fails bytes (not_blank bytes log.front.named.gate) in
    let first = storable.first in
    let last = storable.last in
    let is : superblock_of bytes ≡ Some superblock = superblock_some bytes superblock log.front (omega (arith, server, first)) (omega (arith, server, last)) (omega (arith, blocks, least)) in
    let clean = record_has_no_faults (aggregate_of superblock half bytes) state slots storable keeps says server blocks in
    let behind : faults_behind superblock (used_half (pages_of superblock.blocks) bytes) bytes ≡ [] = ap (λ (h : Option Half). faults_behind superblock h bytes) log.used ∙ clean in
    let faults : faults_of bytes ≡ [] = cond-false (is_blank bytes) [] (faults_under (superblock_of bytes) bytes) shown ∙ ap (λ (o : Option Superblock). faults_under o bytes) is ∙ behind in
    let none : (length (faults_of bytes) == 0) ≡ true = ap (λ (l : List Fault). length l == 0) faults in
    let named : image_under (Some superblock) state.server.0 bytes ≡ Some (image_in (aggregate_of superblock half bytes)) =
    cond-true (superblock.server == state.server.0) (image_behind superblock (used_half (pages_of superblock.blocks) bytes) bytes) None (eq-eqb superblock.server state.server.0 server)
    ∙ ap (λ (h : Option Half). image_behind superblock h bytes) log.used in
    let image : image_of state.server.0 bytes ≡ Some (image_in (aggregate_of superblock half bytes)) =
    cond-false (is_blank bytes || not (length (faults_of bytes) == 0)) None (image_under (superblock_of bytes) state.server.0 bytes)
    (or_from (is_blank bytes) (not (length (faults_of bytes) == 0)) shown (not_from_true (length (faults_of bytes) == 0) none))
    ∙ ap (λ (o : Option Superblock). image_under o state.server.0 bytes) is ∙ named in
    ap (option_map (record_of state.roster)) image ∙ ap Some (record_is_read (aggregate_of superblock half bytes) state slots storable keeps says server blocks)
