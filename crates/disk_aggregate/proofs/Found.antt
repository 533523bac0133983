-- The image of a disk whose log has no faults behind it.
use Rattle.std.proofs.Common.{◌≡◌, ◌≤◌, ℕ, List, [], ◌∷◌, length, inl, inr, ◌∙◌, ap, arith}
use Rattle.std.specs.Prelude.{true, false, ◌||◌, ◌==◌, not, Option, Some, None}
use Rattle.std.specs.Option.{option_map}
use Rattle.std.proofs.lemmas.Bool.{cond-true, cond-false, or_from, not_from_true, eq-eqb}
use Rattle.base_types.specs.declared.ids.ServerId.{ServerId}
use Rattle.tree_calls.specs.declared.roster.Roster.{Roster}
use Rattle.disk_layout.specs.Half.{HasLog, used_half}
use Rattle.disk_layout.specs.Places.{pages_of}
use Rattle.disk_layout.specs.declared.half.Half.{Half}
use Rattle.disk_layout.specs.declared.superblock.Superblock.{Superblock}
use Rattle.disk_layout.proofs.Words.{not_blank}
use Rattle.disk_image.specs.Aggregate.{aggregate_of, is_blank, superblock_of}
use Rattle.disk_image.specs.Faults.{faults_of, faults_in, faults_under, faults_behind}
use Rattle.disk_image.specs.Image.{image_of, image_under, image_behind, image_in}
use Rattle.disk_image.specs.declared.fault.Fault.{Fault}
use Rattle.disk_image.proofs.Front.{unblank_fails, superblock_some}
use Rattle.disk_records.specs.Record.{record_of, record_in}

module _ (superblock : Superblock) (half : Half) (bytes : List ℕ) (log : HasLog superblock half bytes) (first : 1 ≤ superblock.server) (last : superblock.server ≤ 4) (least : 1092 ≤ superblock.blocks)
    (clean : faults_in (aggregate_of superblock half bytes) ≡ []) where
  shown : is_blank bytes ≡ false
  shown = unblank_fails bytes (not_blank bytes log.front.named.gate)

  front : superblock_of bytes ≡ Some superblock
  front = superblock_some bytes superblock log.front first last least

  faults : faults_of bytes ≡ []
  unfolding faults_of
  faults =
      cond-false (is_blank bytes) [] (faults_under (superblock_of bytes) bytes) shown ∙ ap (λ (o : Option Superblock). faults_under o bytes) front
      ∙ ap (λ (h : Option Half). faults_behind superblock h bytes) log.used ∙ clean

  -- it is that of what stands behind the log
  pub image_found : (server : ℕ) → superblock.server ≡ server → image_of server bytes ≡ Some (image_in (aggregate_of superblock half bytes))
  unfolding image_of
  image_found server own =
      let none : (length (faults_of bytes) == 0) ≡ true = ap (λ (l : List Fault). length l == 0) faults in
      cond-false (is_blank bytes || not (length (faults_of bytes) == 0)) None (image_under (superblock_of bytes) server bytes)
      (or_from (is_blank bytes) (not (length (faults_of bytes) == 0)) shown (not_from_true (length (faults_of bytes) == 0) none))
      ∙ ap (λ (o : Option Superblock). image_under o server bytes) front
      ∙ cond-true (superblock.server == server) (image_behind superblock (used_half (pages_of superblock.blocks) bytes) bytes) None (eq-eqb superblock.server server own)
      ∙ ap (λ (h : Option Half). image_behind superblock h bytes) log.used

  pub record_found : (roster : Roster) (server : ServerId) → superblock.server ≡ server.0 → record_in roster server bytes ≡ Some (record_of roster (image_in (aggregate_of superblock half bytes)))
  record_found roster server own = ap (option_map (record_of roster)) (image_found server.0 own)
