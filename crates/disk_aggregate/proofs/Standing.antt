-- The bytes of a log that is told, and what an open of a disk makes of its record.
use Rattle.std.proofs.Common.{◌≡◌, ◌<◌, ◌≤◌, ℕ, List, [], take, inl, refl, sym, subst, ◌∙◌, arith}
use Rattle.std.specs.Prelude.{true, Some}
use Rattle.std.proofs.lemmas.List.{length-take-le}
use Rattle.base_types.specs.View.{View}
use Rattle.disk_layout.specs.Half.{HasLog, used_half}
use Rattle.disk_layout.specs.Pages.{firsts, pages_in, recovered, HasPages, IsSameOrNext}
use Rattle.disk_layout.specs.Places.{in_place, pages_of, SameBlocks}
use Rattle.disk_layout.specs.declared.entry.Entry.{Entry}
use Rattle.disk_layout.specs.declared.half.Half.{Half}
use Rattle.disk_layout.specs.declared.superblock.Superblock.{Superblock}
use Rattle.base_types.specs.declared.ids.ServerId.{ServerId}
use Rattle.tree_calls.specs.declared.roster.Roster.{Roster}
use Rattle.disk_image.specs.Aggregate.{aggregate_of}
use Rattle.disk_image.specs.Faults.{faults_in}
use Rattle.disk_pages.specs.Server.{is_server_page}
use Rattle.disk_aggregate.specs.Records.{HasSameRecord}
use Rattle.disk_records.specs.Reforming.{IsReformedOr, Reforms}
use Rattle.disk_aggregate.proofs.Left.{left_record}
use Rattle.disk_layout.proofs.Entries.{held_entries}
use Rattle.disk_layout.proofs.Pages.{whole_recovered}
use Rattle.disk_log.specs.Contents.{contents_of, stage_in}
use Rattle.disk_log.specs.Log.{disk_of, state_of, IsSoundLog}
use Rattle.disk_log.specs.Mount.{IsMounted}
use Rattle.disk_log.specs.Puts.{page_of}
use Rattle.disk_log.specs.State.{fresh_state}
use Rattle.disk_log.specs.Switch.{next_half}
use Rattle.disk_log.specs.declared.log.Log.{Log}

module _ {D : Type 0} (tells : Type 0) (view : D → View) (log : Log D) (sound : IsSoundLog tells view log) (told : tells) where
  abbrev Image : List ℕ
  Image = (view (disk_of log)).image

  abbrev held : List Entry
  held = take (state_of log).forced (state_of log).entries

  pub has_log : HasLog (state_of log).superblock (state_of log).half Image
  has_log = record {
    front = sound.front told;
    used = subst (λ (n : ℕ). used_half n Image ≡ Some (state_of log).half) sound.many (sound.steady.on_disk told).log.used;
  }

  -- its pages there are those of stage 0
  pub stage_there : (p : ℕ) → pages_in (state_of log).half Image p ≡ stage_in (contents_of view log) 0 p
  unfolding pages_in firsts
  stage_there p =
      (let few = length-take-le (state_of log).forced (state_of log).entries sound.steady.forced_le in
      let le = sound.steady.forced_le in
      let room = sound.steady.room in
      let disk = sound.steady.on_disk told in
      (λ j. recovered (held_entries (state_of log).half held Image (omega (arith, few, le, room)) disk.log.entries j) (in_place Image) p)
      ∙ whole_recovered held (in_place Image) p disk.whole.forced)

  -- so its bytes are themselves the log in stage 0
  pub has_pages : HasPages (state_of log).superblock (state_of log).half.generation (stage_in (contents_of view log) 0) Image Image
  has_pages = record {
    half = (state_of log).half;
    log = has_log;
    follows = inl refl;
    pages = λ p lt. stage_there p;
    blocks = λ at le. refl;
  }

-- A log that was mounted, and then brought to format 2, or left as it was.
module _ {D : Type 0} (tells : Type 0) (view : D → View) (old : List ℕ) (first final : Log D) (mounted : IsMounted old (view (disk_of first)).image (state_of first)) where
  stage_fresh : (superblock : Superblock) (half : Half) (image : List ℕ) (p : ℕ)
      → stage_in (record { state = fresh_state superblock half; image = image }) 0 p ≡ page_of (fresh_state superblock half).entries (fresh_state superblock half).puts image p
  unfolding firsts page_of
  stage_fresh superblock half image p = refl

  -- its pages are those of the disk as it was found
  pub stands : (p : ℕ) → p < pages_of (state_of first).superblock.blocks → stage_in (contents_of view first) 0 p ≡ pages_in mounted.half old p
  stands p lt =
      (λ j. stage_in (record { state = mounted.state_is j; image = (view (disk_of first)).image }) 0 p)
      ∙ stage_fresh (state_of first).superblock (next_half mounted.half) (view (disk_of first)).image p
      ∙ (λ j. page_of (sym mounted.state_is j).entries (sym mounted.state_is j).puts (view (disk_of first)).image p)
      ∙ mounted.pages p lt

  module _ (clean : faults_in (aggregate_of (state_of first).superblock mounted.half old) ≡ []) (page : is_server_page (stage_in (contents_of view first) 0 0) ≡ true)
      (roster : Roster) (server : ServerId) (own : (state_of first).superblock.server ≡ server.0) (one : 1 ≤ (state_of first).superblock.server) (four : (state_of first).superblock.server ≤ 4) (least : 1092 ≤ (state_of first).superblock.blocks)
      (told : tells) where
    -- what a crash leaves meanwhile has the same record
    pub crash_record : (c : List ℕ) (pages : ℕ → List ℕ) → IsReformedOr (state_of first).half.pages (stage_in (contents_of view first) 0) pages → (state_of first).half.pages ≡ pages_of (state_of first).superblock.blocks
        → HasPages (state_of first).superblock (state_of first).half.generation pages (view (disk_of first)).image c → HasSameRecord roster server old c
    crash_record c pages reformed many has =
        left_record (state_of first).superblock mounted.half (state_of first).half.generation old (view (disk_of first)).image c (stage_in (contents_of view first) 0) pages clean mounted.log stands mounted.blocks
        (subst (λ (n : ℕ). IsReformedOr n (stage_in (contents_of view first) 0) pages) many reformed) has roster server own one four least

    -- and so has what it is in the end
    pub final_record : (state_of first).half.pages ≡ pages_of (state_of first).superblock.blocks → Reforms tells view first final → HasSameRecord roster server old (view (disk_of final)).image
    final_record many reforms =
        (let there = has_pages tells view final reforms.idle.sound told in
        let moved : HasPages (state_of first).superblock (state_of final).half.generation (stage_in (contents_of view final) 0) (view (disk_of final)).image (view (disk_of final)).image =
        subst (λ (s : Superblock). HasPages s (state_of final).half.generation (stage_in (contents_of view final) 0) (view (disk_of final)).image (view (disk_of final)).image) reforms.superblock there in
        let blocks : SameBlocks (pages_of (state_of first).superblock.blocks) (view (disk_of first)).image (view (disk_of final)).image =
        subst (λ (n : ℕ). SameBlocks n (view (disk_of first)).image (view (disk_of final)).image) many (reforms.blocks told) in
        crash_record (view (disk_of final)).image (stage_in (contents_of view final) 0) (reforms.pages told page) many (record {
          half = moved.half;
          log = moved.log;
          follows = subst (λ (h : Half). IsSameOrNext h.generation moved.half.generation) reforms.half moved.follows;
          pages = moved.pages;
          blocks = blocks;
        }))
