-- What an opening makes of a log whose disk has no faults.
use Rattle.std.proofs.Common.{◌≡◌, ◌<◌, ◌≤◌, ℕ, ◌+◌, ◌-◌, ◌*◌, List, [], length, inl, inr, refl, sym, subst, ◌∙◌, ap, arith}
use Rattle.std.specs.Prelude.{true, nat_le, Some}
use Rattle.base_types.specs.Image.{byte_at, AreBytes}
use Rattle.base_types.specs.View.{View}
use Rattle.base_types.specs.declared.ids.ServerId.{ServerId}
use Rattle.tree_calls.specs.declared.roster.Roster.{Roster}
use Rattle.store_state.specs.State.{held_at}
use Rattle.store_state.specs.declared.state.StoreState.{StoreState}
use Rattle.store_records.specs.Stored.{IsStorable}
use Rattle.disk_layout.specs.Pages.{pages_in, HasPages}
use Rattle.disk_layout.specs.Places.{block_start, pages_of, SameBlocks}
use Rattle.disk_layout.specs.declared.half.Half.{Half}
use Rattle.disk_layout.specs.declared.superblock.Superblock.{Superblock}
use Rattle.disk_log.specs.Contents.{contents_of, page_in, stage_in}
use Rattle.disk_log.specs.Log.{disk_of, state_of, IsSoundLog}
use Rattle.disk_log.specs.Mount.{IsMounted}
use Rattle.disk_log.specs.declared.log.Log.{Log}
use Rattle.disk_log.proofs.Emptying.{no_puts}
use Rattle.disk_objects.specs.Holds.{Holds}
use Rattle.disk_objects.proofs.Staying.{holds_kept}
use Rattle.disk_objects.specs.Objects.{kept_anodes, KeepsNow}
use Rattle.disk_pages.specs.Puts.{SaysFacts, SaysNumbers}
use Rattle.disk_pages.specs.Server.{is_server_page}
use Rattle.disk_image.specs.Aggregate.{Aggregate, aggregate_of, page_of, server_page}
use Rattle.disk_image.specs.Faults.{faults_in}
use Rattle.disk_image.specs.Image.{image_in}
use Rattle.disk_image.proofs.Joined.{get_or-listed}
use Rattle.disk_image_laws.proofs.Logs.{blocks_have_same_image}
use Rattle.disk_image_laws.specs.ObjectLaws.{anodes_of}
use Rattle.disk_image_laws.proofs.Faultless.{faultless_keeps}
use Rattle.disk_records.specs.Record.{record_of, record_in}
use Rattle.disk_records.specs.Said.{facts_said}
use Rattle.disk_records.specs.Stored.{SaysRecord, SaysSlot}
use Rattle.disk_records.specs.MountLaws.{AreDeclared}
use Rattle.disk_records.proofs.Held.{faultless_says}
use Rattle.disk_records.proofs.Parts as parts
use Rattle.disk_records.specs.Loading.{KeepsRecord, IsOf}
use Rattle.disk_records.specs.Reforming.{IsReformedOr}
use Rattle.disk_records.proofs.Formatted.{last_now}
use Rattle.disk_aggregate.specs.Opening.{Opens, IsLeftReformed}
use Rattle.disk_aggregate.specs.Records.{HasRecord, HasSameRecord}
use Rattle.disk_aggregate.specs.Stands.{StandsOn}
use Rattle.disk_aggregate.proofs.Found.{record_found}
use Rattle.disk_aggregate.proofs.Left.{pages_now}
use Rattle.disk_aggregate.proofs.Reformed as reformed
use Rattle.disk_aggregate.proofs.Standing as standing

-- pages but the first are the same
later_page : (n : ℕ) (old new : ℕ → List ℕ) → IsReformedOr n old new → (p : ℕ) → 1 ≤ p → p < n → new p ≡ old p
later_page n old new (inl same) p some lt = same p lt
later_page n old new (inr still) p some lt = still.others p some lt

-- a disk as it was found: a server's log, and no faults behind it
pub record IsFound (server : ServerId) (superblock : Superblock) (half : Half) (bytes : List ℕ) : Type 0 where
  pub clean : faults_in (aggregate_of superblock half bytes) ≡ []
  pub own : superblock.server ≡ server.0
  pub first : 1 ≤ superblock.server
  pub last : superblock.server ≤ 4
  pub least : 1092 ≤ superblock.blocks

-- what an opening keeps
pub record IsKept {D : Type 0} (view : D → View) (state : StoreState) (final : Log D) : Type 0 where
  pub record_held : KeepsRecord view state final
  pub server_is : (state_of final).superblock.server ≡ state.server.0
  pub blocks_are : (state_of final).superblock.blocks ≡ state.capacity + 1024
  pub least : 68 ≤ state.capacity

module _ {D : Type 0} (tells : Type 0) (view : D → View) (old : List ℕ) (first final : Log D) (server : ServerId) (roster : Roster)
    (sound : IsSoundLog tells view first) (mounted : IsMounted old (view (disk_of first)).image (state_of first)) (found : IsFound server (state_of first).superblock mounted.half old) (told : tells) where
  abbrev superblock : Superblock
  superblock = (state_of first).superblock

  abbrev n : ℕ
  n = pages_of superblock.blocks

  abbrev was : Aggregate
  was = aggregate_of superblock mounted.half old

  stands : (p : ℕ) → p < n → stage_in (contents_of view first) 0 p ≡ pages_in mounted.half old p
  stands = standing.stands tells view old first final mounted

  page_was : (p : ℕ) → p < n → page_of was p ≡ pages_in mounted.half old p
  page_was p low = get_or-listed (pages_in mounted.half old) n p [] low

  -- the server's page is one
  pub page : is_server_page (stage_in (contents_of view first) 0 0) ≡ true
  page = ap is_server_page (stands 0 (omega arith) ∙ sym (page_was 0 (omega arith))) ∙ (parts.all_right was found.clean).server

  -- what a crash leaves while the log is brought to format 2
  pub left_same : (c : List ℕ) → IsLeftReformed view first c → HasSameRecord roster server old c
  left_same c (pages, reformed_or, has) =
      standing.crash_record tells view old first final mounted found.clean page roster server found.own found.first found.last found.least told c pages reformed_or sound.many has

  module _ (state : StoreState) (most : ℕ) (opens : Opens tells view server roster most state first final) where
    pub final_same : HasSameRecord roster server old (view (disk_of final)).image
    final_same = standing.final_record tells view old first final mounted found.clean page roster server found.own found.first found.last found.least told sound.many opens.reforms

    abbrev c : List ℕ
    c = (view (disk_of final)).image

    pub there : HasPages superblock (state_of final).half.generation (stage_in (contents_of view final) 0) c c
    there =
        subst (λ (s : Superblock). HasPages s (state_of final).half.generation (stage_in (contents_of view final) 0) c c) opens.reforms.superblock
        (standing.has_pages tells view final opens.reforms.idle.sound told)

    same_blocks : SameBlocks n old c
    same_blocks = λ at le. (let many = sound.many in opens.reforms.blocks told at (omega (arith, many, le))) ∙ mounted.blocks at le

    turned : IsReformedOr n (pages_in mounted.half old) (pages_in there.half c)
    turned =
        pages_now n (pages_in mounted.half old) (stage_in (contents_of view first) 0) (stage_in (contents_of view final) 0) (pages_in there.half c) (omega arith) stands there.pages
        (subst (λ (m : ℕ). IsReformedOr m (stage_in (contents_of view first) 0) (stage_in (contents_of view final) 0)) sound.many (opens.reforms.pages told page))

    is_same : reformed.IsSame superblock mounted.half there.half old c found.clean turned same_blocks
    is_same = reformed.same superblock mounted.half there.half old c found.clean turned same_blocks

    -- the pages of the log as it is now, over the blocks as they were found
    abbrev pub mid : Aggregate
    mid = record (aggregate_of superblock there.half c) { image = old }

    pub mid_clean : faults_in mid ≡ []
    mid_clean = sym (blocks_have_same_image mid c same_blocks).0 ∙ is_same.none

    pub mid_record : record_of roster (image_in mid) ≡ record_of roster (image_in was)
    mid_record = sym (ap (record_of roster) (blocks_have_same_image mid c same_blocks).1) ∙ is_same.kept roster

    page_mid : (p : ℕ) → p < n → page_of mid p ≡ page_in (contents_of view final) p
    page_mid p low =
        get_or-listed (pages_in there.half c) n p [] low ∙ there.pages p low
        ∙ (λ i. stage_in (contents_of view final) (sym opens.reforms.last i) p)
        ∙ last_now tells view final opens.reforms.idle.sound (no_puts (state_of final) opens.reforms.idle.sound.accounts opens.reforms.idle.none_open) told p

    pub format : byte_at (server_page mid) 29 ≡ 2
    format = ap (λ (l : List ℕ). byte_at l 29) (page_mid 0 (omega arith)) ∙ opens.reforms.format told

    page_still : (p : ℕ) → 1 ≤ p → p < n → page_of mid p ≡ page_of was p
    page_still p some low =
        get_or-listed (pages_in there.half c) n p [] low ∙ later_page n (pages_in mounted.half old) (pages_in there.half c) turned p some low ∙ sym (page_was p low)

    pub declared : AreDeclared roster was → AreDeclared roster mid
    declared all slot low = ap (λ (l : List ℕ). nat_le (byte_at l 73) (length roster.capacity)) (page_still (2 + 66 * slot) (omega arith) (omega (arith, low))) ∙ all slot low

    abbrev kept : StoreState
    kept = record_of roster (image_in mid)

    says_there : SaysRecord kept (anodes_of mid) (page_of mid)
    says_there = faultless_says mid roster mid_clean format

    says : SaysRecord kept (anodes_of mid) (λ p. page_in (contents_of view final) p)
    says = record {
      facts = subst (λ (l : List ℕ). SaysFacts (facts_said kept) l) (page_mid 0 (omega arith)) says_there.facts;
      numbers = subst (λ (l : List ℕ). SaysNumbers kept.records l) (page_mid 1 (omega arith)) says_there.numbers;
      slot = λ s low.
          subst (λ (l : List ℕ). SaysSlot (held_at kept.slots s) (anodes_of mid s) (page_in (contents_of view final) (2 + 66 * s)) l) (page_mid (3 + 66 * s) (omega (arith, low)))
          (subst (λ (l : List ℕ). SaysSlot (held_at kept.slots s) (anodes_of mid s) l (page_of mid (3 + 66 * s))) (page_mid (2 + 66 * s) (omega (arith, low))) (says_there.slot s low));
    }

    module _ (bytes : AreBytes old) (storable : IsStorable kept) where
      keeps : KeepsNow (anodes_of mid) (state_of final) c
      keeps =
          (let there_kept = faultless_keeps mid mid_clean bytes in
          let held : Holds (kept_anodes (anodes_of mid)) superblock.blocks (λ p. page_in (contents_of view final) p) c =
          holds_kept (kept_anodes (anodes_of mid)) superblock.blocks (page_of mid) (λ p. page_in (contents_of view final) p) old c there_kept.held (λ p low. sym (page_mid p low))
          (λ b lt some k few. same_blocks (block_start (pages_of superblock.blocks) b + k) (omega arith)) in
          record {
            held = subst (λ (s : Superblock). Holds (kept_anodes (anodes_of mid)) s.blocks (λ p. page_in (contents_of view final) p) c) (sym opens.reforms.superblock) held;
            each = there_kept.each;
          })

      keeps_record : KeepsRecord view kept final
      keeps_record = record { slots = anodes_of mid; keeps = keeps; says = says; storable = storable }

      is_of : IsOf server roster kept final
      is_of = record {
        server_is = (λ i. record { 0 = sym found.own i });
        roster_is = refl;
        capacity = ap (λ (s : Superblock). s.blocks - 1024) opens.reforms.superblock;
      }

      -- the record that was read back is the one that the log keeps
      state_kept : state ≡ kept
      state_kept = opens.state_is told kept keeps_record is_of

      -- which is that of the disk as it was found
      pub state_was : state ≡ record_of roster (image_in was)
      state_was = state_kept ∙ mid_record

      pub found_record : HasRecord state old
      found_record =
          (let there : record_of roster (image_in was) ≡ state = sym state_was in
          (λ i. record_in (opens.roster_is i) (opens.server_is i) old) ∙ record_found superblock mounted.half old mounted.log found.first found.last found.least found.clean roster server found.own ∙ ap Some there)

      pub is_kept : IsKept view state final
      is_kept =
          (let same : state.capacity ≡ superblock.blocks - 1024 = ap (λ (s : StoreState). s.capacity) state_kept in
          let e : (state_of final).superblock.blocks ≡ superblock.blocks = ap (λ (s : Superblock). s.blocks) opens.reforms.superblock in
          let least = found.least in
          record {
            record_held = subst (λ (s : StoreState). KeepsRecord view s final) (sym state_kept) keeps_record;
            server_is = ap (λ (s : Superblock). s.server) opens.reforms.superblock ∙ found.own ∙ sym (ap (λ (s : ServerId). s.0) opens.server_is);
            blocks_are = omega (arith, same, e, least);
            least = omega (arith, same, least);
          })

-- an aggregate that was opened stands
pub opened_stands : {D : Type 0} (tells : Type 0) (view : D → View) (first final : Log D) (server : ServerId) (roster : Roster) (state : StoreState) (most wear : ℕ) → most ≡ 9223372036854775808 + wear
    → Opens tells view server roster most state first final → (tells → IsKept view state final) → StandsOn tells view state wear final
opened_stands tells view first final server roster state most wear most_is opens kept = record {
  idle = opens.reforms.idle;
  last = opens.reforms.last;
  settled = opens.reforms.settled;
  generation = (let e = opens.generation in omega (arith, e, most_is));
  epoch = (let e = opens.epoch in omega (arith, e, most_is));
  ship = (let e = opens.ship in omega (arith, e, most_is));
  record_held = λ told. (kept told).record_held;
  server_is = λ told. (kept told).server_is;
  blocks_are = λ told. (kept told).blocks_are;
  least = λ told. (kept told).least;
}
