-- What a crash in a mount leaves.
use Rattle.std.proofs.Common.{◌≡◌, ◌<◌, ◌≤◌, ℕ, List, [], inl, inr, sym, subst, ◌∙◌, ap, arith}
use Rattle.disk_layout.specs.Half.{HasLog}
use Rattle.disk_layout.specs.Pages.{pages_in, HasPages}
use Rattle.disk_layout.specs.Places.{pages_of, SameBlocks}
use Rattle.disk_layout.specs.declared.half.Half.{Half}
use Rattle.disk_layout.specs.declared.superblock.Superblock.{Superblock}
use Rattle.disk_pages.specs.Laws.{IsReformed}
use Rattle.disk_image.specs.Aggregate.{aggregate_of}
use Rattle.disk_image.specs.Faults.{faults_in}
use Rattle.disk_pages.specs.Server.{is_server_page}
use Rattle.disk_records.specs.Reforming.{IsReformedOr}
use Rattle.std.specs.Option.{option_map}
use Rattle.base_types.specs.declared.ids.ServerId.{ServerId}
use Rattle.tree_calls.specs.declared.roster.Roster.{Roster}
use Rattle.disk_log.specs.Mount.{IsSameLog}
use Rattle.disk_records.specs.Record.{record_of}
use Rattle.disk_image_laws.proofs.Logs.{log_has_same_image}
use Rattle.disk_aggregate.specs.Records.{HasSameRecord}
use Rattle.disk_aggregate.proofs.Reformed.{same_record}

-- pages that are these, or these in format 2, of pages that are others
pub pages_now : (n : ℕ) (old stands pages new : ℕ → List ℕ) → 1 ≤ n → ((p : ℕ) → p < n → stands p ≡ old p) → ((p : ℕ) → p < n → new p ≡ pages p) → IsReformedOr n stands pages → IsReformedOr n old new
pages_now n old stands pages new some before now (inl same) = inl (λ p lt. now p lt ∙ same p lt ∙ before p lt)
pages_now n old stands pages new some before now (inr still) =
    (let zero_new = now 0 (omega (arith, some)) in
    let zero_old = before 0 (omega (arith, some)) in
    inr (record {
      first = subst (λ (l : List ℕ). IsReformed (old 0) l) (sym zero_new) (subst (λ (l : List ℕ). IsReformed l (pages 0)) zero_old still.first);
      sound = ap is_server_page zero_new ∙ still.sound;
      others = λ p least lt. now p lt ∙ still.others p least lt ∙ before p lt;
    }))

-- what stands behind a log without faults, mounted by a server: what a crash leaves that has its pages, or these in
-- format 2, has the same record
pub left_record : (superblock : Superblock) (half : Half) (generation : ℕ) (old d c : List ℕ) (stands pages : ℕ → List ℕ) → faults_in (aggregate_of superblock half old) ≡ []
    → HasLog superblock half old → ((p : ℕ) → p < pages_of superblock.blocks → stands p ≡ pages_in half old p) → SameBlocks (pages_of superblock.blocks) old d
    → IsReformedOr (pages_of superblock.blocks) stands pages → HasPages superblock generation pages d c
    → (roster : Roster) (server : ServerId) → superblock.server ≡ server.0 → 1 ≤ superblock.server → superblock.server ≤ 4 → 1092 ≤ superblock.blocks
    → HasSameRecord roster server old c
left_record superblock half generation old d c stands pages clean log before blocks reformed has roster server own first last least =
    same_record superblock half has.half old c clean
    (pages_now (pages_of superblock.blocks) (pages_in half old) stands pages (pages_in has.half c) (omega (arith, least)) before has.pages reformed)
    (λ at le. has.blocks at le ∙ blocks at le) log has.log roster server own first last least

-- what a crash in the mount of the log alone leaves
pub same_log_record : (old c : List ℕ) → IsSameLog old c → (roster : Roster) (server : ServerId) → HasSameRecord roster server old c
same_log_record old c same roster server = ap (option_map (record_of roster)) ((log_has_same_image same.superblock same.half old c same.log same.same).1 server.0)
