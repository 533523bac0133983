-- A log whose pages are others, or these in format 2, with the same blocks, has the same record.
use Rattle.std.proofs.Common.{◌≡◌, ◌<◌, ◌≤◌, ℕ, zero, suc, List, [], ◌∷◌, length, get_or, inl, inr, refl, sym, subst, ◌∙◌, ap, arith}
use Rattle.std.specs.Prelude.{true, Some}
use Rattle.std.proofs.lemmas.Bool.{cases_lt}
use Rattle.base_types.specs.declared.ids.ServerId.{ServerId}
use Rattle.tree_calls.specs.declared.roster.Roster.{Roster}
use Rattle.disk_layout.specs.Half.{HasLog}
use Rattle.disk_layout.specs.Pages.{pages_in}
use Rattle.disk_layout.specs.Places.{pages_of, SameBlocks}
use Rattle.disk_layout.specs.declared.half.Half.{Half}
use Rattle.disk_layout.specs.declared.superblock.Superblock.{Superblock}
use Rattle.disk_pages.specs.Laws.{IsReformed}
use Rattle.disk_pages.specs.Server.{is_server_page}
use Rattle.disk_image.specs.Aggregate.{Aggregate, aggregate_of, page_of, server_page}
use Rattle.disk_image.specs.Faults.{faults_in}
use Rattle.disk_image.specs.Image.{Image, image_in}
use Rattle.disk_image.specs.Joined.{listed}
use Rattle.disk_image.proofs.Joined.{get_or-listed, length-listed}
use Rattle.disk_image_laws.proofs.Alike.{joined_same}
use Rattle.disk_records.specs.Record.{record_of}
use Rattle.disk_image_laws.proofs.Logs.{blocks_have_same_image}
use Rattle.disk_image_laws.proofs.Reformed.{format_has_same_image}
use Rattle.disk_aggregate.specs.Records.{HasSameRecord}
use Rattle.disk_records.specs.Reforming.{ArePagesStill, IsReformedOr}
use Rattle.disk_aggregate.proofs.Found.{record_found}

listed_same : (f g : ℕ → List ℕ) (n : ℕ) → ((k : ℕ) → k < n → f k ≡ g k) → listed f n ≡ listed g n
listed_same f g n each = joined_same (λ k. f k ∷ []) (λ k. g k ∷ []) n (λ k lt. (let e = each k lt in λ j. e j ∷ []))

get_past : (xs : List (List ℕ)) (k : ℕ) → length xs ≤ k → get_or xs k [] ≡ []
get_past [] k le = refl
get_past (x ∷ xs) zero le = absurd (omega (arith, le))
get_past (x ∷ xs) (suc k) le = get_past xs k (omega (arith, le))

-- a record doesn't say its format
formatted : (roster : Roster) (image : Image) → record_of roster (record image { facts = record image.facts { format = 2 } }) ≡ record_of roster image
formatted roster image = refl

module _ (superblock : Superblock) (half there : Half) (old c : List ℕ) (clean : faults_in (aggregate_of superblock half old) ≡ [])
    (reformed : IsReformedOr (pages_of superblock.blocks) (pages_in half old) (pages_in there c)) (blocks : SameBlocks (pages_of superblock.blocks) old c) where
  abbrev n : ℕ
  n = pages_of superblock.blocks

  abbrev was : Aggregate
  was = aggregate_of superblock half old

  abbrev now : Aggregate
  now = aggregate_of superblock there c

  page_now : (p : ℕ) → p < n → page_of now p ≡ pages_in there c p
  page_now p low = get_or-listed (pages_in there c) n p [] low

  page_was : (p : ℕ) → p < n → page_of was p ≡ pages_in half old p
  page_was p low = get_or-listed (pages_in half old) n p [] low

  still_page : ArePagesStill n (pages_in half old) (pages_in there c) → (p : ℕ) → 1 ≤ p → page_of now p ≡ page_of was p
  still_page still p some = elim (cases_lt p n) [
    | inl low ↦ page_now p low ∙ still.others p some low ∙ sym (page_was p low)
    | inr high ↦ get_past now.pages p (let e = length-listed (pages_in there c) n in omega (arith, e, high)) ∙ sym (get_past was.pages p (let e = length-listed (pages_in half old) n in omega (arith, e, high)))
  ]

  pub record IsSame : Type 0 where
    pub none : faults_in now ≡ []
    pub kept : (roster : Roster) → record_of roster (image_in now) ≡ record_of roster (image_in was)

  pub same : IsSame
  same = by reformed
    where
      by : IsReformedOr n (pages_in half old) (pages_in there c) → IsSame
      by (inl pages) =
          let e : now ≡ record was { image = c } = (let l = listed_same (pages_in there c) (pages_in half old) n pages in λ i. record was { pages = l i; image = c }) in
          let law = blocks_have_same_image was c blocks in
          record { none = ap faults_in e ∙ law.0 ∙ clean; kept = λ roster. ap (λ (disk : Aggregate). record_of roster (image_in disk)) e ∙ ap (record_of roster) law.1 }
      by (inr still) =
          let zero_now = page_now 0 (omega arith) in
          let zero_was = page_was 0 (omega arith) in
          let first : IsReformed (server_page was) (get_or now.pages 0 []) = subst (λ (l : List ℕ). IsReformed (server_page was) l) (sym zero_now) (subst (λ (l : List ℕ). IsReformed l (pages_in there c 0)) (sym zero_was) still.first) in
          let sound : is_server_page (get_or now.pages 0 []) ≡ true = ap is_server_page zero_now ∙ still.sound in
          let format = format_has_same_image was now.pages clean first sound (still_page still) in
          let law = blocks_have_same_image (record was { pages = now.pages }) c blocks in
          record { none = law.0 ∙ format.0; kept = λ roster. ap (record_of roster) (law.1 ∙ format.1) ∙ formatted roster (image_in was) }

  pub same_record : HasLog superblock half old → HasLog superblock there c → (roster : Roster) (server : ServerId) → superblock.server ≡ server.0 → 1 ≤ superblock.server → superblock.server ≤ 4 → 1092 ≤ superblock.blocks
      → HasSameRecord roster server old c
  same_record log has roster server own first last least =
      record_found superblock there c has first last least same.none roster server own ∙ ap Some (same.kept roster)
      ∙ sym (record_found superblock half old log first last least clean roster server own)
