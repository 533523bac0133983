-- An aggregate of format 1 in format 2.
use Rattle.std.proofs.Common.{◌≡◌, ◌<◌, ◌≤◌, ℕ, ◌+◌, ◌/◌, List, [], ◌∷◌, ◌++◌, refl, sym, ◌∙◌, get_or, inl, inr}
use Rattle.std.specs.Prelude.{Bool, true, false, ◌==◌, ◌&&◌, if◌then◌else◌}
use Rattle.std.proofs.lemmas.Bool.{and_parts, cases_eq, cond-true, cond-false, eq-eqb, ne_eqb}
use Rattle.base_types.specs.Image.{byte_at}
use Rattle.disk_pages.specs.Header.{header_of, is_header, state_of}
use Rattle.disk_layout.specs.Places.{page_start}
use Rattle.disk_pages.specs.Numbers.{is_numbers_page}
use Rattle.disk_pages.specs.Server.{is_server_page}
use Rattle.disk_pages.specs.Words.{are_zero}
use Rattle.disk_pages.specs.declared.header.SlotState.TheVariants.{Free}
use Rattle.disk_pages.specs.Laws.{IsReformed}
use Rattle.disk_pages.proofs.HeaderPages.{headers_change}
use Rattle.disk_image.specs.Aggregate.{Aggregate, header_page, page_of, server_page}
use Rattle.disk_image.specs.Anodes.{unless}
use Rattle.disk_image.specs.Counts.{count_fault, promise_fault}
use Rattle.disk_image.specs.Faults.{faults_in, slot_faults}
use Rattle.disk_image.specs.Image.{image_in}
use Rattle.disk_image.specs.Joined.{joined}
use Rattle.disk_image.specs.Reach.{reach_faults}
use Rattle.disk_image.specs.declared.fault.Rule.{Rule}
use Rattle.disk_image.specs.declared.fault.Rule.TheVariants as rules
use Rattle.disk_image.specs.Slots.{is_first, is_slot_header, state_at}
use Rattle.disk_image_laws.proofs.Clean.{slot_right}
use Rattle.disk_image_laws.specs.SameLaws.{FormatHasSameImage}
use Rattle.disk_image_laws.proofs.Alike.{SaysSame, faults_are, image_is}

front_none : {A : Type 0} (xs ys : List A) → xs ++ ys ≡ [] → xs ≡ []
front_none [] ys none = refl
front_none (x ∷ xs) ys none = absurd (cc)

is_right : (test : Bool) (place : ℕ) (rule : Rule) → unless test place rule ≡ [] → test ≡ true
is_right true place rule none = refl
is_right false place rule none = absurd (cc)

-- the server's page of an aggregate without faults
server_right : (disk : Aggregate) → faults_in disk ≡ [] → is_server_page (server_page disk) ≡ true
unfolding faults_in
server_right disk clean =
    let a = unless (is_server_page (server_page disk)) (page_start 0) rules.ServerPage in
    let b = unless (is_numbers_page (page_of disk 1)) (page_start 1) rules.CallNumbers in
    let c = joined (slot_faults disk) 16 in
    let d = joined (reach_faults disk) 16 in
    let e = joined (count_fault disk) ((disk.blocks + 255) / 256) in
    is_right (is_server_page (server_page disk)) (page_start 0) rules.ServerPage
    (front_none a b (front_none (a ++ b) c (front_none ((a ++ b) ++ c) d (front_none (((a ++ b) ++ c) ++ d) e (front_none ((((a ++ b) ++ c) ++ d) ++ e) (promise_fault disk) clean)))))

module _ (disk : Aggregate) (pages : List (List ℕ)) (clean : faults_in disk ≡ []) (reformed : IsReformed (server_page disk) (get_or pages 0 [])) where
  abbrev server : List ℕ
  server = get_or pages 0 []

  -- a header of a fileset
  module _ (slot : ℕ) (low : slot < 16) (used : byte_at (header_page disk slot) 0 ≡ 0 → ⊥) where
    is_one : is_header disk.server (server_page disk) (header_page disk slot) ≡ true
    unfolding is_slot_header
    is_one =
        let other : (byte_at (header_page disk slot) 0 == 0) ≡ false = ne_eqb (byte_at (header_page disk slot) 0) 0 used in
        (and_parts (is_header disk.server (server_page disk) (header_page disk slot)) (is_first disk slot)
        (sym (cond-false (byte_at (header_page disk slot) 0 == 0) (are_zero 0 512 (header_page disk slot)) (is_header disk.server (server_page disk) (header_page disk slot) && is_first disk slot) other)
        ∙ (slot_right disk clean slot low).header)).0

    header_same : is_header disk.server server (header_page disk slot) ≡ is_header disk.server (server_page disk) (header_page disk slot)
    header_same = (headers_change disk.server (server_page disk) server (header_page disk slot) reformed is_one).0 ∙ sym is_one

    state_same : state_of server (header_page disk slot) ≡ state_at disk slot
    unfolding header_of
    state_same = (let e = (headers_change disk.server (server_page disk) server (header_page disk slot) reformed is_one).1 in λ i. (e i).state)

  free_same : (slot : ℕ) → byte_at (header_page disk slot) 0 ≡ 0 → state_of server (header_page disk slot) ≡ state_at disk slot
  free_same slot zero =
      let free : (byte_at (header_page disk slot) 0 == 0) ≡ true = eq-eqb (byte_at (header_page disk slot) 0) 0 zero in
      cond-true (byte_at (header_page disk slot) 0 == 0) Free _ free ∙ sym (cond-true (byte_at (header_page disk slot) 0 == 0) Free _ free)

  states : (slot : ℕ) → slot < 16 → state_of server (header_page disk slot) ≡ state_at disk slot
  states slot low = elim (cases_eq (byte_at (header_page disk slot) 0) 0) [ inl zero ↦ free_same slot zero | inr used ↦ state_same slot low used ]

  pub says_same : ((p : ℕ) → 1 ≤ p → get_or pages p [] ≡ page_of disk p) → SaysSame disk pages
  says_same page = record { page = page; state = states; header = λ slot low used. header_same slot low used }

pub format_has_same_image : FormatHasSameImage
unfolding faults_in
format_has_same_image disk pages clean reformed is page =
    let says = says_same disk pages clean reformed page in (
      faults_are disk pages disk.image says (λ at le. refl) (is ∙ sym (server_right disk clean)) ∙ clean,
      image_is disk pages disk.image says (λ at le. refl) ∙ (λ j. record (image_in disk) { facts = reformed.to j }),
    )
