-- The first place at which a disk is refused.
use Rattle.std.proofs.Common.{◌≡◌, ◌<◌, ◌≤◌, ℕ, zero, suc, ◌+◌, List, [], ◌∷◌, ◌++◌, map, inl, inr, refl, sym, ◌∙◌, ap, arith}
use Rattle.std.specs.Prelude.{Bool, true, false, nat_le, ◌&&◌, ◌==◌, if◌then◌else◌, slice_get, Option, Some, None}
use Rattle.std.proofs.lemmas.Bool.{cases_eq, cond-true, cond-false, le-leb, lt-leb, leb-true, and_parts, and_from, false≢true, eq-eqb, ne_eqb}
use Rattle.disk_image.specs.Aggregate.{Aggregate, is_blank, server_page, superblock_of}
use Rattle.disk_image.specs.Faults.{faults_in}
use Rattle.disk_image.specs.Joined.{joined}
use Rattle.disk_image.specs.Refused.{are_worn, is_declared, is_worn, refused_at, refused_behind, refused_under, refused_unless, refusals}
use Rattle.disk_image.proofs.Front.{blank_passes, unblank_fails, superblock_is, superblock_some}
use Rattle.disk_check.proofs.Fronts.{in_range}
use Rattle.disk_layout.proofs.Unique.{superblock_unique}
use Rattle.disk_layout.specs.Half.{used_half}
use Rattle.disk_layout.specs.Superblock.{IsBlank, IsSuperblock}
use Rattle.disk_layout.specs.declared.superblock.Superblock.{Superblock}
use Rattle.disk_image.specs.declared.fault.Fault.{Fault}
use Rattle.base_types.specs.Image.{byte_at}
use Rattle.disk_image.specs.Aggregate.{header_number, header_page}
use Rattle.disk_layout.specs.Places.{page_start, pages_of}
use Rattle.disk_layout.specs.declared.half.Half.{Half}
use Rattle.disk_pages.specs.Server.{server_of}
use Rattle.disk_pages.specs.declared.server.ServerFacts.{ServerFacts}

-- the first of two lists in a row
pub front_first : (a b : List ℕ) (x : ℕ) → slice_get a 0 ≡ Some x → slice_get (a ++ b) 0 ≡ Some x
front_first [] b x is = absurd (cc)
front_first (y ∷ a) b x is = is

pub back_first : (a b : List ℕ) → slice_get a 0 ≡ None → slice_get (a ++ b) 0 ≡ slice_get b 0
back_first [] b is = refl
back_first (y ∷ a) b is = absurd (cc)

places_some : (faults : List Fault) (fault : Fault) → Some fault ≡ slice_get faults 0 → slice_get (map (λ (f : Fault). f.place) faults) 0 ≡ Some fault.place
places_some [] fault is = absurd (cc)
places_some (f ∷ faults) fault is = let same : fault ≡ f = cc in λ i. Some (sym same i).place

places_none : (faults : List Fault) → None ≡ slice_get faults 0 → slice_get (map (λ (f : Fault). f.place) faults) 0 ≡ None
places_none [] is = refl
places_none (f ∷ faults) is = absurd (cc)

module _ (servers : ℕ) (half : Half) (disk : Aggregate) where
  abbrev places : List ℕ
  places = map (λ (fault : Fault). fault.place) (faults_in disk)

  abbrev headers : List ℕ
  headers = joined (λ slot. refused_unless (is_declared servers disk slot) (page_start (header_number slot))) 16

  abbrev worn : List ℕ
  worn = if is_worn half.generation then (512 ∷ []) else []

  abbrev facts : List ℕ
  facts = if are_worn (server_of (server_page disk)) then (page_start 0 ∷ []) else []

  pub at_fault : (fault : Fault) → Some fault ≡ slice_get (faults_in disk) 0 → slice_get (refusals servers half disk) 0 ≡ Some fault.place
  unfolding refusals
  at_fault fault is =
      front_first ((places ++ headers) ++ worn) facts fault.place (front_first (places ++ headers) worn fault.place (front_first places headers fault.place (places_some (faults_in disk) fault is)))

  module _ (clean : None ≡ slice_get (faults_in disk) 0) where
    behind : slice_get (places ++ headers) 0 ≡ slice_get headers 0
    behind = back_first places headers (places_none (faults_in disk) clean)

    pub at_header : (place : ℕ) → Some place ≡ slice_get headers 0 → slice_get (refusals servers half disk) 0 ≡ Some place
    unfolding refusals
    at_header place is = front_first ((places ++ headers) ++ worn) facts place (front_first (places ++ headers) worn place (behind ∙ sym is))

    module _ (declared : None ≡ slice_get headers 0) where
      further : slice_get ((places ++ headers) ++ worn) 0 ≡ slice_get worn 0
      further = back_first (places ++ headers) worn (behind ∙ sym declared)

      pub at_log : is_worn half.generation ≡ true → slice_get (refusals servers half disk) 0 ≡ Some 512
      unfolding refusals
      at_log is = front_first ((places ++ headers) ++ worn) facts 512 (further ∙ ap (λ (b : Bool). slice_get (if b then (512 ∷ []) else []) 0) is)

      pub at_facts : is_worn half.generation ≡ false → (worn_facts : Bool) → are_worn (server_of (server_page disk)) ≡ worn_facts
          → slice_get (refusals servers half disk) 0 ≡ (if worn_facts then Some (page_start 0) else None)
      unfolding refusals
      at_facts is worn_facts are =
          back_first ((places ++ headers) ++ worn) facts (further ∙ ap (λ (b : Bool). slice_get (if b then (512 ∷ []) else []) 0) is)
          ∙ ap (λ (b : Bool). slice_get (if b then (page_start 0 ∷ []) else []) 0) are ∙ by worn_facts
        where
          by : (b : Bool) → slice_get (if b then (page_start 0 ∷ []) else []) 0 ≡ (if b then Some (page_start 0) else None)
          by true = refl
          by false = refl

-- headers before the first that names another server than those
module _ (part : ℕ → List ℕ) where
  pub joined_none : joined part 0 ≡ []
  unfolding joined
  joined_none = refl

  pub joined_still : (n m : ℕ) → m ≡ n + 1 → joined part n ≡ [] → part n ≡ [] → joined part m ≡ []
  unfolding joined
  joined_still n zero is none more = refl
  joined_still n (suc m) is none more =
      let e : m ≡ n = omega (arith, is) in
      (λ i. joined part (e i) ++ part (e i)) ∙ (λ i. none i ++ more i)

  pub joined_first : (n m place : ℕ) → n < m → joined part n ≡ [] → part n ≡ place ∷ [] → slice_get (joined part m) 0 ≡ Some place
  unfolding joined
  joined_first n zero place lt none is = absurd (omega (arith, lt))
  joined_first n (suc m) place lt none is = elim (cases_eq n m) [
    | inl e ↦ (λ i. slice_get (joined part (sym e i) ++ part (sym e i)) 0) ∙ (λ i. slice_get (none i ++ is i) 0)
    | inr apart ↦ front_first (joined part m) (part m) place (joined_first n m place (omega (arith, lt, apart)) none is)
  ]

-- the part of a header
abbrev pub headers_part : ℕ → Aggregate → ℕ → List ℕ
headers_part servers disk slot = refused_unless (is_declared servers disk slot) (page_start (header_number slot))

pub part_none : (servers : ℕ) (disk : Aggregate) (slot : ℕ) → byte_at (header_page disk slot) 73 ≤ servers → headers_part servers disk slot ≡ []
part_none servers disk slot le = cond-true (nat_le (byte_at (header_page disk slot) 73) servers) [] (page_start (header_number slot) ∷ []) (le-leb (byte_at (header_page disk slot) 73) servers le)

pub part_some : (servers : ℕ) (disk : Aggregate) (slot : ℕ) → servers < byte_at (header_page disk slot) 73 → headers_part servers disk slot ≡ page_start (header_number slot) ∷ []
part_some servers disk slot lt = cond-false (nat_le (byte_at (header_page disk slot) 73) servers) [] (page_start (header_number slot) ∷ []) (lt-leb (byte_at (header_page disk slot) 73) servers lt)

-- a disk before its log
pub place_blank : (server servers : ℕ) (image : List ℕ) → IsBlank image → refused_at server servers image ≡ Some 0
unfolding refused_at
place_blank server servers image blank = cond-true (is_blank image) (Some 0) (refused_under server servers (superblock_of image) image) (blank_passes image blank)

pub place_none : (server servers : ℕ) (image : List ℕ) → (IsBlank image → ⊥)
    → ((superblock : Superblock) → IsSuperblock superblock image → 1 ≤ superblock.server → superblock.server ≤ 4 → 1092 ≤ superblock.blocks → ⊥) → refused_at server servers image ≡ Some 0
unfolding refused_at
place_none server servers image unblank none =
    cond-false (is_blank image) (Some 0) (refused_under server servers (superblock_of image) image) (unblank_fails image unblank) ∙ by (superblock_of image) refl
  where
    by : (found : Option Superblock) → superblock_of image ≡ found → refused_under server servers found image ≡ Some 0
    by None is = refl
    by (Some superblock) is = let all = superblock_is image superblock is in absurd (none superblock all.0 all.1 all.2 all.3)

pub place_out : (server servers : ℕ) (image : List ℕ) (superblock : Superblock) → (IsBlank image → ⊥) → IsSuperblock superblock image → in_range superblock ≡ false → refused_at server servers image ≡ Some 0
place_out server servers image superblock unblank is fails =
    place_none server servers image unblank (λ other also first last some.
    let e = superblock_unique superblock other image is also in
    let passes : in_range other ≡ true =
    and_from (nat_le 1 other.server && nat_le other.server 4) (nat_le 1092 other.blocks)
    (and_from (nat_le 1 other.server) (nat_le other.server 4) (le-leb 1 other.server first) (le-leb other.server 4 last)) (le-leb 1092 other.blocks some) in
    false≢true (sym fails ∙ ap in_range e ∙ passes))

place_in : (server servers : ℕ) (image : List ℕ) (superblock : Superblock) → (IsBlank image → ⊥) → IsSuperblock superblock image → in_range superblock ≡ true
    → refused_at server servers image ≡ refused_under server servers (Some superblock) image
unfolding refused_at
place_in server servers image superblock unblank is passes =
    let two = and_parts (nat_le 1 superblock.server && nat_le superblock.server 4) (nat_le 1092 superblock.blocks) passes in
    let one = and_parts (nat_le 1 superblock.server) (nat_le superblock.server 4) two.0 in
    cond-false (is_blank image) (Some 0) (refused_under server servers (superblock_of image) image) (unblank_fails image unblank)
    ∙ ap (λ (found : Option Superblock). refused_under server servers found image) (superblock_some image superblock is (leb-true 1 superblock.server one.0) (leb-true superblock.server 4 one.1) (leb-true 1092 superblock.blocks two.1))

pub place_other : (server servers : ℕ) (image : List ℕ) (superblock : Superblock) → (IsBlank image → ⊥) → IsSuperblock superblock image → in_range superblock ≡ true → (superblock.server ≡ server → ⊥)
    → refused_at server servers image ≡ Some 0
place_other server servers image superblock unblank is passes other =
    place_in server servers image superblock unblank is passes
    ∙ cond-false (superblock.server == server) (refused_behind servers superblock (used_half (pages_of superblock.blocks) image) image) (Some 0) (ne_eqb superblock.server server other)

pub place_own : (server servers : ℕ) (image : List ℕ) (superblock : Superblock) → (IsBlank image → ⊥) → IsSuperblock superblock image → in_range superblock ≡ true → superblock.server ≡ server
    → refused_behind servers superblock (used_half (pages_of superblock.blocks) image) image ≡ refused_at server servers image
place_own server servers image superblock unblank is passes own =
    sym (place_in server servers image superblock unblank is passes
    ∙ cond-true (superblock.server == server) (refused_behind servers superblock (used_half (pages_of superblock.blocks) image) image) (Some 0) (eq-eqb superblock.server server own))

-- whether facts that were read are worn
pub facts_worn : (page there : List ℕ) → page ≡ there → (found : ServerFacts) → found ≡ server_of page → (test : Bool) → test ≡ are_worn found → are_worn (server_of there) ≡ test
facts_worn page there same found read test is = sym (is ∙ ap are_worn read ∙ ap (λ (l : List ℕ). are_worn (server_of l)) same)
