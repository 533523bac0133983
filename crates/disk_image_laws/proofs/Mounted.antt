-- Which disks a mount takes.
use Rattle.std.proofs.Common.{◌≡◌, ◌<◌, ◌≤◌, ℕ, zero, suc, ◌+◌, List, [], ◌∷◌, ◌++◌, length, map, inl, inr, refl, sym, subst, ◌∙◌, ap, arith}
use Rattle.std.specs.Prelude.{Bool, true, false, ◌==◌, ◌||◌, not, if◌then◌else◌, slice_get, Option, Some, None, is_some}
use Rattle.std.specs.List.{AllByRecursion}
use Rattle.std.proofs.lemmas.Bool.{cases_Bool, cases_eq, and_parts, cond-true, cond-false, or_from, not_from_true, false≢true, le-leb, leb-true, eq-eqb, eqb-true}
use Rattle.std.proofs.lemmas.Bool.Decides.{nat_tests}
use Rattle.base_types.specs.Image.{byte_at}
use Rattle.disk_layout.specs.Half.{used_half}
use Rattle.disk_layout.specs.Places.{page_start, pages_of}
use Rattle.disk_layout.proofs.Unique.{superblock_unique}
use Rattle.disk_layout.specs.declared.half.Half.{Half}
use Rattle.disk_layout.specs.declared.superblock.Superblock.{Superblock}
use Rattle.disk_pages.specs.Words.{are_zero}
use Rattle.disk_pages.specs.Header.{header_of, is_header, is_taken_slot}
use Rattle.disk_pages.specs.Server.{server_of}
use Rattle.disk_image.specs.Joined.{joined}
use Rattle.disk_image.specs.Aggregate.{Aggregate, aggregate_of, is_blank, superblock_of, server_page, header_page, header_number}
use Rattle.disk_image.specs.Slots.{state_at, is_slot_free, is_slot_header, is_first}
use Rattle.disk_image.specs.Faults.{faults_of, faults_in, faults_under, faults_behind}
use Rattle.disk_image.specs.Image.{Image, SlotImage, image_of, image_under, image_behind, image_in, slot_image, slots_of}
use Rattle.disk_image.specs.Refused.{refused_unless, is_declared, is_worn, are_worn, refusals, refused_behind, refused_under, refused_at}
use Rattle.disk_image.specs.declared.fault.Fault.{Fault}
use Rattle.disk_image.proofs.Front.{superblock_is, unblank_fails}
use Rattle.disk_image.proofs.Images.{image_there}
use Rattle.disk_image.proofs.Words.{zeros_are}
use Rattle.disk_image_laws.specs.Mounted.{IsMountable, MountedIsImage, MountedHasLog, FirstFaultIsPlace}
use Rattle.disk_image_laws.proofs.Clean.{slot_right, append_none, part_none}
use Rattle.disk_image_laws.proofs.Finding.{all_joined}

some_none : {A : Type 0} (x : A) → ◌≡◌ {A = Option A} (Some x) None → ⊥
some_none {A = A} x e = false≢true (sym (ap (λ (o : Option A). is_some o) e))

first_none : (places : List ℕ) → slice_get places 0 ≡ None → places ≡ []
first_none [] none = refl
first_none (x ∷ places) none = absurd (some_none x none)

mapped_none : (faults : List Fault) → map (λ (fault : Fault). fault.place) faults ≡ [] → faults ≡ []
mapped_none [] none = refl
mapped_none (x ∷ faults) none = absurd (let e : length (map (λ (fault : Fault). fault.place) (x ∷ faults)) ≡ 0 = ap (λ (l : List ℕ). length l) none in omega (arith, e))

if_none : (test : Bool) (place : ℕ) → (if test then (place ∷ []) else []) ≡ [] → test ≡ false
if_none true place none = absurd (let e : length (place ∷ []) ≡ 0 = ap (λ (l : List ℕ). length l) none in omega (arith, e))
if_none false place none = refl

unless_none : (test : Bool) (place : ℕ) → refused_unless test place ≡ [] → test ≡ true
unless_none true place none = refl
unless_none false place none = absurd (let e : length (place ∷ []) ≡ 0 = ap (λ (l : List ℕ). length l) none in omega (arith, e))

none_joined : (part : ℕ → List ℕ) (n : ℕ) → ((k : ℕ) → k < n → part k ≡ []) → joined part n ≡ []
unfolding joined
none_joined part zero each = refl
none_joined part (suc n) each = (λ j. none_joined part n (λ k lt. each k (omega arith)) j ++ each n (omega arith) j)

all_part : {A : Type 0} (P : A → Type 0) (part : ℕ → List A) (n k : ℕ) → k < n → AllByRecursion P (joined part n) → AllByRecursion P (part k)
unfolding joined
all_part {A = A} P part zero k lt all = absurd (omega (arith, lt))
all_part {A = A} P part (suc n) k lt all = elim (cases_eq k n) [
  | inl e ↦ subst (λ m. AllByRecursion P (part m)) (sym e) (back (joined part n) (part n) all)
  | inr apart ↦ all_part P part n k (omega (arith, lt, apart)) (front (joined part n) (part n) all)
]
  where
    front : (xs ys : List A) → AllByRecursion P (xs ++ ys) → AllByRecursion P xs
    front [] ys all = tt
    front (x ∷ xs) ys all = (all.0, front xs ys all.1)

    back : (xs ys : List A) → AllByRecursion P (xs ++ ys) → AllByRecursion P ys
    back [] ys all = all
    back (x ∷ xs) ys all = back xs ys all.1

-- what isn't refused behind a used half
pub record IsTaken (servers : ℕ) (half : Half) (disk : Aggregate) : Type 0 where
  pub clean : faults_in disk ≡ []
  pub declared : (slot : ℕ) → slot < 16 → is_declared servers disk slot ≡ true
  pub log : is_worn half.generation ≡ false
  pub facts : are_worn (server_of (server_page disk)) ≡ false

module _ (servers : ℕ) (half : Half) (disk : Aggregate) where
  abbrev of_faults : List ℕ
  of_faults = map (λ (fault : Fault). fault.place) (faults_in disk)

  abbrev of_header : ℕ → List ℕ
  of_header slot = refused_unless (is_declared servers disk slot) (page_start (header_number slot))

  abbrev of_log : List ℕ
  of_log = if is_worn half.generation then (512 ∷ []) else []

  abbrev of_facts : List ℕ
  of_facts = if are_worn (server_of (server_page disk)) then (page_start 0 ∷ []) else []

  pub taken_is : slice_get (refusals servers half disk) 0 ≡ None → IsTaken servers half disk
  unfolding refusals
  taken_is none =
      let three = append_none ((of_faults ++ joined of_header 16) ++ of_log) of_facts (first_none (((of_faults ++ joined of_header 16) ++ of_log) ++ of_facts) none) in
      let two = append_none (of_faults ++ joined of_header 16) of_log three.0 in
      let one = append_none of_faults (joined of_header 16) two.0 in
      record {
        clean = mapped_none (faults_in disk) one.0;
        declared = λ slot low. unless_none (is_declared servers disk slot) (page_start (header_number slot)) (part_none of_header 16 slot low one.1);
        log = if_none (is_worn half.generation) 512 two.1;
        facts = if_none (are_worn (server_of (server_page disk))) (page_start 0) three.1;
      }

  pub is_taken : IsTaken servers half disk → slice_get (refusals servers half disk) 0 ≡ None
  unfolding refusals
  is_taken is =
      let headers = none_joined of_header 16 (λ slot low. (λ j. refused_unless (is.declared slot low j) (page_start (header_number slot)))) in
      let log = cond-false (is_worn half.generation) (512 ∷ []) [] is.log in
      let facts = cond-false (are_worn (server_of (server_page disk))) (page_start 0 ∷ []) [] is.facts in
      (λ j. slice_get (((map (λ (fault : Fault). fault.place) (is.clean j) ++ headers j) ++ log j) ++ facts j) 0)

  -- the headers of its filesets
  abbrev IsOne : SlotImage → Type 0
  IsOne slot = slot.header.other ≤ servers

  abbrev of_slot : ℕ → List SlotImage
  of_slot slot = if is_taken_slot (state_at disk slot) then slot_image disk slot ∷ [] else []

  pub all_declared : ((slot : ℕ) → slot < 16 → is_declared servers disk slot ≡ true) → AllByRecursion IsOne (slots_of disk)
  unfolding header_of
  all_declared each = all_joined IsOne of_slot 16 (λ slot low. by slot low (is_taken_slot (state_at disk slot)))
    where
      by : (slot : ℕ) → slot < 16 → (b : Bool) → AllByRecursion IsOne (if b then slot_image disk slot ∷ [] else [])
      by slot low true = (leb-true (byte_at (header_page disk slot) 73) servers (each slot low), tt)
      by slot low false = tt

  pub each_declared : faults_in disk ≡ [] → AllByRecursion IsOne (slots_of disk) → (slot : ℕ) → slot < 16 → is_declared servers disk slot ≡ true
  unfolding header_of is_slot_header is_header
  each_declared clean all slot low = elim (cases_Bool (is_slot_free disk slot)) [
    | inl free ↦
        let zeros = sym (cond-true (is_slot_free disk slot) (are_zero 0 512 (header_page disk slot)) _ free) ∙ (slot_right disk clean slot low).header in
        let none = zeros_are (header_page disk slot) 0 512 zeros 73 (omega arith) (omega arith) in
        le-leb (byte_at (header_page disk slot) 73) servers (omega (arith, none))
    | inr used ↦
        let is = (and_parts (is_header disk.server (server_page disk) (header_page disk slot)) (is_first disk slot) (sym (cond-false (is_slot_free disk slot) _ _ used) ∙ (slot_right disk clean slot low).header)).0 in
        let taken : is_taken_slot (state_at disk slot) ≡ true = (and_parts (is_taken_slot (state_at disk slot)) _ (and_parts _ _ (and_parts _ _ (and_parts _ _ (and_parts _ _ is).0).0).0).0).0 in
        let here = subst (λ (l : List SlotImage). AllByRecursion IsOne l) (cond-true (is_taken_slot (state_at disk slot)) (slot_image disk slot ∷ []) [] taken) (all_part IsOne of_slot 16 slot low all) in
        le-leb (byte_at (header_page disk slot) 73) servers here.0
  ]

module _ (server servers : ℕ) (bytes : List ℕ) where
  -- what isn't refused at all
  pub record IsMounted : Type 0 where
    pub shown : is_blank bytes ≡ false
    pub superblock : Superblock
    pub front : superblock_of bytes ≡ Some superblock
    pub named : superblock.server ≡ server
    pub half : Half
    pub used : used_half (pages_of superblock.blocks) bytes ≡ Some half
    pub taken : IsTaken servers half (aggregate_of superblock half bytes)

  pub mounted_is : refused_at server servers bytes ≡ None → IsMounted
  unfolding refused_at
  mounted_is none = elim (cases_Bool (is_blank bytes)) [
    | inl blank ↦ absurd (some_none 0 (sym (cond-true (is_blank bytes) (Some 0) (refused_under server servers (superblock_of bytes) bytes) blank) ∙ none))
    | inr shown ↦ by_front shown (superblock_of bytes) refl (sym (cond-false (is_blank bytes) (Some 0) (refused_under server servers (superblock_of bytes) bytes) shown) ∙ none)
  ]
    where
      by_half : is_blank bytes ≡ false → (superblock : Superblock) → superblock_of bytes ≡ Some superblock → superblock.server ≡ server → (o : Option Half) → used_half (pages_of superblock.blocks) bytes ≡ o
          → refused_behind servers superblock o bytes ≡ None → IsMounted
      by_half shown superblock front named None used none = absurd (some_none 512 none)
      by_half shown superblock front named (Some half) used none = record {
        shown = shown;
        superblock = superblock;
        front = front;
        named = named;
        half = half;
        used = used;
        taken = taken_is servers half (aggregate_of superblock half bytes) none;
      }

      by_front : is_blank bytes ≡ false → (o : Option Superblock) → superblock_of bytes ≡ o → refused_under server servers o bytes ≡ None → IsMounted
      by_front shown None front none = absurd (some_none 0 none)
      by_front shown (Some superblock) front none = elim (cases_Bool (superblock.server == server)) [
        | inl named ↦
            by_half shown superblock front (eqb-true superblock.server server named) (used_half (pages_of superblock.blocks) bytes) refl
            (sym (cond-true (superblock.server == server) (refused_behind servers superblock (used_half (pages_of superblock.blocks) bytes) bytes) (Some 0) named) ∙ none)
        | inr other ↦ absurd (some_none 0 (sym (cond-false (superblock.server == server) (refused_behind servers superblock (used_half (pages_of superblock.blocks) bytes) bytes) (Some 0) other) ∙ none))
      ]

  -- behind the front of a disk
  module _ (shown : is_blank bytes ≡ false) (superblock : Superblock) (front : superblock_of bytes ≡ Some superblock) (named : superblock.server ≡ server) where
    pub refused_is : refused_at server servers bytes ≡ refused_behind servers superblock (used_half (pages_of superblock.blocks) bytes) bytes
    unfolding refused_at
    refused_is =
        cond-false (is_blank bytes) (Some 0) (refused_under server servers (superblock_of bytes) bytes) shown
        ∙ ap (λ (o : Option Superblock). refused_under server servers o bytes) front
        ∙ cond-true (superblock.server == server) (refused_behind servers superblock (used_half (pages_of superblock.blocks) bytes) bytes) (Some 0) (eq-eqb superblock.server server named)

    pub faults_are : faults_of bytes ≡ faults_behind superblock (used_half (pages_of superblock.blocks) bytes) bytes
    unfolding faults_of
    faults_are = cond-false (is_blank bytes) [] (faults_under (superblock_of bytes) bytes) shown ∙ ap (λ (o : Option Superblock). faults_under o bytes) front

    module _ (half : Half) (used : used_half (pages_of superblock.blocks) bytes ≡ Some half) where
      pub faults_there : faults_of bytes ≡ faults_in (aggregate_of superblock half bytes)
      faults_there = faults_are ∙ ap (λ (o : Option Half). faults_behind superblock o bytes) used

      pub image_is : faults_of bytes ≡ [] → image_of server bytes ≡ Some (image_in (aggregate_of superblock half bytes))
      unfolding image_of
      image_is clean =
          let none : (length (faults_of bytes) == 0) ≡ true = ap (λ (l : List Fault). length l == 0) clean in
          cond-false (is_blank bytes || not (length (faults_of bytes) == 0)) None (image_under (superblock_of bytes) server bytes)
          (or_from (is_blank bytes) (not (length (faults_of bytes) == 0)) shown (not_from_true (length (faults_of bytes) == 0) none))
          ∙ ap (λ (o : Option Superblock). image_under o server bytes) front
          ∙ cond-true (superblock.server == server) (image_behind superblock (used_half (pages_of superblock.blocks) bytes) bytes) None (eq-eqb superblock.server server named)
          ∙ ap (λ (o : Option Half). image_behind superblock o bytes) used

some_same : {X : Type 0} (a b : X) → Some a ≡ Some b → a ≡ b
some_same a b e = cc

pub mounted_has_log : MountedHasLog
mounted_has_log server servers bytes none =
    let is = mounted_is server servers bytes none in
    (is.superblock, is.half, (record { front = (superblock_is bytes is.superblock is.front).0; used = is.used }), is.named)

abbrev Outcome : ℕ → ℕ → List ℕ → Half → Type 0
Outcome server servers bytes half = (image : Image) × (image_of server bytes ≡ Some image) × IsMountable servers image × (half.generation < 9223372036854775808)

pub mounted_is_image : MountedIsImage
unfolding server_of
mounted_is_image server servers bytes superblock half log = (to, from)
  where
    below : (n : ℕ) → is_worn n ≡ false → n < 9223372036854775808
    below n e = grind (arith, nat_tests, e)

    to : refused_at server servers bytes ≡ None → Outcome server servers bytes half
    to none =
        let is = mounted_is server servers bytes none in
        let taken = is.taken in
        let disk : Aggregate = aggregate_of is.superblock is.half bytes in
        let clean : faults_of bytes ≡ [] = faults_there server servers bytes is.shown is.superblock is.front is.named is.half is.used ∙ taken.clean in
        let same : is.superblock ≡ superblock = same_front is.superblock is.front in
        let used : Some is.half ≡ Some half = sym is.used ∙ (λ j. used_half (pages_of (same j).blocks) bytes) ∙ log.used in
        let generation : is.half.generation ≡ half.generation = ap (λ (h : Half). h.generation) (some_same is.half half used) in
        let low = below is.half.generation taken.log in (
          image_in disk,
          image_is server servers bytes is.shown is.superblock is.front is.named is.half is.used clean,
          (record { declared = all_declared servers is.half disk taken.declared; unworn = taken.facts }),
          omega (arith, generation, low),
        )
      where
        same_front : (other : Superblock) → superblock_of bytes ≡ Some other → other ≡ superblock
        same_front other front = superblock_unique other superblock bytes (superblock_is bytes other front).0 log.front

    from : Outcome server servers bytes half → refused_at server servers bytes ≡ None
    from (image, there, may, low) =
        let has = (image_there server bytes).0 (ap (λ (o : Option Image). is_some o) there) in
        let shown : is_blank bytes ≡ false = unblank_fails bytes has.0 in
        let found = has.2.0 in
        let front = has.2.1 in
        let named = has.2.2 in
        let same : found ≡ superblock = superblock_unique found superblock bytes (superblock_is bytes found front).0 log.front in
        let used : used_half (pages_of found.blocks) bytes ≡ Some half = (λ j. used_half (pages_of (same j).blocks) bytes) ∙ log.used in
        let disk : Aggregate = aggregate_of found half bytes in
        let clean : faults_in disk ≡ [] = sym (faults_there server servers bytes shown found front named half used) ∙ has.1 in
        let is : image ≡ image_in disk = some_same image (image_in disk) (sym there ∙ image_is server servers bytes shown found front named half used has.1) in
        let mountable : IsMountable servers (image_in disk) = subst (IsMountable servers) is may in
        let unworn : is_worn half.generation ≡ false = grind (arith, nat_tests, low) in
        refused_is server servers bytes shown found front named ∙ ap (λ (o : Option Half). refused_behind servers found o bytes) used
        ∙ is_taken servers half disk (record { clean = clean; declared = each_declared servers half disk clean mountable.declared; log = unworn; facts = mountable.unworn })

first_mapped : (faults : List Fault) (fault : Fault) (a b c : List ℕ) → slice_get faults 0 ≡ Some fault
    → slice_get (((map (λ (one : Fault). one.place) faults ++ a) ++ b) ++ c) 0 ≡ Some fault.place
first_mapped [] fault a b c is = absurd (some_none fault (sym is))
first_mapped (x ∷ faults) fault a b c is = ap (λ (one : Fault). Some one.place) (some_same x fault is)

pub first_fault_is_place : FirstFaultIsPlace
unfolding faults_of refused_at refusals
first_fault_is_place server servers bytes fault first named = elim (cases_Bool (is_blank bytes)) [
  | inl blank ↦ absurd (some_none fault (sym first ∙ ap (λ (l : List Fault). slice_get l 0) (cond-true (is_blank bytes) [] (faults_under (superblock_of bytes) bytes) blank)))
  | inr shown ↦
      cond-false (is_blank bytes) (Some 0) (refused_under server servers (superblock_of bytes) bytes) shown
      ∙ by_front (superblock_of bytes) refl (sym (ap (λ (l : List Fault). slice_get l 0) (cond-false (is_blank bytes) [] (faults_under (superblock_of bytes) bytes) shown)) ∙ first)
]
  where
    by_half : (superblock : Superblock) (o : Option Half) → slice_get (faults_behind superblock o bytes) 0 ≡ Some fault → refused_behind servers superblock o bytes ≡ Some fault.place
    by_half superblock None is = ap (λ (one : Fault). Some one.place) (some_same _ fault is)
    by_half superblock (Some half) is = first_mapped (faults_in (aggregate_of superblock half bytes)) fault _ _ _ is

    by_front : (o : Option Superblock) → superblock_of bytes ≡ o → slice_get (faults_under o bytes) 0 ≡ Some fault → refused_under server servers o bytes ≡ Some fault.place
    by_front None front is = ap (λ (one : Fault). Some one.place) (some_same _ fault is)
    by_front (Some superblock) front is =
        cond-true (superblock.server == server) (refused_behind servers superblock (used_half (pages_of superblock.blocks) bytes) bytes) (Some 0) (eq-eqb superblock.server server (named superblock front))
        ∙ by_half superblock (used_half (pages_of superblock.blocks) bytes) is
