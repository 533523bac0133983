-- The first page as tests and as facts.
use Rattle.std.proofs.Common.{◌≡◌, ◌≢◌, ◌<◌, ◌≤◌, ℕ, ◌+◌, List, [], ◌∷◌, length, inl, inr, ⊎_elim, refl, sym, ◌∙◌, ap, arith, ◌⊎◌}
use Rattle.std.specs.Prelude.{Bool, true, false, ◌&&◌, ◌||◌, ◌==◌, not, nat_le, nat_eq, Option, Some, None, unwrap_or, is_some}
use Rattle.std.proofs.lemmas.Bool.{and_parts, and_from, and_left, or_left, or_right, or_parts, or_cases, eq-eqb, eqb-true, eqb-false, ne_eqb, le-leb, leb-true, leb-false, lt-leb, not_from_false, not-true, cases_Bool, false_from_ne_true, cond-true, cond-false, false≢true}
use Rattle.base_types.specs.Image.{byte_at, bytes_from}
use Rattle.disk_layout.specs.Numbers.{number_at}
use Rattle.disk_layout.specs.Superblock.{format_end, layout_name, IsUnnamed, IsNamed, IsSuperblock, IsBlank}
use Rattle.disk_layout.specs.declared.superblock.Superblock.{Superblock}
use Rattle.disk_pages.specs.Words.{are_zero}
use Rattle.disk_image.specs.Aggregate.{has_layout_name, is_blank, is_front, superblock_of}
use Rattle.disk_image.proofs.Words.{zeros_pass, zeros_are, same_pass, pass_same}

some_same : (a b : Superblock) → Some a ≡ Some b → a ≡ b
some_same a b e = ap (λ o. unwrap_or o a) e

none_some : {b : Superblock} → None ≡ Some b → ⊥
none_some {b} e = false≢true (ap (λ (o : Option Superblock). is_some o) e)

module _ (image : List ℕ) where
  abbrev shut : Bool
  shut = not (byte_at image 0 == 1) && has_layout_name image

  pub blank_passes : IsBlank image → is_blank image ≡ true
  unfolding is_blank
  blank_passes (inl zeros) = or_left (are_zero 0 format_end image) shut (zeros_pass image 0 format_end (λ k from below. zeros k below))
  blank_passes (inr marked) =
      or_right (are_zero 0 format_end image) shut
      (and_from (not (byte_at image 0 == 1)) (has_layout_name image) (not_from_false (byte_at image 0 == 1) (ne_eqb (byte_at image 0) 1 marked.0)) (same_pass (bytes_from image 1 8) layout_name marked.1))

  pub blank_is : is_blank image ≡ true → IsBlank image
  unfolding is_blank
  blank_is passes = by (or_cases (are_zero 0 format_end image) shut passes)
    where
      by : (are_zero 0 format_end image ≡ true) ⊎ (shut ≡ true) → IsBlank image
      by (inl zeros) = inl (λ k lt. zeros_are image 0 format_end zeros k (omega arith) lt)
      by (inr closed) =
          let parts = and_parts (not (byte_at image 0 == 1)) (has_layout_name image) closed in
          inr (eqb-false (byte_at image 0) 1 (not-true (byte_at image 0 == 1) parts.0), pass_same (bytes_from image 1 8) layout_name parts.1)

  pub unblank_fails : (IsBlank image → ⊥) → is_blank image ≡ false
  unblank_fails not_so = false_from_ne_true (is_blank image) (λ passes. not_so (blank_is passes))

  abbrev gate : Bool
  gate = byte_at image 0 == 1

  abbrev named_so : Bool
  named_so = has_layout_name image

  abbrev format_1 : Bool
  format_1 = number_at 4 12 image == 1

  abbrev low : Bool
  low = are_zero 9 3 image

  abbrev high : Bool
  high = are_zero 21 491 image

  -- the words of a superblock
  pub front_passes : IsNamed image → ((k : ℕ) → IsUnnamed k → byte_at image k ≡ 0) → is_front image ≡ true
  front_passes named unnamed =
      and_from (gate && named_so && format_1 && low) high
      (and_from (gate && named_so && format_1) low
      (and_from (gate && named_so) format_1 (and_from gate named_so (eq-eqb (byte_at image 0) 1 named.gate) (same_pass (bytes_from image 1 8) layout_name named.name)) (eq-eqb (number_at 4 12 image) 1 named.format))
      (zeros_pass image 9 3 (λ k from below. unnamed k (inl (from, below)))))
      (zeros_pass image 21 491 (λ k from below. unnamed k (inr (from, below))))

  pub front_is : is_front image ≡ true → IsNamed image × ((k : ℕ) → IsUnnamed k → byte_at image k ≡ 0)
  front_is passes =
      let d = and_parts (gate && named_so && format_1 && low) high passes in
      let c = and_parts (gate && named_so && format_1) low d.0 in
      let b = and_parts (gate && named_so) format_1 c.0 in
      let a = and_parts gate named_so b.0 in (
        record { gate = eqb-true (byte_at image 0) 1 a.0; name = pass_same (bytes_from image 1 8) layout_name a.1; format = eqb-true (number_at 4 12 image) 1 b.1 },
        λ k free. ⊎_elim (λ below. zeros_are image 9 3 c.1 k below.0 below.1) (λ above. zeros_are image 21 491 d.1 k above.0 above.1) free,
      )

  abbrev server : ℕ
  server = byte_at image 20

  abbrev blocks : ℕ
  blocks = number_at 4 16 image

  abbrev passes_all : Bool
  passes_all = is_front image && nat_le 1 server && nat_le server 4 && nat_le 1092 blocks && nat_le blocks 66560

  abbrev found : Superblock
  found = record { server = server; blocks = blocks }

  pub superblock_some : (superblock : Superblock) → IsSuperblock superblock image → 1 ≤ superblock.server → superblock.server ≤ 4 → 1092 ≤ superblock.blocks
      → superblock_of image ≡ Some superblock
  unfolding superblock_of
  superblock_some superblock is first last some =
      let a : 1 ≤ server = let e = is.server in omega (arith, e, first) in
      let b : server ≤ 4 = let e = is.server in omega (arith, e, last) in
      let c : 1092 ≤ blocks = let e = is.blocks in omega (arith, e, some) in
      let d : blocks ≤ 66560 = let e = is.blocks in let f = is.few_blocks in omega (arith, e, f) in
      let all : passes_all ≡ true = and_from (is_front image && nat_le 1 server && nat_le server 4 && nat_le 1092 blocks) (nat_le blocks 66560)
      (and_from (is_front image && nat_le 1 server && nat_le server 4) (nat_le 1092 blocks)
      (and_from (is_front image && nat_le 1 server) (nat_le server 4) (and_from (is_front image) (nat_le 1 server) (front_passes is.named is.unnamed) (le-leb 1 server a)) (le-leb server 4 b)) (le-leb 1092 blocks c)) (le-leb blocks 66560 d) in
      cond-true passes_all (Some found) None all ∙ (λ i. Some (record { server = is.server i; blocks = is.blocks i }))

  pub superblock_is : (superblock : Superblock) → superblock_of image ≡ Some superblock → IsSuperblock superblock image × (1 ≤ superblock.server) × (superblock.server ≤ 4) × (1092 ≤ superblock.blocks)
  unfolding superblock_of
  superblock_is superblock is = by (cases_Bool passes_all)
    where
      same : passes_all ≡ true → found ≡ superblock
      same all = some_same found superblock (sym (cond-true passes_all (Some found) None all) ∙ is)

      by : (passes_all ≡ true) ⊎ (passes_all ≡ false) → IsSuperblock superblock image × (1 ≤ superblock.server) × (superblock.server ≤ 4) × (1092 ≤ superblock.blocks)
      by (inr fails) = absurd (none_some (sym (cond-false passes_all (Some found) None fails) ∙ is))
      by (inl all) =
          let d = and_parts (is_front image && nat_le 1 server && nat_le server 4 && nat_le 1092 blocks) (nat_le blocks 66560) all in
          let c = and_parts (is_front image && nat_le 1 server && nat_le server 4) (nat_le 1092 blocks) d.0 in
          let b = and_parts (is_front image && nat_le 1 server) (nat_le server 4) c.0 in
          let a = and_parts (is_front image) (nat_le 1 server) b.0 in
          let e = same all in
          let front = front_is a.0 in
          let first = leb-true 1 server a.1 in
          let last = leb-true server 4 b.1 in
          let some = leb-true 1092 blocks c.1 in
          let few = leb-true blocks 66560 d.1 in
          let to_server : server ≡ superblock.server = λ i. (e i).server in
          let to_blocks : blocks ≡ superblock.blocks = λ i. (e i).blocks in (
            record { named = front.0; blocks = to_blocks; some_blocks = omega (arith, some, to_blocks); few_blocks = omega (arith, few, to_blocks); server = to_server; unnamed = front.1 },
            omega (arith, first, to_server),
            omega (arith, last, to_server),
            omega (arith, some, to_blocks),
          )
