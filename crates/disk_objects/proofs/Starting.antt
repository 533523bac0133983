-- A new aggregate has no anodes.
use Rattle.std.proofs.Common.{◌≡◌, ◌<◌, ◌≤◌, ℕ, ◌+◌, ◌/◌, List, [], get_or, refl, sym, ◌∙◌, subst, arith}
use Rattle.std.specs.Prelude.{Bool, true, false, if◌then◌else◌, replicate}
use Rattle.std.proofs.lemmas.Bool.Decides.{nat_tests}
use Rattle.std.proofs.lemmas.List.{get_or-replicate}
use Rattle.base_types.specs.Image.{byte_at, bytes_from}
use Rattle.disk_layout.specs.Numbers.{number_at}
use Rattle.disk_layout.specs.Places.{pages_of}
use Rattle.disk_log.specs.Recovered.{blank_page}
use Rattle.disk_space.specs.Counts.{count_page, count_place}
use Rattle.disk_space.proofs.Words.{page_there}
use Rattle.disk_anode.specs.Anode.{anode_of, text_at, IsPage, IsTidy}
use Rattle.disk_anode.specs.Node.{map_under, names_below, node_of, HasNoBlocks}
use Rattle.disk_anode.specs.declared.node.Node.{Node}
use Rattle.disk_anode.proofs.Plain.{zero_number, no_blocks, names_none, tidy_page, anode_none}
use Rattle.disk_objects.specs.Holds.{is_anode, page_names, indirect_of, map_names, is_indirect, pointers_to, no_anode, Holds}
use Rattle.disk_objects.proofs.Sums.{sum_zero}
use Rattle.disk_objects.proofs.Nodes.{anode_low, below_none}
use Rattle.disk_objects.proofs.Staying.{indirect_page}
use Rattle.disk_objects.proofs.Staging.{two_bytes}

blank_byte : (k : ℕ) → k < 512 → byte_at blank_page k ≡ 0
blank_byte k lt = get_or-replicate 512 k 0 0 lt

blank_text : (at : ℕ) → at < 512 → text_at blank_page at ≡ []
unfolding bytes_from
blank_text at lt = λ i. bytes_from blank_page (at + 1) (blank_byte at lt i)

blank_is : IsPage 0 0 [] [] blank_page
blank_is = record {
  kind_is = blank_byte 0 (omega arith);
  first = λ k some low. blank_byte k (omega (arith, low));
  unique_is = zero_number 4 blank_page (λ j lt. blank_byte (4 + j) (omega (arith, lt)));
  zero = λ k some low. blank_byte k (omega (arith, low));
  owner_size = blank_byte 76 (omega arith);
  owner_is = blank_text 76 (omega arith);
  owner_rest = λ k some low. blank_byte k (omega (arith, low));
  group_size = blank_byte 137 (omega arith);
  group_is = blank_text 137 (omega arith);
  group_rest = λ k some low. blank_byte k low;
}

no_map : (blocks : ℕ) (image : List ℕ) → map_under blocks image (number_at 4 72 blank_page) ≡ replicate 1024 0
no_map blocks image = λ i. map_under blocks image (zero_number 72 blank_page (λ j lt. blank_byte (72 + j) (omega (arith, lt))) i)

map_zero : (blocks : ℕ) (image : List ℕ) (k : ℕ) → k < 1024 → get_or (node_of blocks image blank_page).map k 0 ≡ 0
map_zero blocks image k lt = (λ i. get_or (no_map blocks image i) k 0) ∙ get_or-replicate 1024 k 0 0 lt

none : (blocks : ℕ) (image : List ℕ) → HasNoBlocks (node_of blocks image blank_page)
none blocks image = no_blocks (node_of blocks image blank_page) (λ k low high. blank_byte k (omega (arith, high))) (map_zero blocks image)

module _ (blocks : ℕ) (pages : ℕ → List ℕ) (image : List ℕ) (blank : (p : ℕ) → 1 ≤ p → p < pages_of blocks → pages p ≡ blank_page) where
  page_blank : (p : ℕ) → is_anode p ≡ true → node_of blocks image (pages p) ≡ node_of blocks image blank_page
  page_blank p is = (let low = anode_low p is in let e = blank p (first p is) (omega (arith, low)) in λ i. node_of blocks image (e i))
    where
      first : (p : ℕ) → is_anode p ≡ true → 1 ≤ p
      first p is = grind (arith, nat_tests, is)

  none_at : (p : ℕ) → is_anode p ≡ true → HasNoBlocks (node_of blocks image (pages p))
  none_at p is = subst (λ (n : Node). HasNoBlocks n) (sym (page_blank p is)) (none blocks image)

  count_zero : (b : ℕ) → count_page b < 1058 + (blocks + 255) / 256 → number_at 2 (count_place b) (pages (count_page b)) ≡ 0
  count_zero b there =
      let e = blank (count_page b) (omega arith) (omega (arith, there)) in
      (λ i. number_at 2 (count_place b) (e i)) ∙ zero_two (count_place b) (omega arith)
    where
      zero_two : (at : ℕ) → at + 2 ≤ 512 → number_at 2 at blank_page ≡ 0
      zero_two at low = two_bytes at blank_page ∙ (let a = blank_byte at (omega (arith, low)) in let c = blank_byte (at + 1) (omega (arith, low)) in omega (arith, a, c))

  none_named : (b : ℕ) → pointers_to blocks pages image b ≡ 0
  none_named b =
      let a = sum_zero (page_names blocks pages image b) 1058 (λ p lt. front p (is_anode p) refl) in
      let c = sum_zero (λ m. if is_indirect (indirect_of blocks pages image) m then map_names blocks image b m else 0) blocks (λ m lt. map m (is_indirect (indirect_of blocks pages image) m) refl) in
      omega (arith, a, c)
    where
      front : (p : ℕ) → (a : Bool) → is_anode p ≡ a → (if a then names_below 16 (node_of blocks image (pages p)) b else 0) ≡ 0
      front p true e = below_none (node_of blocks image (pages p)) b (λ w lt is. (let z = none_at p e w (omega (arith, lt)) in absurd (omega (arith, z, is))))
      front p false e = refl

      map : (m : ℕ) → (a : Bool) → is_indirect (indirect_of blocks pages image) m ≡ a → (if a then map_names blocks image b m else 0) ≡ 0
      map m true e =
          let found = indirect_page blocks pages image m e in
          let z = none_at found.0 found.1 15 (omega arith) in
          let is = found.2 in
          absurd (omega (arith, z, is))
      map m false e = refl

  pub holds_new : Holds (λ p. no_anode) blocks pages image
  holds_new = record {
    anode = λ p is. (λ i. anode_of image (page_blank p is i)) ∙ anode_none image (node_of blocks image blank_page) 0 0 [] [] blank_is (none blocks image);
    counts = λ b lt. count_zero b (page_there b blocks lt) ∙ sym (none_named b);
    tail = λ b spare. count_zero b (let low = spare.1 in omega (arith, low));
    once = λ p b is lt. (let e = names_none (node_of blocks image (pages p)) (none_at p is) b in omega (arith, e));
    apart = λ p q w b is other lt here low off there. (let z = none_at p is 15 (omega arith) in omega (arith, z, here));
    tidy = λ p is. subst (λ (n : Node). IsTidy image n) (sym (page_blank p is)) (tidy_page image (node_of blocks image blank_page) 0 0 [] [] blank_is (none blocks image) (map_zero blocks image));
    bare = λ p is free. none_at p is;
    slots = λ p q b is other apart same lt.
        (let e = names_none (node_of blocks image (pages p)) (none_at p is) b in
        let f = names_none (node_of blocks image (pages q)) (none_at q other) b in
        omega (arith, e, f));
  }
