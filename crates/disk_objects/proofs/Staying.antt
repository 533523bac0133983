-- Anodes that stay where no block that is counted changes.
use Rattle.std.proofs.Common.{◌≡◌, ◌<◌, ◌≤◌, ℕ, ◌+◌, ◌-◌, ◌*◌, ◌/◌, ◌%◌, List, refl, sym, ◌∙◌, subst, arith}
use Rattle.std.specs.Prelude.{Bool, true, false, ◌==◌, ◌&&◌, if◌then◌else◌, nat_lt, replicate}
use Rattle.std.proofs.lemmas.Bool.Decides.{nat_tests}
use Rattle.base_types.specs.Image.{byte_at, bytes_from}
use Rattle.base_outside.proofs.Image.{bytes_from-same}
use Rattle.disk_layout.specs.Numbers.{number_at}
use Rattle.disk_layout.specs.Places.{block_start, pages_of}
use Rattle.disk_space.specs.Counts.{count_page, count_place}
use Rattle.disk_space.proofs.Words.{page_there}
use Rattle.disk_anode.specs.Anode.{Anode, anode_of, bytes_of, IsTidy}
use Rattle.disk_anode.specs.Node.{pointer_of, pointer_at, is_pointer, map_under, names, names_below, cell, node_of, HasNoBlocks}
use Rattle.disk_anode.specs.Room.{how_many}
use Rattle.disk_anode.specs.Changes.{SameBlock}
use Rattle.disk_anode.specs.declared.node.Node.{Node}
use Rattle.disk_anode.proofs.Cells.{pointer_facts, named_some, cell_same}
use Rattle.disk_anode.proofs.Pointers.{pointer_front}
use Rattle.disk_anode.proofs.Laid.{pointer_in}
use Rattle.disk_anode.proofs.Anodes.{length_most}
use Rattle.disk_objects.specs.Holds.{is_anode, page_names, indirect_of, map_names, is_indirect, pointers_to, Holds}
use Rattle.disk_objects.proofs.Totals.{indirect_at, indirect_some, total_same, total_front, total_both}
use Rattle.disk_objects.proofs.Nodes.{anode_low, indirect_here, map_pointer, names_valid, names_invalid}

-- what an anode names is among all
pub all_names : (blocks : ℕ) (pages : ℕ → List ℕ) (image : List ℕ) (q b : ℕ) → is_anode q ≡ true → names (node_of blocks image (pages q)) b ≤ pointers_to blocks pages image b
all_names blocks pages image q b is = by (is_pointer blocks (pointer_of (node_of blocks image (pages q)) 15)) refl
  where
    front : page_names blocks pages image b q ≡ names_below 16 (node_of blocks image (pages q)) b
    front = λ i. if is i then names_below 16 (node_of blocks image (pages q)) b else 0

    by : (a : Bool) → is_pointer blocks (pointer_of (node_of blocks image (pages q)) 15) ≡ a → names (node_of blocks image (pages q)) b ≤ pointers_to blocks pages image b
    by true e =
        let facts = pointer_facts blocks (pointer_of (node_of blocks image (pages q)) 15) e in
        let some = facts.0 in let within = facts.1 in
        let m : ℕ = pointer_of (node_of blocks image (pages q)) 15 - 1 in
        let there : pointer_of (node_of blocks image (pages q)) 15 ≡ m + 1 = omega (arith, some) in
        let f = names_valid blocks image (pages q) m b there in
        let on = indirect_at (indirect_of blocks pages image) q m (anode_low q is) (indirect_here blocks pages image q is ∙ there) in
        let g = total_both (page_names blocks pages image b) (indirect_of blocks pages image) (map_names blocks image b) q m blocks (anode_low q is) (omega (arith, some, within)) on in
        omega (arith, f, g, front)
    by false e =
        let f = names_invalid blocks image (pages q) b e in
        let g = total_front (page_names blocks pages image b) (indirect_of blocks pages image) (map_names blocks image b) q blocks (anode_low q is) in
        omega (arith, f, g, front)

-- an indirect block is some page's
pub indirect_page : (blocks : ℕ) (pages : ℕ → List ℕ) (image : List ℕ) (m : ℕ) → is_indirect (indirect_of blocks pages image) m ≡ true
    → (q : ℕ) × (is_anode q ≡ true) × (pointer_of (node_of blocks image (pages q)) 15 ≡ m + 1)
indirect_page blocks pages image m on = by (indirect_some (indirect_of blocks pages image) m on)
  where
    at : (q : ℕ) → (a : Bool) → is_anode q ≡ a → (if a then pointer_of (node_of blocks image (pages q)) 15 else 0) ≡ m + 1 → (is_anode q ≡ true) × (pointer_of (node_of blocks image (pages q)) 15 ≡ m + 1)
    at q true e is = (e, is)
    at q false e is = absurd (omega (arith, is))

    by : (q : ℕ) × (q < 1058) × (indirect_of blocks pages image q ≡ m + 1) → (q : ℕ) × (is_anode q ≡ true) × (pointer_of (node_of blocks image (pages q)) 15 ≡ m + 1)
    by (q, lt, is) = let f = at q (is_anode q) refl is in (q, f.0, f.1)

module _ (anodes : ℕ → Anode) (blocks : ℕ) (old new : ℕ → List ℕ) (before after : List ℕ) (held : Holds anodes blocks old before)
    (pages : (p : ℕ) → p < pages_of blocks → new p ≡ old p)
    (same : (b : ℕ) → b < blocks → 1 ≤ number_at 2 (count_place b) (old (count_page b)) → SameBlock blocks before after b) where
  page_kept : (q : ℕ) → is_anode q ≡ true → new q ≡ old q
  page_kept q is = let low = anode_low q is in pages q (omega (arith, low))

  used : (q w : ℕ) → is_anode q ≡ true → w < 68 → is_pointer blocks (pointer_of (node_of blocks before (old q)) w) ≡ true → SameBlock blocks before after (pointer_of (node_of blocks before (old q)) w - 1)
  used q w is lt on =
      let facts = pointer_facts blocks (pointer_of (node_of blocks before (old q)) w) on in
      let some = facts.0 in let within = facts.1 in
      let b : ℕ = pointer_of (node_of blocks before (old q)) w - 1 in
      let low : b < blocks = omega (arith, some, within) in
      let e = named_some (node_of blocks before (old q)) w b lt (omega (arith, some)) in
      let f = all_names blocks old before q b is in
      let g = held.counts b low in
      same b low (omega (arith, e, f, g))

  map_kept : (q : ℕ) → is_anode q ≡ true → map_under blocks after (number_at 4 72 (old q)) ≡ map_under blocks before (number_at 4 72 (old q))
  map_kept q is = by (is_pointer blocks (number_at 4 72 (old q))) refl
    where
      indirect : pointer_of (node_of blocks before (old q)) 15 ≡ number_at 4 72 (old q)
      indirect = pointer_front (node_of blocks before (old q)) 15 (omega arith)

      by : (a : Bool) → is_pointer blocks (number_at 4 72 (old q)) ≡ a → map_under blocks after (number_at 4 72 (old q)) ≡ map_under blocks before (number_at 4 72 (old q))
      by true e =
          let start = block_start (pages_of blocks) (number_at 4 72 (old q) - 1) in
          let kept = subst (λ (p : ℕ). is_pointer blocks p ≡ true → SameBlock blocks before after (p - 1)) indirect (used q 15 is (omega arith)) e in
          let f : bytes_from after start 1024 ≡ bytes_from before start 1024 = bytes_from-same after before start 1024 (λ k le lt. at start k le lt kept) in
          (λ i. if e i then bytes_from after start 1024 else replicate 1024 0) ∙ f ∙ (λ i. if sym e i then bytes_from before start 1024 else replicate 1024 0)
        where
          at : (start k : ℕ) → start ≤ k → k < start + 1024 → ((j : ℕ) → j < 1024 → byte_at after (start + j) ≡ byte_at before (start + j)) → byte_at after k ≡ byte_at before k
          at start k le lt kept = let whole : start + (k - start) ≡ k = omega (arith, le) in (λ i. byte_at after (sym whole i)) ∙ kept (k - start) (omega (arith, le, lt)) ∙ (λ i. byte_at before (whole i))
      by false e =
          let start = block_start (pages_of blocks) (number_at 4 72 (old q) - 1) in
          (λ i. if e i then bytes_from after start 1024 else replicate 1024 0) ∙ (λ i. if sym e i then bytes_from before start 1024 else replicate 1024 0)

  pub node_kept : (q : ℕ) → is_anode q ≡ true → node_of blocks after (new q) ≡ node_of blocks before (old q)
  node_kept q is = (λ i. node_of blocks after (page_kept q is i)) ∙ (λ i. record { blocks = blocks; page = old q; map = map_kept q is i })

  cell_kept : (q w k : ℕ) → is_anode q ≡ true → w < 68 → k < 1024 → cell after (node_of blocks before (old q)) w k ≡ cell before (node_of blocks before (old q)) w k
  cell_kept q w k is below lt = cell_same before after (node_of blocks before (old q)) (node_of blocks before (old q)) w k refl refl lt (used q w is below)

  anode_kept : (q : ℕ) → is_anode q ≡ true → anode_of after (node_of blocks after (new q)) ≡ anode_of before (node_of blocks before (old q))
  anode_kept q is =
      let node = node_of blocks before (old q) in
      let most = length_most (byte_at node.page 0) (number_at 4 8 node.page) in
      (λ i. anode_of after (node_kept q is i))
      ∙ (λ i. record (anode_of before node) {
        lists = λ which k. list which k (nat_lt which 3) refl (nat_lt k 1024) refl i;
        content = λ k. content k (nat_lt k (bytes_of node)) refl most i;
      })
    where
      list : (which k : ℕ) → (a : Bool) → nat_lt which 3 ≡ a → (b : Bool) → nat_lt k 1024 ≡ b → (if a && b then cell after (node_of blocks before (old q)) which k else 0) ≡ (if a && b then cell before (node_of blocks before (old q)) which k else 0)
      list which k true a true b = let low : which < 3 = grind (arith, nat_tests) in let lt : k < 1024 = grind (arith, nat_tests) in cell_kept q which k is (omega arith) lt
      list which k true a false b = refl
      list which k false a b e = refl

      content : (k : ℕ) → (a : Bool) → nat_lt k (bytes_of (node_of blocks before (old q))) ≡ a → bytes_of (node_of blocks before (old q)) ≤ 65536
          → (if a then cell after (node_of blocks before (old q)) (pointer_at (k / 1024)) (k % 1024) else 0) ≡ (if a then cell before (node_of blocks before (old q)) (pointer_at (k / 1024)) (k % 1024) else 0)
      content k true a most =
          let lt : k < bytes_of (node_of blocks before (old q)) = grind (arith, nat_tests) in
          let low : k / 1024 < 64 = omega arith in
          let p = pointer_in (k / 1024) low in
          cell_kept q (pointer_at (k / 1024)) (k % 1024) is p.1 (omega arith)
      content k false a most = refl

  tidy_kept : (q : ℕ) → is_anode q ≡ true → IsTidy after (node_of blocks before (old q))
  tidy_kept q is = let tidy = held.tidy q is in record {
    first = tidy.first;
    owner = tidy.owner;
    group = tidy.group;
    behind = tidy.behind;
    range = tidy.range;
    lists = λ w lt zero. tidy.lists w lt (λ k low. sym (cell_kept q w k is (omega (arith, lt)) low) ∙ zero k low);
    past = λ dir k le lt block. (let p = pointer_in (k / 1024) (omega arith) in cell_kept q (pointer_at (k / 1024)) (k % 1024) is p.1 (omega arith) ∙ tidy.past dir k le lt block);
  }

  front_kept : (b p : ℕ) → page_names blocks new after b p ≡ page_names blocks old before b p
  front_kept b p = by (is_anode p) refl
    where
      by : (a : Bool) → is_anode p ≡ a → (if a then names_below 16 (node_of blocks after (new p)) b else 0) ≡ (if a then names_below 16 (node_of blocks before (old p)) b else 0)
      by true e = λ i. names_below 16 (node_kept p e i) b
      by false e = refl

  indirect_kept : (p : ℕ) → indirect_of blocks new after p ≡ indirect_of blocks old before p
  indirect_kept p = by (is_anode p) refl
    where
      by : (a : Bool) → is_anode p ≡ a → (if a then pointer_of (node_of blocks after (new p)) 15 else 0) ≡ (if a then pointer_of (node_of blocks before (old p)) 15 else 0)
      by true e = λ i. pointer_of (node_kept p e i) 15
      by false e = refl

  names_kept : (b m : ℕ) → is_indirect (indirect_of blocks old before) m ≡ true → map_names blocks after b m ≡ map_names blocks before b m
  names_kept b m on =
      let found = indirect_page blocks old before m on in
      let q = found.0 in
      let node = node_kept q found.1 in
      let there : pointer_of (node_of blocks after (new q)) 15 ≡ m + 1 = (λ i. pointer_of (node i) 15) ∙ found.2 in
      let e : (j : ℕ) → number_at 4 (4 * j) (map_under blocks after (m + 1)) ≡ number_at 4 (4 * j) (map_under blocks before (m + 1)) =
      λ j. map_pointer blocks after (new q) m j there ∙ (λ i. pointer_of (node i) (16 + j)) ∙ sym (map_pointer blocks before (old q) m j found.2) in
      λ i. how_many (λ j. e j i == b + 1) 52

  all_kept : (b : ℕ) → pointers_to blocks new after b ≡ pointers_to blocks old before b
  all_kept b = total_same (page_names blocks old before b) (indirect_of blocks old before) (map_names blocks before b) (page_names blocks new after b) (indirect_of blocks new after) (map_names blocks after b) blocks
      (λ p lt. front_kept b p) (λ p lt. indirect_kept p) (λ m lt on. names_kept b m on)

  count_kept : (b : ℕ) → count_page b < 1058 + (blocks + 255) / 256 → number_at 2 (count_place b) (new (count_page b)) ≡ number_at 2 (count_place b) (old (count_page b))
  count_kept b there = let e = pages (count_page b) (omega (arith, there)) in λ i. number_at 2 (count_place b) (e i)

  pub holds_kept : Holds anodes blocks new after
  holds_kept = record {
    anode = λ p is. anode_kept p is ∙ held.anode p is;
    counts = λ b lt. count_kept b (page_there b blocks lt) ∙ held.counts b lt ∙ sym (all_kept b);
    tail = λ b spare. count_kept b (let low = spare.1 in omega (arith, low)) ∙ held.tail b spare;
    once = λ p b is lt. subst (λ (n : Node). names n b ≤ 1) (sym (node_kept p is)) (held.once p b is lt);
    apart = λ p q w b a c low here lt other there. held.apart p q w b a c low ((λ i. pointer_of (sym (node_kept p a) i) 15) ∙ here) lt other ((λ i. pointer_of (sym (node_kept q c) i) w) ∙ there);
    tidy = λ p is. subst (λ (n : Node). IsTidy after n) (sym (node_kept p is)) (tidy_kept p is);
    bare = λ p is free. subst (λ (n : Node). HasNoBlocks n) (sym (node_kept p is)) (held.bare p is free);
    slots = λ p q b a c off same lt. subst (λ (n : Node). names n b + names (node_of blocks after (new q)) b ≤ 1) (sym (node_kept p a))
        (subst (λ (n : Node). names (node_of blocks before (old p)) b + names n b ≤ 1) (sym (node_kept q c)) (held.slots p q b a c off same lt));
  }
