-- Anodes are held by their own pages and those of counts alone.
use Rattle.std.proofs.Common.{◌≡◌, ◌<◌, ◌≤◌, ◌+◌, ℕ, List, refl, sym, ◌∙◌, subst, arith}
use Rattle.std.specs.Prelude.{Bool, true, false, if◌then◌else◌}
use Rattle.disk_layout.specs.Numbers.{number_at}
use Rattle.disk_layout.specs.Places.{pages_of}
use Rattle.disk_space.specs.Counts.{count_page, count_place}
use Rattle.disk_space.proofs.Words.{page_there}
use Rattle.disk_anode.specs.Anode.{Anode, anode_of, IsTidy}
use Rattle.disk_anode.specs.Node.{pointer_of, names, names_below, node_of, HasNoBlocks}
use Rattle.disk_anode.specs.Changes.{IsSpare}
use Rattle.disk_anode.specs.declared.node.Node.{Node}
use Rattle.disk_objects.specs.Holds.{is_anode, page_names, indirect_of, map_names, total, pointers_to, Holds}

module _ (anodes : ℕ → Anode) (blocks : ℕ) (old new : ℕ → List ℕ) (image : List ℕ) (held : Holds anodes blocks old image)
    (same : (p : ℕ) → is_anode p ≡ true → new p ≡ old p) (counts : (p : ℕ) → 1058 ≤ p → p < pages_of blocks → new p ≡ old p) where
  node_beside : (p : ℕ) → is_anode p ≡ true → node_of blocks image (new p) ≡ node_of blocks image (old p)
  node_beside p is = λ i. node_of blocks image (same p is i)

  front_beside : (b p : ℕ) → page_names blocks new image b p ≡ page_names blocks old image b p
  front_beside b p = by (is_anode p) refl
    where
      by : (a : Bool) → is_anode p ≡ a → (if a then names_below 16 (node_of blocks image (new p)) b else 0) ≡ (if a then names_below 16 (node_of blocks image (old p)) b else 0)
      by true e = λ i. names_below 16 (node_beside p e i) b
      by false e = refl

  indirect_beside : (p : ℕ) → indirect_of blocks new image p ≡ indirect_of blocks old image p
  indirect_beside p = by (is_anode p) refl
    where
      by : (a : Bool) → is_anode p ≡ a → (if a then pointer_of (node_of blocks image (new p)) 15 else 0) ≡ (if a then pointer_of (node_of blocks image (old p)) 15 else 0)
      by true e = λ i. pointer_of (node_beside p e i) 15
      by false e = refl

  all_beside : (b : ℕ) → pointers_to blocks new image b ≡ pointers_to blocks old image b
  all_beside b = λ i. total (λ p. front_beside b p i) (λ p. indirect_beside p i) (map_names blocks image b) blocks

  count_beside : (b : ℕ) → b < blocks → number_at 2 (count_place b) (new (count_page b)) ≡ number_at 2 (count_place b) (old (count_page b))
  count_beside b lt = let there = page_there b blocks lt in let e = counts (count_page b) (omega arith) (omega (arith, there)) in λ i. number_at 2 (count_place b) (e i)

  spare_beside : (b : ℕ) → IsSpare blocks b → number_at 2 (count_place b) (new (count_page b)) ≡ number_at 2 (count_place b) (old (count_page b))
  spare_beside b spare = (let below = spare.1 in let e = counts (count_page b) (omega arith) (omega (arith, below)) in λ i. number_at 2 (count_place b) (e i))

  pub holds_beside : Holds anodes blocks new image
  holds_beside = record {
    anode = λ p is. (λ i. anode_of image (node_beside p is i)) ∙ held.anode p is;
    counts = λ b lt. count_beside b lt ∙ held.counts b lt ∙ sym (all_beside b);
    tail = λ b spare. spare_beside b spare ∙ held.tail b spare;
    once = λ p b is lt. subst (λ (n : Node). names n b ≤ 1) (sym (node_beside p is)) (held.once p b is lt);
    slots = λ p q b is also off slot lt. subst (λ (n : Node). names n b + names (node_of blocks image (new q)) b ≤ 1) (sym (node_beside p is))
        (subst (λ (n : Node). names (node_of blocks image (old p)) b + names n b ≤ 1) (sym (node_beside q also)) (held.slots p q b is also off slot lt));
    apart = λ p q w b a c low here lt other there. held.apart p q w b a c low ((λ i. pointer_of (sym (node_beside p a) i) 15) ∙ here) lt other ((λ i. pointer_of (sym (node_beside q c) i) w) ∙ there);
    tidy = λ p is. subst (λ (n : Node). IsTidy image n) (sym (node_beside p is)) (held.tidy p is);
    bare = λ p is free. subst (λ (n : Node). HasNoBlocks n) (sym (node_beside p is)) (held.bare p is free);
  }
