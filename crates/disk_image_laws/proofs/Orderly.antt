-- Pointers and counts where anodes are kept.
use Rattle.std.proofs.Common.{◌≡◌, ◌≢◌, ◌<◌, ◌≤◌, ℕ, zero, suc, ◌+◌, ◌/◌, List, [], ◌∷◌, get_or, refl, sym, ◌∙◌, arith}
use Rattle.std.specs.Prelude.{Bool, true, false, ◌==◌, ◌&&◌, if◌then◌else◌, nat_lt, Option, Some, None}
use Rattle.std.specs.Option.{option_map_or}
use Rattle.std.proofs.lemmas.Bool.Decides.{nat_tests}
use Rattle.base_types.specs.Image.{byte_at}
use Rattle.base_types.specs.declared.access.AccessEntry.{AccessEntry}
use Rattle.tree_objects.specs.Objects.{is_dir}
use Rattle.tree_objects.specs.declared.content.Anode.{Anode}
use Rattle.tree_objects.specs.declared.content.Content.{Content}
use Rattle.tree_objects.specs.declared.content.Content.TheVariants.{Dir, File}
use Rattle.tree_objects.specs.declared.content.Object.{Object}
use Rattle.tree_filesets.specs.Laws.{lists_in}
use Rattle.disk_anode.specs.Anode.{Anode as Kept, anode_of as kept_at}
use Rattle.disk_anode.specs.Node.{pointer_of, cell, names}
use Rattle.disk_anode.specs.declared.node.Node.{Node}
use Rattle.disk_objects.specs.Holds.{is_anode, slot_at, no_anode}
use Rattle.disk_image.specs.Aggregate.{Aggregate, node_at}
use Rattle.disk_objects.specs.Objects.{list_byte, object_kept, kept_of, page_for, anode_at, kept_anodes}
use Rattle.disk_objects.proofs.Places.{page_is, kept_here}
use Rattle.disk_image_laws.specs.ObjectLaws.{Keeps, IsInOrder, KeptIsInOrder}
use Rattle.disk_image_laws.proofs.Firsts.{page_at}

-- a file that is kept has one list
one_list : (anode : Anode) → (kept_of anode).kind ≡ 2 → (w k : ℕ) → 1 ≤ w → (kept_of anode).lists w k ≡ 0
one_list anode = by anode.object
  where
    nothing : (b : Bool) (k : ℕ) → ◌≡◌ {A = ℕ} (if b then get_or [] k 0 else 0) 0
    nothing true k = refl
    nothing false k = refl

    behind : (list : List AccessEntry) (w k : ℕ) → 1 ≤ w → list_byte (list ∷ []) w k ≡ 0
    behind list zero k some = absurd (omega (arith, some))
    behind list (suc w) k some = nothing (nat_lt k 1024) k

    at : (content : Content) → ◌≡◌ {A = ℕ} (if is_dir content then 1 else 2) 2 → (w k : ℕ) → 1 ≤ w → list_byte (lists_in content) w k ≡ 0
    at (Dir entries lists) two w k some = absurd (omega (arith, two))
    at (File list kept unsaved len) two w k some = behind list w k some

    by : (o : Option Object) → (option_map_or (object_kept anode.unique) o (record no_anode { unique = anode.unique })).kind ≡ 2
        → (w k : ℕ) → 1 ≤ w → (option_map_or (object_kept anode.unique) o (record no_anode { unique = anode.unique })).lists w k ≡ 0
    by None two w k some = refl
    by (Some object) two w k some = at object.content two w k some

list_cell : (image : List ℕ) (node : Node) (w k : ℕ) → w < 3 → k < 1024 → (kept_at image node).lists w k ≡ cell image node w k
list_cell image node w k low lt =
    let a : nat_lt w 3 ≡ true = grind (arith, nat_tests, low) in
    let b : nat_lt k 1024 ≡ true = grind (arith, nat_tests, lt) in
    λ j. if a j && b j then cell image node w k else 0

module _ (disk : Aggregate) (slots : ℕ → List Anode) (keeps : Keeps slots disk) where
  here_is : (slot i : ℕ) → slot < 16 → i < 64 → is_anode (page_at slot i) ≡ true
  here_is slot i low few = (let z : page_at slot i ≡ page_for slot (i + 1) = omega arith in λ j. is_anode (z j)) ∙ page_is slot (i + 1) low (omega arith) (omega (arith, few))

  kept_is : (slot i : ℕ) → slot < 16 → i < 64 → kept_at disk.image (node_at disk slot i) ≡ kept_of (anode_at (slots slot) (i + 1))
  kept_is slot i low few =
      keeps.held.anode (page_at slot i) (here_is slot i low few)
      ∙ (let z : page_at slot i ≡ page_for slot (i + 1) = omega arith in λ j. kept_anodes slots (z j))
      ∙ kept_here slots slot (i + 1) low (omega arith) (omega (arith, few))

  -- a file has no block for another list
  no_list : (slot i w : ℕ) → slot < 16 → i < 64 → byte_at (node_at disk slot i).page 0 ≡ 2 → 1 ≤ w → w < 3 → pointer_of (node_at disk slot i) w ≡ 0
  no_list slot i w low few kind some lt =
      let is = kept_is slot i low few in
      (keeps.held.tidy (page_at slot i) (here_is slot i low few)).lists w lt
      (λ k below. sym (list_cell disk.image (node_at disk slot i) w k lt below) ∙ (λ j. (is j).lists w k)
      ∙ one_list (anode_at (slots slot) (i + 1)) ((λ j. (sym is j).kind) ∙ kind) w k some)

  slot_same : (slot i j : ℕ) → i < 64 → j < 64 → slot_at (page_at slot i) ≡ slot_at (page_at slot j)
  slot_same slot i j few few_j = omega arith

pub kept_in_order : KeptIsInOrder
kept_in_order disk slots keeps = record {
  range = λ slot i w low few lt. (keeps.held.tidy (page_at slot i) (here_is disk slots keeps slot i low few)).range w lt;
  files = λ slot i low few kind. (no_list disk slots keeps slot i 1 low few kind (omega arith) (omega arith), no_list disk slots keeps slot i 2 low few kind (omega arith) (omega arith));
  apart = λ slot i j b low few few_j apart lt. keeps.held.slots (page_at slot i) (page_at slot j) b (here_is disk slots keeps slot i low few) (here_is disk slots keeps slot j low few_j)
      (λ e. apart (omega (arith, e))) (slot_same disk slots keeps slot i j few few_j) lt;
  tail = λ b past lt. keeps.held.tail b (past, lt);
}
