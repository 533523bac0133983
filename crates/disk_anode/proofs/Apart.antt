-- Anodes whose blocks no call on another one writes.
use Rattle.std.proofs.Common.{◌≡◌, ◌<◌, ◌≤◌, ℕ, ◌+◌, ◌-◌, List, refl, sym, ◌∙◌, subst, arith}
use Rattle.std.specs.Prelude.{Bool, true, false, nat_lt, if◌then◌else◌, ◌&&◌, ◌/◌, ◌%◌, replicate}
use Rattle.std.proofs.lemmas.Bool.Decides.{nat_tests}
use Rattle.base_types.specs.Image.{byte_at, bytes_from}
use Rattle.base_outside.proofs.Image.{bytes_from-is, get_or-bytes_from, length-bytes_from}
use Rattle.disk_layout.specs.Numbers.{number_at}
use Rattle.disk_layout.specs.Places.{block_start, pages_of}
use Rattle.disk_log.specs.Puts.{page_of}
use Rattle.disk_log.specs.State.{State}
use Rattle.disk_anode.specs.Node.{pointer_of, pointer_at, is_pointer, map_under, cell, names, node_of, node_in}
use Rattle.disk_anode.specs.Anode.{anode_of, anode_in, bytes_of}
use Rattle.disk_anode.specs.Changes.{IsLoose, SameBlock, WritesLoose, WroteLoose, Turns, AreCounted}
use Rattle.base_types.specs.View.{View}
use Rattle.base_outside.proofs.Runs.{wider_changes}
use Rattle.disk_anode.proofs.Moving.{loose_wider, wrote_then}
use Rattle.disk_anode.proofs.Cells.{cell_same, named_some, pointer_facts}
use Rattle.disk_anode.proofs.Pointers.{pointer_front}
use Rattle.disk_anode.proofs.Laid.{pointer_in}
use Rattle.disk_anode.proofs.Anodes.{length_most}

-- Where a block is counted for the pointers of another anode beside those of the one that changes, it isn't loose: the other
-- anode is read as before.
module _ (named : ℕ → ℕ) (q : ℕ) (old new : State) (before after : List ℕ) (blocks : new.superblock.blocks ≡ old.superblock.blocks)
    (counted : AreCounted (λ b. named b + names (node_in old before q) b) old before)
    (writes : WritesLoose named old before before after) (page : page_of new.entries new.puts after q ≡ page_of old.entries old.puts before q) where
  used_same : (w : ℕ) → w < 68 → is_pointer old.superblock.blocks (pointer_of (node_in old before q) w) ≡ true → SameBlock old.superblock.blocks before after (pointer_of (node_in old before q) w - 1)
  used_same w lt is =
      let facts = pointer_facts old.superblock.blocks (pointer_of (node_in old before q) w) is in
      let some = facts.0 in let within = facts.1 in
      let block : ℕ = pointer_of (node_in old before q) w - 1 in
      let one = named_some (node_in old before q) w block lt (omega (arith, some)) in
      let all = counted block (omega (arith, some, within)) in
      writes.blocks block (omega (arith, some, within)) (λ loose. (let e = loose.now in omega (arith, e, one, all)))

  indirect : pointer_of (node_in old before q) 15 ≡ number_at 4 72 (page_of old.entries old.puts before q)
  indirect = pointer_front (node_in old before q) 15 (omega arith)

  map_same : map_under old.superblock.blocks after (number_at 4 72 (page_of old.entries old.puts before q)) ≡ map_under old.superblock.blocks before (number_at 4 72 (page_of old.entries old.puts before q))
  map_same = by (is_pointer old.superblock.blocks (number_at 4 72 (page_of old.entries old.puts before q))) refl
    where
      by : (is : Bool) → is_pointer old.superblock.blocks (number_at 4 72 (page_of old.entries old.puts before q)) ≡ is
          → (if is then bytes_from after (block_start (pages_of old.superblock.blocks) (number_at 4 72 (page_of old.entries old.puts before q) - 1)) 1024 else replicate 1024 0)
          ≡ (if is then bytes_from before (block_start (pages_of old.superblock.blocks) (number_at 4 72 (page_of old.entries old.puts before q) - 1)) 1024 else replicate 1024 0)
      by true e =
          let same = subst (λ (p : ℕ). is_pointer old.superblock.blocks p ≡ true → SameBlock old.superblock.blocks before after (p - 1)) indirect (used_same 15 (omega arith)) e in
          let start = block_start (pages_of old.superblock.blocks) (number_at 4 72 (page_of old.entries old.puts before q) - 1) in
          let size = length-bytes_from before start 1024 in
          (λ i. bytes_from after start (sym size i)) ∙ bytes_from-is after (bytes_from before start 1024) start (λ j lt. same j (omega (arith, size)) ∙ sym (get_or-bytes_from before start 1024 j (omega (arith, size))))
      by false e = refl

  pub node_stays : node_in new after q ≡ node_in old before q
  node_stays = (λ i. node_of (blocks i) after (page i)) ∙ (λ i. record { blocks = old.superblock.blocks; page = page_of old.entries old.puts before q; map = map_same i })

  pub cell_stays : (w k : ℕ) → w < 68 → k < 1024 → cell after (node_in old before q) w k ≡ cell before (node_in old before q) w k
  cell_stays w k below lt = cell_same before after (node_in old before q) (node_in old before q) w k refl refl lt (used_same w below)

  pub anode_stays : anode_in new after q ≡ anode_in old before q
  anode_stays =
      let node = node_in old before q in
      let most = length_most (byte_at node.page 0) (number_at 4 8 node.page) in
      (λ i. anode_of after (node_stays i))
      ∙ (λ i. record (anode_of before node) {
        lists = λ which k. list which k (nat_lt which 3) refl (nat_lt k 1024) refl i;
        content = λ k. content k (nat_lt k (bytes_of node)) refl most i;
      })
    where
      list : (which k : ℕ) → (a : Bool) → nat_lt which 3 ≡ a → (b : Bool) → nat_lt k 1024 ≡ b → (if a && b then cell after (node_in old before q) which k else 0) ≡ (if a && b then cell before (node_in old before q) which k else 0)
      list which k true a true b = let low : which < 3 = grind (arith, nat_tests) in let lt : k < 1024 = grind (arith, nat_tests) in cell_stays which k (omega arith) lt
      list which k true a false b = refl
      list which k false a b e = refl

      content : (k : ℕ) → (a : Bool) → nat_lt k (bytes_of (node_in old before q)) ≡ a → bytes_of (node_in old before q) ≤ 65536
          → (if a then cell after (node_in old before q) (pointer_at (k / 1024)) (k % 1024) else 0) ≡ (if a then cell before (node_in old before q) (pointer_at (k / 1024)) (k % 1024) else 0)
      content k true a most =
          let lt : k < bytes_of (node_in old before q) = grind (arith, nat_tests) in
          let low : k / 1024 < 64 = omega arith in
          let p = pointer_in (k / 1024) low in
          cell_stays (pointer_at (k / 1024)) (k % 1024) p.1 (omega arith)
      content k false a most = refl

-- what is counted beside an anode that changed stays counted
pub counted_turned : (page : ℕ) (named named_2 rest : ℕ → ℕ) (old new : State) (before after : List ℕ) → new.superblock.blocks ≡ old.superblock.blocks → Turns page named named_2 old before new after
    → AreCounted (λ b. named b + rest b) old before → AreCounted (λ b. named_2 b + rest b) new after
counted_turned page named named_2 rest old new before after blocks turns counted b lt =
    let e = turns.counts b (omega (arith, blocks, lt)) in let f = counted b (omega (arith, blocks, lt)) in omega (arith, e, f)

-- one call after another
pub wrote_turned : (page : ℕ) (named named_2 rest : ℕ → ℕ) (old mid : State) (first second last : View) → mid.superblock.blocks ≡ old.superblock.blocks → Turns page named named_2 old first.image mid second.image
    → WroteLoose (λ b. named b + rest b) old first second → WroteLoose (λ b. named_2 b + rest b) mid second last → WroteLoose (λ b. named b + rest b) old first last
wrote_turned page named named_2 rest old mid first second last blocks turns one two =
    let before : (b : ℕ) → IsLoose (λ x. named_2 x + rest x) mid second.image b → IsLoose (λ x. named x + rest x) old first.image b = λ b loose.
    (let there = loose.there in let now = loose.now in let lt : b < old.superblock.blocks = omega (arith, blocks, there) in let e = turns.counts b lt in
    record { there = lt; now = omega (arith, e, now); settled = sym (turns.settled b lt) ∙ loose.settled }) in
    let wider = loose_wider (λ b. named b + rest b) (λ b. named_2 b + rest b) old mid first.image second.image in
    wrote_then (λ b. named b + rest b) old first second last one (wider second.image last.image blocks before two.reads) (wider_changes two.crash (λ c d. wider c d blocks before))
