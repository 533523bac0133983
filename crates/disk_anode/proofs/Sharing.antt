-- Pointers that were added, and an anode's own ones.
use Rattle.std.proofs.Common.{◌≡◌, ◌<◌, ◌≤◌, ℕ, ◌+◌, ◌-◌, List, refl, sym, ◌∙◌, subst, arith}
use Rattle.std.specs.Prelude.{Bool, true, false, ◌==◌, IsTrue, if◌then◌else◌}
use Rattle.disk_log.specs.State.{State}
use Rattle.disk_space.specs.Counts.{count_now}
use Rattle.disk_anode.specs.Room.{one, how_many, free_blocks}
use Rattle.disk_anode.specs.Node.{pointer_of, is_pointer, names, names_below, no_names}
use Rattle.disk_anode.specs.Changes.{IsSpare, is_shared, own_names, AreCounted, AreFew, Moves, Turns, Replaced}
use Rattle.disk_anode.specs.declared.node.Node.{Node}
use Rattle.disk_anode.proofs.Counting.{many_upto, many_next}
use Rattle.disk_anode.proofs.Cells.{may_give, pointer_facts, one_same}
use Rattle.disk_anode.proofs.Free.{free_left}

-- pointers below one
pub below_all : (node : Node) (b : ℕ) → names_below 68 node b ≡ names node b
unfolding names_below names
below_all node b = refl

pub below_none : (node : Node) (b : ℕ) → names_below 0 node b ≡ 0
unfolding names_below how_many
below_none node b = refl

pub below_le : (m n : ℕ) (node : Node) (b : ℕ) → m ≤ n → names_below m node b ≤ names_below n node b
unfolding names_below
below_le m n node b le = many_upto (λ w. pointer_of node w == b + 1) m n le

pub below_next : (w : ℕ) (node : Node) (b : ℕ) → names_below (w + 1) node b ≡ names_below w node b + one (pointer_of node w == b + 1)
unfolding names_below
below_next w node b = many_next (λ v. pointer_of node v == b + 1) w

-- one more
pub moves_shared : (from w : ℕ) (node : Node) (old mid new : State) (first second last : List ℕ) → mid.superblock.blocks ≡ old.superblock.blocks → Moves (names_below from node) (names_below w node) old first mid second
    → Moves no_names (λ b. one (pointer_of node w == b + 1)) mid second new last → Moves (names_below from node) (names_below (w + 1) node) old first new last
moves_shared from w node old mid new first second last blocks one_by two = record {
  counts = λ b lt. (let e = one_by.counts b lt in let f = two.counts b (omega (arith, blocks, lt)) in let h = below_next w node b in omega (arith, e, f, h));
  settled = λ b lt. two.settled b (omega (arith, blocks, lt)) ∙ one_by.settled b lt;
  tail = λ b spare. two.tail b (subst (λ (m : ℕ). IsSpare m b) (sym blocks) spare) ∙ one_by.tail b spare;
  pages = λ p lt. two.pages p lt ∙ one_by.pages p lt;
}

-- a block that a pointer names may have one more
pub may_share : (node : Node) (from w pointer : ℕ) (old mid : State) (before middle : List ℕ) → pointer ≡ pointer_of node w → w < 68 → from ≤ w → node.blocks ≡ old.superblock.blocks → mid.superblock.blocks ≡ old.superblock.blocks
    → AreCounted (names node) old before → Moves (names_below from node) (names_below w node) old before mid middle → IsTrue (is_pointer mid.superblock.blocks pointer) → 1 ≤ count_now mid middle (pointer - 1)
may_share node from w pointer old mid before middle points lt le blocks same counted moves is =
    may_give node w pointer old before mid middle points lt blocks same counted (λ b low. let e = moves.counts b low in let f = below_le from w node b le in omega (arith, e, f)) is

pub few_share : (node : Node) (from w pointer : ℕ) (old mid : State) (before middle : List ℕ) → pointer ≡ pointer_of node w → w < 68 → mid.superblock.blocks ≡ old.superblock.blocks
    → AreFew (names node) old before → Moves (names_below from node) (names_below w node) old before mid middle → IsTrue (is_pointer mid.superblock.blocks pointer) → count_now mid middle (pointer - 1) < 65535
few_share node from w pointer old mid before middle points lt same few moves is =
    let facts = pointer_facts mid.superblock.blocks pointer is in
    let some = facts.0 in let within = facts.1 in
    let block : ℕ = pointer - 1 in
    let low : block < old.superblock.blocks = omega (arith, some, within, same) in
    let e = moves.counts block low in
    let f = few block low in
    let next = below_next w node block in
    let mine = one_same (pointer_of node w) (block + 1) (omega (arith, some, points)) in
    let most = below_le (w + 1) 68 node block (omega arith) in
    let all = below_all node block in
    omega (arith, e, f, next, mine, most, all)

-- no block that was free is in use then
pub free_shared : (node : Node) (from to : ℕ) (old new : State) (before after : List ℕ) → to ≤ 68 → new.superblock.blocks ≡ old.superblock.blocks → AreCounted (names node) old before
    → Moves (names_below from node) (names_below to node) old before new after → free_blocks old before ≤ free_blocks new after
free_shared node from to old new before after le blocks counted moves = free_left old new before after blocks
    (λ b lt was. let e = moves.counts b lt in let f = counted b lt in let h = below_le to 68 node b le in let all = below_all node b in omega (arith, e, f, h, all, was)) moves.settled

-- an indirect block that is shared or isn't
pub own_shared : (state : State) (image : List ℕ) (node : Node) (b : ℕ) → is_shared state image node ≡ true → own_names state image node b ≡ names_below 16 node b
own_shared state image node b is = λ i. if is i then names_below 16 node b else names node b

pub own_alone : (state : State) (image : List ℕ) (node : Node) (b : ℕ) → is_shared state image node ≡ false → own_names state image node b ≡ names node b
own_alone state image node b is = λ i. if is i then names_below 16 node b else names node b

-- an anode's own pointers are among all
pub own_le : (state : State) (image : List ℕ) (node : Node) (b : ℕ) → own_names state image node b ≤ names node b
own_le state image node b = by (is_shared state image node)
  where
    by : (shared : Bool) → (if shared then names_below 16 node b else names node b) ≤ names node b
    by true = let e = below_le 16 68 node b (omega arith) in let all = below_all node b in omega (arith, e, all)
    by false = omega arith

pub counted_own : (state : State) (image : List ℕ) (node : Node) → AreCounted (names node) state image → AreCounted (own_names state image node) state image
counted_own state image node counted b lt = let e = counted b lt in let f = own_le state image node b in omega (arith, e, f)

pub turns_own : (page : ℕ) (dropped : ℕ → ℕ) (node : Node) (old : State) (before : List ℕ) (new : State) (after : List ℕ) → is_shared new after node ≡ false
    → Turns page dropped (names node) old before new after → Turns page dropped (own_names new after node) old before new after
turns_own page dropped node old before new after alone turns = record {
  counts = λ b lt. (let e = turns.counts b lt in let f = own_alone new after node b alone in omega (arith, e, f));
  settled = turns.settled;
  tail = turns.tail;
  pages = turns.pages;
}

pub moves_alone : (node : Node) (old new : State) (before after : List ℕ) → new ≡ old → after ≡ before → is_shared old before node ≡ false → Moves (own_names old before node) (names node) old before new after
moves_alone node old new before after same quiet alone =
    subst (λ (s : State). Moves (own_names old before node) (names node) old before s after) (sym same) (subst (λ (l : List ℕ). Moves (own_names old before node) (names node) old before old l) (sym quiet)
    (record { counts = λ b lt. (let e = own_alone old before node b alone in omega (arith, e)); settled = λ b lt. refl; tail = λ b spare. refl; pages = λ p lt. refl }))

-- the pointers of a shared one are added
pub counted_shared : (node : Node) (old mid : State) (before middle : List ℕ) → mid.superblock.blocks ≡ old.superblock.blocks → AreCounted (names node) old before → Moves (names_below 16 node) (names_below 68 node) old before mid middle → AreCounted (names node) mid middle
counted_shared node old mid before middle blocks counted moves b lt =
    let e = moves.counts b (omega (arith, blocks, lt)) in let f = counted b (omega (arith, blocks, lt)) in let h = below_le 16 68 node b (omega arith) in let all = below_all node b in
    omega (arith, e, f, h, all)

pub moves_detached : (node detached : Node) (old mid new : State) (first second last : List ℕ) → mid.superblock.blocks ≡ old.superblock.blocks → is_shared old first node ≡ true → Moves (names_below 16 node) (names_below 68 node) old first mid second
    → Replaced 15 no_names node mid second detached new last → Moves (own_names old first node) (names detached) old first new last
moves_detached node detached old mid new first second last blocks shared one_by replaced = record {
  counts = λ b lt. (let e = one_by.counts b lt in let f = replaced.moves.counts b (omega (arith, blocks, lt)) in let all = below_all node b in let own = own_shared old first node b shared in omega (arith, e, f, all, own));
  settled = λ b lt. replaced.moves.settled b (omega (arith, blocks, lt)) ∙ one_by.settled b lt;
  tail = λ b spare. replaced.moves.tail b (subst (λ (m : ℕ). IsSpare m b) (sym blocks) spare) ∙ one_by.tail b spare;
  pages = λ p lt. replaced.moves.pages p lt ∙ one_by.pages p lt;
}
