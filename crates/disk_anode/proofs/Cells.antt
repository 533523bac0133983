-- The bytes under an anode's pointers, and how many name a block.
use Rattle.std.proofs.Common.{◌≡◌, ◌≢◌, ◌<◌, ◌≤◌, ◌⊎◌, ℕ, ◌+◌, ◌-◌, List, get_or, refl, sym, ◌∙◌, ap, subst, inl, inr, arith}
use Rattle.std.specs.Prelude.{Bool, true, false, ◌==◌, ◌&&◌, IsTrue, nat_lt, nat_le, if◌then◌else◌}
use Rattle.std.proofs.lemmas.Bool.Decides.{nat_tests}
use Rattle.base_types.specs.Image.{byte_at}
use Rattle.disk_layout.specs.Places.{block_start, pages_of}
use Rattle.disk_log.specs.State.{State}
use Rattle.disk_space.specs.Counts.{count_now}
use Rattle.disk_anode.specs.Room.{one, how_many}
use Rattle.disk_anode.specs.Node.{pointer_of, is_pointer, byte_under, cell, names, no_names, PointsTo}
use Rattle.disk_anode.specs.Changes.{IsSpare, is_shared, SameBlock, AreCounted, Moves, IsTaken, Replaced}
use Rattle.disk_anode.specs.declared.node.Node.{Node}
use Rattle.disk_anode.proofs.Counting.{many_but, one_of_many}

pub pointer_true : (blocks pointer : ℕ) → 0 < pointer → pointer ≤ blocks → IsTrue (is_pointer blocks pointer)
pointer_true blocks pointer some le = grind (arith, nat_tests)

pub pointer_facts : (blocks pointer : ℕ) → is_pointer blocks pointer ≡ true → (0 < pointer) × (pointer ≤ blocks)
pointer_facts blocks pointer is = by (nat_lt 0 pointer) refl (nat_le pointer blocks) refl is
  where
    by : (some : Bool) → nat_lt 0 pointer ≡ some → (within : Bool) → nat_le pointer blocks ≡ within → (some && within) ≡ true → (0 < pointer) × (pointer ≤ blocks)
    by true a true b h = (grind (arith, nat_tests), grind (arith, nat_tests))
    by true a false b h = absurd (grind (arith, h))
    by false a within b h = absurd (grind (arith, h))

pub one_same : (a b : ℕ) → a ≡ b → one (a == b) ≡ 1
one_same a b is = let e : (a == b) ≡ true = grind (arith, nat_tests) in λ i. one (e i)

pub one_other : (a b : ℕ) → a ≢ b → one (a == b) ≡ 0
one_other a b apart = let e : (a == b) ≡ false = grind (arith, nat_tests) in λ i. one (e i)

-- a pointer that names a block is counted
pub named_some : (node : Node) (w block : ℕ) → w < 68 → pointer_of node w ≡ block + 1 → 1 ≤ names node block
unfolding names
named_some node w block lt is = let e : (pointer_of node w == block + 1) ≡ true = grind (arith, nat_tests) in one_of_many (λ v. pointer_of node v == block + 1) w 68 lt e

-- and the counts move with it
pub named_but : (old new : Node) (w pointer block : ℕ) → w < 68 → PointsTo w pointer old new → names new block + one (pointer_of old w == block + 1) ≡ names old block + one (pointer == block + 1)
unfolding names
named_but old new w pointer block lt points =
    many_but (λ v. pointer_of old v == block + 1) (λ v. pointer_of new v == block + 1) w 68 lt (λ v below apart. (let e = points.others v below apart in λ i. sym e i == block + 1))
    ∙ (let e = points.here in λ i. how_many (λ v. pointer_of old v == block + 1) 68 + one (e i == block + 1))

-- a byte under a pointer depends on its block alone
pub under_same : (blocks : ℕ) (old new : List ℕ) (pointer k : ℕ) → k < 1024 → (is_pointer blocks pointer ≡ true → SameBlock blocks old new (pointer - 1)) → byte_under blocks new pointer k ≡ byte_under blocks old pointer k
under_same blocks old new pointer k lt same = by (is_pointer blocks pointer) refl
  where
    by : (is : Bool) → is_pointer blocks pointer ≡ is
        → (if is then byte_at new (block_start (pages_of blocks) (pointer - 1) + k) else 0) ≡ (if is then byte_at old (block_start (pages_of blocks) (pointer - 1) + k) else 0)
    by true e = same e k lt
    by false e = refl

pub cell_same : (old new : List ℕ) (node changed : Node) (v k : ℕ) → changed.blocks ≡ node.blocks → pointer_of changed v ≡ pointer_of node v → k < 1024
    → (is_pointer node.blocks (pointer_of node v) ≡ true → SameBlock node.blocks old new (pointer_of node v - 1)) → cell new changed v k ≡ cell old node v k
unfolding cell
cell_same old new node changed v k blocks pointer lt same = (λ i. byte_under (blocks i) new (pointer i) k) ∙ under_same node.blocks old new (pointer_of node v) k lt same

pub cell_at : (image : List ℕ) (node : Node) (w block blocks k : ℕ) → node.blocks ≡ blocks → pointer_of node w ≡ block + 1 → block < blocks → cell image node w k ≡ byte_at image (block_start (pages_of blocks) block + k)
unfolding cell
cell_at image node w block blocks k same points lt =
    let e : is_pointer blocks (block + 1) ≡ true = grind (arith, nat_tests) in
    let f : block + 1 - 1 ≡ block = omega arith in
    (λ i. byte_under (same i) image (points i) k) ∙ (λ i. if e i then byte_at image (block_start (pages_of blocks) (f i) + k) else 0)

pub cell_none : (image : List ℕ) (node : Node) (w k : ℕ) → pointer_of node w ≡ 0 → cell image node w k ≡ 0
unfolding cell
cell_none image node w k points = λ i. byte_under node.blocks image (points i) k

-- no block is shared where the indirect block has no pointer
pub alone_none : (state : State) (image : List ℕ) (node : Node) → pointer_of node 15 ≡ 0 → is_shared state image node ≡ false
alone_none state image node zero = λ i. is_pointer node.blocks (zero i) && nat_lt 1 (count_now state image (zero i - 1))

-- or one that no other pointer names
pub alone_by : (state : State) (image : List ℕ) (node : Node) → (pointer_of node 15 ≡ 0) ⊎ (count_now state image (pointer_of node 15 - 1) ≡ 1) → is_shared state image node ≡ false
alone_by state image node (inl zero) = alone_none state image node zero
alone_by state image node (inr once) = (λ i. is_pointer node.blocks (pointer_of node 15) && nat_lt 1 (once i)) ∙ by (is_pointer node.blocks (pointer_of node 15))
  where
    by : (a : Bool) → (a && nat_lt 1 1) ≡ false
    by true = refl
    by false = refl

-- a block that a pointer names is in use
pub in_use : (node : Node) (w : ℕ) (state : State) (image : List ℕ) → node.blocks ≡ state.superblock.blocks → AreCounted (names node) state image → w < 68
    → is_pointer node.blocks (pointer_of node w) ≡ true → 1 ≤ count_now state image (pointer_of node w - 1)
in_use node w state image blocks counted lt is =
    let facts = pointer_facts node.blocks (pointer_of node w) is in
    let some = facts.0 in let within = facts.1 in
    let a = named_some node w (pointer_of node w - 1) lt (omega (arith, some)) in
    let b = counted (pointer_of node w - 1) (omega (arith, some, within, blocks)) in
    omega (arith, a, b)

-- the block that a pointer names may be given up
pub may_give : (node : Node) (w pointer : ℕ) (old : State) (before : List ℕ) (new : State) (after : List ℕ) → pointer ≡ pointer_of node w → w < 68 → node.blocks ≡ old.superblock.blocks → new.superblock.blocks ≡ old.superblock.blocks
    → AreCounted (names node) old before → ((b : ℕ) → b < old.superblock.blocks → count_now old before b ≤ count_now new after b)
    → IsTrue (is_pointer new.superblock.blocks pointer) → 1 ≤ count_now new after (pointer - 1)
may_give node w pointer old before new after points lt blocks same counted more is =
    let here : is_pointer node.blocks (pointer_of node w) ≡ true = (λ i. is_pointer ((blocks ∙ sym same) i) (sym points i)) ∙ is in
    let facts = pointer_facts node.blocks (pointer_of node w) here in
    let some = facts.0 in let within = facts.1 in
    let a = in_use node w old before blocks counted lt here in
    let b = more (pointer_of node w - 1) (omega (arith, some, within, blocks)) in
    let e : pointer - 1 ≡ pointer_of node w - 1 = (λ i. points i - 1) in
    subst (λ (x : ℕ). 1 ≤ count_now new after x) (sym e) (omega (arith, a, b))

-- no bytes under the other pointers change where their blocks don't
module _ (w : ℕ) (node changed : Node) (old : State) (before after : List ℕ) (lt : w < 68) (blocks : node.blocks ≡ old.superblock.blocks) (counted : AreCounted (names node) old before) (pointer : ℕ) (points : PointsTo w pointer node changed) where
  others_same : ((b : ℕ) → b < old.superblock.blocks → 1 ≤ count_now old before b → SameBlock old.superblock.blocks before after b)
      → (v k : ℕ) → v < 68 → k < 1024 → v ≢ w → cell after changed v k ≡ cell before node v k
  others_same same v k below low apart = cell_same before after node changed v k points.blocks (points.others v below apart) low (λ is.
      let facts = pointer_facts node.blocks (pointer_of node v) is in
      let some = facts.0 in let within = facts.1 in
      subst (λ (n : ℕ). SameBlock n before after (pointer_of node v - 1)) (sym blocks) (same (pointer_of node v - 1) (omega (arith, some, within, blocks)) (in_use node v old before blocks counted below is)))

  cells_by : (bytes : ℕ → ℕ) → ((b : ℕ) → b < old.superblock.blocks → 1 ≤ count_now old before b → SameBlock old.superblock.blocks before after b)
      → ((k : ℕ) → k < 1024 → cell after changed w k ≡ bytes k) → (v k : ℕ) → v < 68 → k < 1024 → cell after changed v k ≡ (if v == w then bytes k else cell before node v k)
  cells_by bytes same here v k below low = by (v == w) refl
    where
      by : (mine : Bool) → (v == w) ≡ mine → cell after changed v k ≡ (if mine then bytes k else cell before node v k)
      by true e = (let f : v ≡ w = grind (arith, nat_tests) in ap (λ (x : ℕ). cell after changed x k) f ∙ here k low)
      by false e = (let f : v ≢ w = λ (is : v ≡ w). absurd (grind (arith, nat_tests, e, is)) in others_same same v k below low f)

  -- the block was given up
  pub cleared : (new : State) → pointer ≡ 0 → Moves (λ b. one (pointer_of node w == b + 1)) no_names old before new after → after ≡ before → Replaced w no_names node old before changed new after
  cleared new zero moves quiet = record {
    moves = record {
      counts = λ b low. (let e = moves.counts b low in let f = named_but node changed w pointer b lt points in let g = one_other pointer (b + 1) (omega (arith, zero)) in omega (arith, e, f, g));
      settled = moves.settled;
      tail = moves.tail;
      pages = moves.pages;
    };
    renews = λ b. inl (let f = named_but node changed w pointer b lt points in let g = one_other pointer (b + 1) (omega (arith, zero)) in omega (arith, f, g));
    cells = cells_by no_names (λ b low used k below. ap (λ (l : List ℕ). byte_at l (block_start (pages_of old.superblock.blocks) b + k)) quiet) (λ k low. cell_none after changed w k (points.here ∙ zero));
  }

  -- and a fresh one taken
  pub replaced : (block : ℕ) (bytes : List ℕ) (mid new : State) (middle : List ℕ) → pointer ≡ block + 1 → IsTaken block bytes old before mid middle → mid.superblock.blocks ≡ old.superblock.blocks
      → Moves (λ b. one (pointer_of node w == b + 1)) no_names mid middle new after → after ≡ middle → Replaced w (λ k. get_or bytes k 0) node old before changed new after
  replaced block bytes mid new middle is taken same moves quiet = record {
    moves = record {
      counts = λ b low. (let e = taken.moves.counts b low in let h = moves.counts b (omega (arith, same, low)) in let f = named_but node changed w pointer b lt points in let g : one (pointer == b + 1) ≡ one (block + 1 == b + 1) = (λ i. one (is i == b + 1)) in omega (arith, e, f, g, h));
      settled = λ b low. moves.settled b (omega (arith, same, low)) ∙ taken.moves.settled b low;
      tail = λ b spare. moves.tail b (subst (λ (m : ℕ). IsSpare m b) (sym same) spare) ∙ taken.moves.tail b spare;
      pages = λ p low. moves.pages p low ∙ taken.moves.pages p low;
    };
    renews = λ b. renewed b (pointer == b + 1) refl;
    cells = cells_by (λ k. get_or bytes k 0) (λ b low used k below. ap (λ (l : List ℕ). byte_at l (block_start (pages_of old.superblock.blocks) b + k)) quiet ∙ taken.others b (λ e. unused b e used) k below) (λ k low. here k low);
  }
    where
      renewed : (b : ℕ) → (mine : Bool) → (pointer == b + 1) ≡ mine → (names changed b ≤ names node b) ⊎ ((b < old.superblock.blocks) × (count_now old before b ≤ names node b) × (names changed b ≤ 1))
      renewed b true e =
          let same : pointer ≡ b + 1 = grind (arith, nat_tests, e) in
          let here : block ≡ b = omega (arith, same, is) in
          let none : count_now old before b ≡ 0 = ap (count_now old before) (sym here) ∙ taken.free.now in
          let there = taken.free.there in
          let low : b < old.superblock.blocks = omega (arith, here, there) in
          let all = counted b low in
          let f = named_but node changed w pointer b lt points in
          let m : one (pointer == b + 1) ≡ 1 = (λ i. one (e i)) in
          inr (low, omega (arith, none), omega (arith, none, all, f, m))
      renewed b false e =
          let f = named_but node changed w pointer b lt points in
          let m : one (pointer == b + 1) ≡ 0 = (λ i. one (e i)) in
          inl (omega (arith, f, m))

      unused : (b : ℕ) → b ≡ block → 1 ≤ count_now old before b → ⊥
      unused b e used = (let f = ap (count_now old before) e in let h = taken.free.now in omega (arith, f, h, used))

      here : (k : ℕ) → k < 1024 → cell after changed w k ≡ get_or bytes k 0
      here k low = cell_at after changed w block old.superblock.blocks k (points.blocks ∙ blocks) (points.here ∙ is) taken.free.there
          ∙ ap (λ (l : List ℕ). byte_at l (block_start (pages_of old.superblock.blocks) block + k)) quiet ∙ taken.holds k low

  -- which no other pointer names
  pub fresh_count : (block : ℕ) (bytes : List ℕ) (mid new : State) (middle : List ℕ) → pointer ≡ block + 1 → IsTaken block bytes old before mid middle → mid.superblock.blocks ≡ old.superblock.blocks
      → Moves (λ b. one (pointer_of node w == b + 1)) no_names mid middle new after → count_now new after (pointer_of changed w - 1) ≡ 1
  fresh_count block bytes mid new middle is taken same moves =
      let there = taken.free.there in
      let e = taken.moves.counts block there in
      let free = taken.free.now in
      let mine = one_same (block + 1) (block + 1) refl in
      let f = moves.counts block (omega (arith, same, there)) in
      let at : pointer_of changed w - 1 ≡ block = (let h = points.here in omega (arith, h, is)) in
      let apart : one (pointer_of node w == block + 1) ≡ 0 = one_other (pointer_of node w) (block + 1) (λ names_it. (let some = named_some node w block lt names_it in let all = counted block there in omega (arith, some, all, free))) in
      ap (count_now new after) at ∙ omega (arith, e, free, mine, f, apart)
