-- Blocks that are named no more often, or anew.
use Rattle.std.proofs.Common.{◌≡◌, ◌<◌, ◌≤◌, ◌⊎◌, ℕ, ◌+◌, ◌-◌, List, ◌∙◌, inl, inr, arith, ◌≢◌}
use Rattle.std.specs.Prelude.{true, false, ◌==◌, if◌then◌else◌}
use Rattle.disk_log.specs.State.{State}
use Rattle.disk_space.specs.Counts.{count_now}
use Rattle.disk_anode.specs.Room.{one}
use Rattle.disk_anode.specs.Node.{names, pointer_of, IsRanged}
use Rattle.disk_anode.specs.Changes.{is_shared, left_names, Renews}
use Rattle.disk_anode.specs.declared.node.Node.{Node}
use Rattle.std.proofs.lemmas.Bool.{cases_lt}
use Rattle.std.proofs.lemmas.Bool.Decides.{nat_tests}
use Rattle.disk_anode.proofs.Counting.{none_many}
use Rattle.disk_anode.proofs.Cells.{named_some}

-- one after another
pub renews_on : (a b c : ℕ → ℕ) (old mid : State) (first second : List ℕ) → mid.superblock.blocks ≡ old.superblock.blocks
    → ((x : ℕ) → x < old.superblock.blocks → count_now mid second x + a x ≡ count_now old first x + b x)
    → Renews a b old first → Renews b c mid second → Renews a c old first
renews_on a b c old mid first second blocks counts one_by two x = by (one_by x) (two x)
  where
    by : (b x ≤ a x) ⊎ ((x < old.superblock.blocks) × (count_now old first x ≤ a x) × (b x ≤ 1)) → (c x ≤ b x) ⊎ ((x < mid.superblock.blocks) × (count_now mid second x ≤ b x) × (c x ≤ 1))
        → (c x ≤ a x) ⊎ ((x < old.superblock.blocks) × (count_now old first x ≤ a x) × (c x ≤ 1))
    by (inl e) (inl f) = inl (omega (arith, e, f))
    by (inr e) (inl f) = inr (e.0, e.1, (let g = e.2 in omega (arith, g, f)))
    by either (inr f) = (let there = f.0 in let lt : x < old.superblock.blocks = omega (arith, there, blocks) in inr (lt, (let m = counts x lt in let g = f.1 in omega (arith, m, g)), f.2))

-- the same, said of other pointers
pub renews_as : (a b a_2 b_2 : ℕ → ℕ) (state : State) (image : List ℕ) → ((x : ℕ) → a_2 x ≡ a x) → ((x : ℕ) → b_2 x ≡ b x) → Renews a b state image → Renews a_2 b_2 state image
renews_as a b a_2 b_2 state image first second renews x = by (renews x)
  where
    by : (b x ≤ a x) ⊎ ((x < state.superblock.blocks) × (count_now state image x ≤ a x) × (b x ≤ 1)) → (b_2 x ≤ a_2 x) ⊎ ((x < state.superblock.blocks) × (count_now state image x ≤ a_2 x) × (b_2 x ≤ 1))
    by (inl e) = inl (let f = first x in let g = second x in omega (arith, e, f, g))
    by (inr e) = (let f = first x in let g = second x in let h = e.1 in let i = e.2 in inr (e.0, omega (arith, f, h), omega (arith, g, i)))

-- pointers that are in range, by the blocks that they name
other_test : (a b : ℕ) → a ≢ b → (a == b) ≡ false
other_test a b apart = grind (arith, nat_tests, apart)

pub ranged_names : (node : Node) → IsRanged node → (b : ℕ) → node.blocks ≤ b → names node b ≡ 0
unfolding names
ranged_names node ranged b le = none_many (λ w. pointer_of node w == b + 1) 68
    (λ w lt. (let e = ranged w lt in other_test (pointer_of node w) (b + 1) (λ (is : pointer_of node w ≡ b + 1). absurd (omega (arith, e, is, le)))))

pub names_ranged : (node : Node) → ((b : ℕ) → node.blocks ≤ b → names node b ≡ 0) → IsRanged node
names_ranged node none w lt = by (cases_lt node.blocks (pointer_of node w))
  where
    by : (node.blocks < pointer_of node w) ⊎ (pointer_of node w ≤ node.blocks) → pointer_of node w ≤ node.blocks
    by (inr le) = le
    by (inl high) =
        let some = named_some node w (pointer_of node w - 1) lt (omega (arith, high)) in
        let zero = none (pointer_of node w - 1) (omega (arith, high)) in
        absurd (omega (arith, some, zero))

pub ranged_fewer : (old new : Node) → new.blocks ≡ old.blocks → ((b : ℕ) → old.blocks ≤ b → names new b ≤ names old b) → IsRanged old → IsRanged new
ranged_fewer old new blocks fewer ranged = names_ranged new
    (λ b le. (let low : old.blocks ≤ b = omega (arith, blocks, le) in let e = fewer b low in let f = ranged_names old ranged b low in omega (arith, e, f)))

pub ranged_on : (node changed : Node) (state : State) (image : List ℕ) → node.blocks ≡ state.superblock.blocks → changed.blocks ≡ node.blocks → Renews (names node) (names changed) state image → IsRanged node → IsRanged changed
ranged_on node changed state image there blocks renews ranged = ranged_fewer node changed blocks (λ b le. by b le (renews b)) ranged
  where
    by : (b : ℕ) → node.blocks ≤ b → (names changed b ≤ names node b) ⊎ ((b < state.superblock.blocks) × (count_now state image b ≤ names node b) × (names changed b ≤ 1)) → names changed b ≤ names node b
    by b le (inl e) = e
    by b le (inr e) = absurd (let lt = e.0 in omega (arith, lt, le, there))

-- the pointers that a change begins with
pub left_alone : (state : State) (image : List ℕ) (node : Node) (b : ℕ) → is_shared state image node ≡ false → left_names state image node b ≡ names node b
left_alone state image node b is = (λ i. names node b - (if is i then one (pointer_of node 15 == b + 1) else 0)) ∙ omega arith

pub left_shared : (state : State) (image : List ℕ) (node : Node) (b : ℕ) → is_shared state image node ≡ true → left_names state image node b ≡ names node b - one (pointer_of node 15 == b + 1)
left_shared state image node b is = λ i. names node b - (if is i then one (pointer_of node 15 == b + 1) else 0)
