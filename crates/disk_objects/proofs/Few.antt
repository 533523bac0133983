-- How many pointers may name a block at most.
use Rattle.std.proofs.Common.{◌≡◌, ◌<◌, ◌≤◌, ℕ, ◌+◌, ◌-◌, List, refl, arith}
use Rattle.std.specs.Prelude.{Bool, true, false, ◌==◌, if◌then◌else◌, nat_lt}
use Rattle.std.proofs.lemmas.Bool.Decides.{nat_tests}
use Rattle.disk_log.specs.State.{State}
use Rattle.disk_space.specs.Counts.{count_now}
use Rattle.disk_anode.specs.Anode.{Anode}
use Rattle.disk_anode.specs.Node.{names, names_below, node_of, node_in}
use Rattle.disk_anode.specs.Room.{one, how_many}
use Rattle.disk_anode.specs.Changes.{AreFew}
use Rattle.disk_anode.proofs.Counting.{many_le, single_many}
use Rattle.disk_anode.proofs.Sharing.{below_le, below_all}
use Rattle.disk_objects.specs.Holds.{sum_below, is_anode, page_names, indirect_of, map_names, is_indirect, pointers_to, Holds, HoldsNow}
use Rattle.disk_objects.proofs.Sums.{sum_le, sum_ones, sum_swap, many_sum}
use Rattle.disk_objects.proofs.Nodes.{names_valid}
use Rattle.disk_objects.proofs.Staying.{indirect_page}

-- one number behind a pointer
behind_one : (c n : ℕ) → how_many (λ m. c == m + 1) n ≤ 1
behind_one c n =
    let a = many_le (λ m. c == m + 1) (λ m. m == c - 1) n (λ m lt e. (let is : c ≡ m + 1 = grind (arith, nat_tests, e) in let f : m ≡ c - 1 = omega (arith, is) in grind (arith, nat_tests, f))) in
    let b = single_many (c - 1) n in
    omega (arith, a, b)

one_some : (n : ℕ) → one (nat_lt 0 n) ≤ n
one_some n = by (nat_lt 0 n) refl
  where
    by : (a : Bool) → nat_lt 0 n ≡ a → one a ≤ n
    by true e = let some : 0 < n = grind (arith, nat_tests, e) in omega (arith, some)
    by false e = omega arith

-- indirect blocks are no more than pages
pub indirect_few : (indirect : ℕ → ℕ) (blocks : ℕ) → sum_below (λ m. one (is_indirect indirect m)) blocks ≤ 1058
indirect_few indirect blocks =
    let a = sum_le (λ m. one (is_indirect indirect m)) (λ m. sum_below (λ p. one (indirect p == m + 1)) 1058) blocks (λ m lt.
    let e = one_some (how_many (λ p. indirect p == m + 1) 1058) in
    let f = many_sum (λ p. indirect p == m + 1) 1058 in
    omega (arith, e, f)) in
    let b = sum_swap (λ m p. one (indirect p == m + 1)) blocks 1058 in
    let c = sum_ones (λ p. sum_below (λ m. one (indirect p == m + 1)) blocks) 1058 (λ p lt.
    let e = many_sum (λ m. indirect p == m + 1) blocks in
    let f = behind_one (indirect p) blocks in
    omega (arith, e, f)) in
    omega (arith, a, b, c)

module _ (anodes : ℕ → Anode) (blocks : ℕ) (pages : ℕ → List ℕ) (image : List ℕ) (held : Holds anodes blocks pages image) where
  front_few : (b p : ℕ) → b < blocks → page_names blocks pages image b p ≤ 1
  front_few b p lt = by (is_anode p) refl
    where
      by : (a : Bool) → is_anode p ≡ a → (if a then names_below 16 (node_of blocks image (pages p)) b else 0) ≤ 1
      by true e =
          let f = held.once p b e lt in
          let g = below_le 16 68 (node_of blocks image (pages p)) b (omega arith) in
          let h = below_all (node_of blocks image (pages p)) b in
          omega (arith, f, g, h)
      by false e = omega arith

  map_few : (b m : ℕ) → b < blocks → (if is_indirect (indirect_of blocks pages image) m then map_names blocks image b m else 0) ≤ one (is_indirect (indirect_of blocks pages image) m)
  map_few b m lt = by (is_indirect (indirect_of blocks pages image) m) refl
    where
      by : (a : Bool) → is_indirect (indirect_of blocks pages image) m ≡ a → (if a then map_names blocks image b m else 0) ≤ one a
      by true e =
          let found = indirect_page blocks pages image m e in
          let f = names_valid blocks image (pages found.0) m b found.2 in
          let g = held.once found.0 b found.1 lt in
          omega (arith, f, g)
      by false e = omega arith

  pub total_few : (b : ℕ) → b < blocks → pointers_to blocks pages image b ≤ 2116
  total_few b lt =
      let a = sum_ones (page_names blocks pages image b) 1058 (λ p low. front_few b p lt) in
      let c = sum_le (λ m. if is_indirect (indirect_of blocks pages image) m then map_names blocks image b m else 0) (λ m. one (is_indirect (indirect_of blocks pages image) m)) blocks (λ m low. map_few b m lt) in
      let d = indirect_few (indirect_of blocks pages image) blocks in
      omega (arith, a, c, d)

pub few_all : (anodes : ℕ → Anode) (state : State) (image : List ℕ) → HoldsNow anodes state image → (page : ℕ) → is_anode page ≡ true → AreFew (names (node_in state image page)) state image
unfolding count_now
few_all anodes state image held page is b lt =
    let e = held.counts b lt in
    let f = total_few anodes state.superblock.blocks _ image held b lt in
    let g = held.once page b is lt in
    omega (arith, e, f, g)
