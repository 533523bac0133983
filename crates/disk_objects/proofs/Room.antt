-- How many blocks the anodes of all pages leave free.
use Rattle.std.proofs.Common.{◌≡◌, ◌≢◌, ◌<◌, ◌≤◌, ℕ, zero, suc, ◌+◌, ◌-◌, ◌*◌, ◌/◌, List, refl, sym, ◌∙◌, arith}
use Rattle.std.specs.Prelude.{Bool, true, false, ◌==◌, ◌&&◌, not, if◌then◌else◌, nat_lt, min}
use Rattle.std.proofs.lemmas.Bool.Decides.{nat_tests}
use Rattle.disk_log.specs.Puts.{page_of}
use Rattle.disk_log.specs.State.{State}
use Rattle.disk_space.specs.Counts.{count_now, count_settled}
use Rattle.disk_anode.specs.Anode.{Anode, bytes_of, byte_length, IsTrimmed}
use Rattle.disk_anode.specs.Node.{pointer_of, pointer_at, is_pointer, names, names_below, node_of, node_in}
use Rattle.disk_anode.specs.Room.{one, how_many, free_blocks}
use Rattle.disk_anode.specs.declared.node.Node.{Node}
use Rattle.disk_anode.proofs.Counting.{same_many, many_le, none_many, single_many}
use Rattle.disk_anode.proofs.Cells.{pointer_facts}
use Rattle.disk_objects.specs.Holds.{sum_below, is_anode, page_names, indirect_of, map_names, is_indirect, pointers_to, pointers_set, all_pointers, blocks_most, HoldsNow}
use Rattle.disk_objects.proofs.Sums.{sum_same, sum_but, sum_le, sum_one, sum_zero, sum_plus, sum_swap, many_sum, many_split}
use Rattle.disk_objects.proofs.Totals.{indirect_some}
use Rattle.disk_objects.proofs.Nodes.{names_valid, names_invalid}

-- numbers that pass a test or don't
many_not : (t : ℕ → Bool) (n : ℕ) → how_many (λ j. not (t j)) n + how_many t n ≡ n
unfolding how_many
many_not t zero = refl
many_not t (suc n) = let rest = many_not t n in by (t n) rest
  where
    by : (b : Bool) → how_many (λ j. not (t j)) n + how_many t n ≡ n → how_many (λ j. not (t j)) n + one (not b) + (how_many t n + one b) ≡ suc n
    by true rest = omega (arith, rest)
    by false rest = omega (arith, rest)

lt_many : (c n : ℕ) → how_many (λ i. nat_lt i c) n ≤ min n c
unfolding how_many
lt_many c zero = omega arith
lt_many c (suc n) = let rest = lt_many c n in by (nat_lt n c) refl rest
  where
    by : (b : Bool) → nat_lt n c ≡ b → how_many (λ i. nat_lt i c) n ≤ min n c → how_many (λ i. nat_lt i c) n + one b ≤ min (suc n) c
    by true e rest = let lt : n < c = grind (arith, nat_tests, e) in omega (arith, rest, lt)
    by false e rest = omega (arith, rest)

-- one value behind a pointer
sum_behind : (c : ℕ) (g : ℕ → ℕ) (n : ℕ) → sum_below (λ m. if c == m + 1 then g m else 0) n ≤ (if is_pointer n c then g (c - 1) else 0)
sum_behind c g n = by (is_pointer n c) refl
  where
    off : (m : ℕ) → c ≢ m + 1 → (if c == m + 1 then g m else 0) ≡ 0
    off m apart = let e : (c == m + 1) ≡ false = grind (arith, nat_tests, apart) in λ i. if e i then g m else 0

    by : (a : Bool) → is_pointer n c ≡ a → sum_below (λ m. if c == m + 1 then g m else 0) n ≤ (if a then g (c - 1) else 0)
    by false e =
        let none = sum_zero (λ m. if c == m + 1 then g m else 0) n (λ m lt. off m (λ is. grind (arith, nat_tests, e, is, lt))) in
        omega (arith, none)
    by true e =
        let facts = pointer_facts n c e in
        let some = facts.0 in let within = facts.1 in
        let but = sum_but (λ m. 0) (λ m. if c == m + 1 then g m else 0) (c - 1) n (omega (arith, some, within)) (λ m lt apart. sym (off m (λ is. apart (omega (arith, is))))) in
        let none = sum_zero (λ m. 0) n (λ m lt. refl) in
        let here = if_le (c == c - 1 + 1) (g (c - 1)) in
        omega (arith, but, none, here)
      where
        if_le : (b : Bool) (x : ℕ) → (if b then x else 0) ≤ x
        if_le true x = omega arith
        if_le false x = omega arith

-- those of indirect blocks, counted for each page
sum_indirect : (indirect g : ℕ → ℕ) (blocks : ℕ) → sum_below (λ m. if is_indirect indirect m then g m else 0) blocks ≤ sum_below (λ p. if is_pointer blocks (indirect p) then g (indirect p - 1) else 0) 1058
sum_indirect indirect g blocks =
    let a = sum_le (λ m. if is_indirect indirect m then g m else 0) (λ m. sum_below (λ p. if indirect p == m + 1 then g m else 0) 1058) blocks (λ m lt. each m (is_indirect indirect m) refl) in
    let b = sum_swap (λ m p. if indirect p == m + 1 then g m else 0) blocks 1058 in
    let c = sum_le (λ p. sum_below (λ m. if indirect p == m + 1 then g m else 0) blocks) (λ p. if is_pointer blocks (indirect p) then g (indirect p - 1) else 0) 1058 (λ p lt. sum_behind (indirect p) g blocks) in
    omega (arith, a, b, c)
  where
    each : (m : ℕ) → (a : Bool) → is_indirect indirect m ≡ a → (if a then g m else 0) ≤ sum_below (λ p. if indirect p == m + 1 then g m else 0) 1058
    each m true e =
        let found = indirect_some indirect m e in
        let p = found.0 in
        let f = sum_one (λ q. if indirect q == m + 1 then g m else 0) p 1058 found.1 in
        let is = found.2 in
        let on : (indirect p == m + 1) ≡ true = grind (arith, nat_tests, is) in
        let here : (if indirect p == m + 1 then g m else 0) ≡ g m = (λ i. if on i then g m else 0) in
        omega (arith, f, here)
    each m false e = omega arith

-- how many pointers of an anode aren't zero
abbrev some_pointer : Node → ℕ → Bool
some_pointer node w = not (pointer_of node w == 0)

names_sum : (node : Node) (blocks : ℕ) → sum_below (λ b. names node b) blocks ≤ pointers_set node
unfolding names
names_sum node blocks =
    let a = sum_same (λ b. names node b) (λ b. sum_below (λ w. one (pointer_of node w == b + 1)) 68) blocks (λ b lt. many_sum (λ w. pointer_of node w == b + 1) 68) in
    let b = sum_swap (λ b w. one (pointer_of node w == b + 1)) blocks 68 in
    let c = sum_le (λ w. sum_below (λ b. one (pointer_of node w == b + 1)) blocks) (λ w. one (not (pointer_of node w == 0))) 68 (λ w lt. each (pointer_of node w)) in
    let d = many_sum (λ w. not (pointer_of node w == 0)) 68 in
    omega (arith, a, b, c, d)
  where
    each : (c : ℕ) → sum_below (λ b. one (c == b + 1)) blocks ≤ one (not (c == 0))
    each c = by (c == 0) refl
      where
        by : (a : Bool) → (c == 0) ≡ a → sum_below (λ b. one (c == b + 1)) blocks ≤ one (not a)
        by true e =
            let none = sum_zero (λ b. one (c == b + 1)) blocks (λ b lt. (let is : c ≡ 0 = grind (arith, nat_tests, e) in let off : (c == b + 1) ≡ false = grind (arith, nat_tests, is) in λ i. one (off i))) in
            omega (arith, none)
        by false e =
            let a = many_le (λ m. c == m + 1) (λ m. m == c - 1) blocks (λ m lt on. (let is : c ≡ m + 1 = grind (arith, nat_tests, on) in let f : m ≡ c - 1 = omega (arith, is) in grind (arith, nat_tests, f))) in
            let b = single_many (c - 1) blocks in
            let d = many_sum (λ m. c == m + 1) blocks in
            omega (arith, a, b, d)

-- of which those past the end of the bytes are
past_many : (node : Node) → IsTrimmed node → how_many (λ i. some_pointer node (pointer_at i)) 64 ≤ (bytes_of node + 1023) / 1024
past_many node trimmed =
    let a = many_le (λ i. not (pointer_of node (pointer_at i) == 0)) (λ i. nat_lt i ((bytes_of node + 1023) / 1024)) 64 (λ i lt on. inside i lt on (nat_lt (1024 * i) (bytes_of node)) refl) in
    let b = lt_many ((bytes_of node + 1023) / 1024) 64 in
    omega (arith, a, b)
  where
    lower : (i n : ℕ) → 1024 * i < n → nat_lt i ((n + 1023) / 1024) ≡ true
    lower i n lt = let f : i < (n + 1023) / 1024 = omega (arith, lt) in grind (arith, nat_tests, f)

    inside : (i : ℕ) → i < 64 → not (pointer_of node (pointer_at i) == 0) ≡ true → (a : Bool) → nat_lt (1024 * i) (bytes_of node) ≡ a → nat_lt i ((bytes_of node + 1023) / 1024) ≡ true
    inside i lt on true e = lower i (bytes_of node) (grind (arith, nat_tests, e))
    inside i lt on false e =
        let high : bytes_of node ≤ 1024 * i = grind (arith, nat_tests, e) in
        let none = trimmed i lt high in
        absurd (let off : not (0 == 0) ≡ true = (λ j. not (sym none j == 0)) ∙ on in grind (arith, off))

one_most : (t : ℕ → Bool) (n : ℕ) → how_many t n ≤ n
unfolding how_many
one_most t zero = omega arith
one_most t (suc n) = let rest = one_most t n in by (t n) rest
  where
    by : (b : Bool) → how_many t n ≤ n → how_many t n + one b ≤ suc n
    by true rest = omega (arith, rest)
    by false rest = omega (arith, rest)

pointers_most : (node : Node) → IsTrimmed node → pointers_set node ≤ 4 + (bytes_of node + 1023) / 1024
pointers_most node trimmed =
    let t : ℕ → Bool = some_pointer node in
    let a = many_split t 3 65 in
    let b = many_split (λ j. t (3 + j)) 12 53 in
    let c = many_split (λ j. t (3 + (12 + j))) 1 52 in
    let d = many_split (λ i. t (pointer_at i)) 12 52 in
    let e = one_most t 3 in
    let f = one_most (λ j. t (3 + (12 + j))) 1 in
    let g = same_many (λ i. t (pointer_at i)) (λ j. t (3 + j)) 12 (λ i lt. front i lt) in
    let h = same_many (λ i. t (pointer_at (12 + i))) (λ j. t (3 + (12 + (1 + j)))) 52 (λ i lt. back i) in
    let k = past_many node trimmed in
    omega (arith, a, b, c, d, e, f, g, h, k)
  where
    front : (i : ℕ) → i < 12 → some_pointer node (pointer_at i) ≡ some_pointer node (3 + i)
    front i lt = (let on : nat_lt i 12 ≡ true = grind (arith, nat_tests, lt) in let e : i + 3 ≡ 3 + i = omega arith in
        (λ j. some_pointer node (if on j then i + 3 else i + 4)) ∙ (λ j. some_pointer node (e j)))

    back : (i : ℕ) → some_pointer node (pointer_at (12 + i)) ≡ some_pointer node (3 + (12 + (1 + i)))
    back i = (let off : nat_lt (12 + i) 12 ≡ false = grind (arith, nat_tests) in let e : 12 + i + 4 ≡ 3 + (12 + (1 + i)) = omega arith in
        (λ j. some_pointer node (if off j then 12 + i + 3 else 12 + i + 4)) ∙ (λ j. some_pointer node (e j)))

module _ (blocks : ℕ) (pages : ℕ → List ℕ) (image : List ℕ) where
  -- the pointers of one page's anode
  page_sum : (p : ℕ) → sum_below (λ b. page_names blocks pages image b p) blocks
      + (if is_pointer blocks (indirect_of blocks pages image p) then sum_below (λ b. map_names blocks image b (indirect_of blocks pages image p - 1)) blocks else 0)
      ≤ (if is_anode p then pointers_set (node_of blocks image (pages p)) else 0)
  page_sum p = by (is_anode p) refl
    where
      all : is_anode p ≡ true → (a : Bool) → is_pointer blocks (pointer_of (node_of blocks image (pages p)) 15) ≡ a
          → sum_below (λ b. names_below 16 (node_of blocks image (pages p)) b) blocks
          + (if a then sum_below (λ b. map_names blocks image b (pointer_of (node_of blocks image (pages p)) 15 - 1)) blocks else 0)
          ≡ sum_below (λ b. names (node_of blocks image (pages p)) b) blocks
      all is true e =
          let facts = pointer_facts blocks (pointer_of (node_of blocks image (pages p)) 15) e in
          let some = facts.0 in
          let m : ℕ = pointer_of (node_of blocks image (pages p)) 15 - 1 in
          let there : pointer_of (node_of blocks image (pages p)) 15 ≡ m + 1 = omega (arith, some) in
          let f = sum_same (λ b. names (node_of blocks image (pages p)) b) (λ b. names_below 16 (node_of blocks image (pages p)) b + map_names blocks image b m) blocks (λ b lt. names_valid blocks image (pages p) m b there) in
          let g = sum_plus (λ b. names_below 16 (node_of blocks image (pages p)) b) (λ b. map_names blocks image b m) blocks in
          omega (arith, f, g)
      all is false e =
          let f = sum_same (λ b. names (node_of blocks image (pages p)) b) (λ b. names_below 16 (node_of blocks image (pages p)) b) blocks (λ b lt. names_invalid blocks image (pages p) b e) in
          omega (arith, f)

      by : (a : Bool) → is_anode p ≡ a
          → sum_below (λ b. if a then names_below 16 (node_of blocks image (pages p)) b else 0) blocks
          + (if is_pointer blocks (if a then pointer_of (node_of blocks image (pages p)) 15 else 0) then sum_below (λ b. map_names blocks image b ((if a then pointer_of (node_of blocks image (pages p)) 15 else 0) - 1)) blocks else 0)
          ≤ (if a then pointers_set (node_of blocks image (pages p)) else 0)
      by true e =
          let f = all e (is_pointer blocks (pointer_of (node_of blocks image (pages p)) 15)) refl in
          let g = names_sum (node_of blocks image (pages p)) blocks in
          omega (arith, f, g)
      by false e =
          let f = sum_zero (λ b. 0) blocks (λ b lt. refl) in
          omega (arith, f)

  -- and all together
  pub total_sum : sum_below (λ b. pointers_to blocks pages image b) blocks ≤ sum_below (λ p. if is_anode p then pointers_set (node_of blocks image (pages p)) else 0) 1058
  total_sum =
      let a = sum_plus (λ b. sum_below (page_names blocks pages image b) 1058) (λ b. sum_below (λ m. if is_indirect (indirect_of blocks pages image) m then map_names blocks image b m else 0) blocks) blocks in
      let b = sum_swap (λ b p. page_names blocks pages image b p) blocks 1058 in
      let c = sum_swap (λ b m. if is_indirect (indirect_of blocks pages image) m then map_names blocks image b m else 0) blocks blocks in
      let d = sum_same (λ m. sum_below (λ b. if is_indirect (indirect_of blocks pages image) m then map_names blocks image b m else 0) blocks) (λ m. if is_indirect (indirect_of blocks pages image) m then sum_below (λ b. map_names blocks image b m) blocks else 0) blocks
      (λ m lt. out m (is_indirect (indirect_of blocks pages image) m)) in
      let e = sum_indirect (indirect_of blocks pages image) (λ m. sum_below (λ b. map_names blocks image b m) blocks) blocks in
      let f = sum_plus (λ p. sum_below (λ b. page_names blocks pages image b p) blocks) (λ p. if is_pointer blocks (indirect_of blocks pages image p) then sum_below (λ b. map_names blocks image b (indirect_of blocks pages image p - 1)) blocks else 0) 1058 in
      let g = sum_le (λ p. sum_below (λ b. page_names blocks pages image b p) blocks + (if is_pointer blocks (indirect_of blocks pages image p) then sum_below (λ b. map_names blocks image b (indirect_of blocks pages image p - 1)) blocks else 0))
      (λ p. if is_anode p then pointers_set (node_of blocks image (pages p)) else 0) 1058 (λ p lt. page_sum p) in
      omega (arith, a, b, c, d, e, f, g)
    where
      out : (m : ℕ) (a : Bool) → sum_below (λ b. if a then map_names blocks image b m else 0) blocks ≡ (if a then sum_below (λ b. map_names blocks image b m) blocks else 0)
      out m true = refl
      out m false = sum_zero (λ b. 0) blocks (λ b lt. refl)

-- a block that is free counts no pointer, and others count some
pub room_left : (anodes : ℕ → Anode) (state : State) (image : List ℕ) → HoldsNow anodes state image
    → ((b : ℕ) → b < state.superblock.blocks → count_now state image b ≡ 0 → count_settled state image b ≡ 0)
    → state.superblock.blocks ≤ free_blocks state image + all_pointers state image
unfolding count_now
room_left anodes state image held settled =
    let blocks : ℕ = state.superblock.blocks in
    let test : ℕ → Bool = λ b. (count_now state image b == 0) && (count_settled state image b == 0) in
    let a = many_not test blocks in
    let b = many_sum (λ x. not (test x)) blocks in
    let c = sum_le (λ x. one (not (test x))) (λ x. count_now state image x) blocks (λ x lt. used x lt (count_now state image x == 0) refl) in
    let d = sum_same (λ x. count_now state image x) (λ x. pointers_to blocks _ image x) blocks (λ x lt. held.counts x lt) in
    let e = total_sum blocks (λ p. page_of state.entries state.puts image p) image in
    omega (arith, a, b, c, d, e)
  where
    used : (x : ℕ) → x < state.superblock.blocks → (z : Bool) → (count_now state image x == 0) ≡ z → one (not (z && (count_settled state image x == 0))) ≤ count_now state image x
    used x lt true e =
        let none : count_now state image x ≡ 0 = grind (arith, nat_tests, e) in
        let also = settled x lt none in
        let on : (count_settled state image x == 0) ≡ true = grind (arith, nat_tests, also) in
        let f : one (not (count_settled state image x == 0)) ≡ 0 = (λ i. one (not (on i))) in
        omega (arith, f)
    used x lt false e =
        let some : 1 ≤ count_now state image x = grind (arith, nat_tests, e) in
        omega (arith, some)

-- the pointers of one anode
module _ (anodes : ℕ → Anode) (page : ℕ) (state : State) (image : List ℕ) (is : is_anode page ≡ true) (held : HoldsNow anodes state image) where
  pub pointers_free : (anodes page).kind ≡ 0 → pointers_set (node_in state image page) ≡ 0
  pointers_free free = let none = held.bare page is free in none_many (λ w. not (pointer_of (node_in state image page) w == 0)) 68 (λ w lt. (let z = none w lt in λ i. not (z i == 0)))

  pub pointers_few : pointers_set (node_in state image page) ≤ (if (anodes page).kind == 0 then 0 else 68)
  pointers_few = by ((anodes page).kind == 0) refl
    where
      by : (a : Bool) → ((anodes page).kind == 0) ≡ a → pointers_set (node_in state image page) ≤ (if a then 0 else 68)
      by true e = let none = pointers_free (grind (arith, nat_tests, e)) in omega (arith, none)
      by false e = one_most (some_pointer (node_in state image page)) 68

  pub pointers_trimmed : IsTrimmed (node_in state image page) → pointers_set (node_in state image page) ≤ blocks_most (anodes page)
  pointers_trimmed trimmed = by ((anodes page).kind == 0) refl
    where
      by : (a : Bool) → ((anodes page).kind == 0) ≡ a → pointers_set (node_in state image page) ≤ (if a then 0 else 4 + (byte_length (anodes page).kind (anodes page).length + 1023) / 1024)
      by true e = let none = pointers_free (grind (arith, nat_tests, e)) in omega (arith, none)
      by false e =
          let f = pointers_most (node_in state image page) trimmed in
          let g = held.anode page is in
          let same : bytes_of (node_in state image page) ≡ byte_length (anodes page).kind (anodes page).length = (λ i. byte_length (g i).kind (g i).length) in
          omega (arith, f, same)
