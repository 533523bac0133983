-- The pointers of one page's anode beside those of all others.
use Rattle.std.proofs.Common.{◌≡◌, ◌≢◌, ◌<◌, ◌≤◌, ◌⊎◌, ℕ, ◌+◌, ◌-◌, ◌*◌, ◌%◌, List, get_or, refl, sym, ◌∙◌, inl, inr, arith}
use Rattle.std.specs.Prelude.{Bool, true, false, ◌==◌, ◌&&◌, not, if◌then◌else◌, nat_lt, nat_le, replicate}
use Rattle.std.proofs.lemmas.Bool.{cases_eq}
use Rattle.std.proofs.lemmas.Bool.Decides.{nat_tests}
use Rattle.std.proofs.lemmas.List.{get_or-replicate}
use Rattle.base_types.specs.Image.{bytes_from}
use Rattle.disk_layout.specs.Numbers.{number_at}
use Rattle.disk_layout.specs.Places.{block_start, pages_of}
use Rattle.disk_anode.specs.Node.{pointer_of, is_pointer, map_under, names, names_below, node_of}
use Rattle.disk_space.specs.Counts.{count_page, count_place}
use Rattle.disk_anode.specs.Anode.{Anode}
use Rattle.disk_anode.specs.Room.{how_many}
use Rattle.disk_anode.specs.declared.node.Node.{Node}
use Rattle.disk_anode.proofs.Counting.{same_many, one_of_many, none_many}
use Rattle.disk_anode.proofs.Cells.{pointer_facts, named_some}
use Rattle.disk_anode.proofs.Copied.{names_front}
use Rattle.disk_anode.proofs.Pointers.{pointer_front, pointer_back}
use Rattle.disk_objects.specs.Holds.{is_anode, page_names, indirect_of, map_names, is_indirect, total, pointers_to, Holds}
use Rattle.disk_objects.proofs.Sums.{sum_zero, many_split}
use Rattle.disk_objects.proofs.Totals.{beside, beside_here, beside_other, own_map, indirect_beside, beside_indirect, total_split, total_front, total_both}

middle : (a b c : Bool) → (a && b && c) ≡ true → b ≡ true
middle true true c is = refl
middle true false c is = absurd (grind (arith, is))
middle false b c is = absurd (grind (arith, is))

pub anode_low : (p : ℕ) → is_anode p ≡ true → p < 1058
anode_low p is = let e = middle (nat_le 2 p) (nat_lt p 1058) (nat_le 2 ((p - 2) % 66)) is in grind (arith, nat_tests, e)

-- the pointers of an indirect block
map_at : (blocks : ℕ) (image bytes : List ℕ) → map_under blocks image (pointer_of (node_of blocks image bytes) 15) ≡ (node_of blocks image bytes).map
map_at blocks image bytes = λ i. map_under blocks image (pointer_front (node_of blocks image bytes) 15 (omega arith) i)

pub map_pointer : (blocks : ℕ) (image bytes : List ℕ) (m j : ℕ) → pointer_of (node_of blocks image bytes) 15 ≡ m + 1 → number_at 4 (4 * j) (map_under blocks image (m + 1)) ≡ pointer_of (node_of blocks image bytes) (16 + j)
map_pointer blocks image bytes m j is =
    (λ i. number_at 4 (4 * j) (map_under blocks image (sym is i)))
    ∙ (λ i. number_at 4 (4 * j) (map_at blocks image bytes i))
    ∙ (let e : 4 * j ≡ 4 * (16 + j - 16) = omega arith in λ i. number_at 4 (e i) (node_of blocks image bytes).map)
    ∙ sym (pointer_back (node_of blocks image bytes) (16 + j) (omega arith))

names_split : (node : Node) (b : ℕ) → names node b ≡ names_below 16 node b + how_many (λ j. pointer_of node (16 + j) == b + 1) 52
unfolding names names_below
names_split node b = many_split (λ w. pointer_of node w == b + 1) 16 52

pub names_valid : (blocks : ℕ) (image bytes : List ℕ) (m b : ℕ) → pointer_of (node_of blocks image bytes) 15 ≡ m + 1
    → names (node_of blocks image bytes) b ≡ names_below 16 (node_of blocks image bytes) b + map_names blocks image b m
names_valid blocks image bytes m b is =
    let e = names_split (node_of blocks image bytes) b in
    let f = same_many (λ j. number_at 4 (4 * j) (map_under blocks image (m + 1)) == b + 1) (λ j. pointer_of (node_of blocks image bytes) (16 + j) == b + 1) 52 (λ j lt. (let g = map_pointer blocks image bytes m j is in λ i. g i == b + 1)) in
    omega (arith, e, f)

pub names_invalid : (blocks : ℕ) (image bytes : List ℕ) (b : ℕ) → is_pointer blocks (pointer_of (node_of blocks image bytes) 15) ≡ false → names (node_of blocks image bytes) b ≡ names_below 16 (node_of blocks image bytes) b
names_invalid blocks image bytes b is =
    let node = node_of blocks image bytes in
    names_front node node refl (λ k lt. (λ i. get_or (sym (map_at blocks image bytes) i) k 0)
    ∙ zero k lt (is_pointer blocks (pointer_of node 15)) is) b
  where
    zero : (k : ℕ) → k < 1024 → (a : Bool) → is_pointer blocks (pointer_of (node_of blocks image bytes) 15) ≡ false → get_or (map_under blocks image (pointer_of (node_of blocks image bytes) 15)) k 0 ≡ 0
    zero k lt a e = (let none : map_under blocks image (pointer_of (node_of blocks image bytes) 15) ≡ replicate 1024 0 = none_under (pointer_of (node_of blocks image bytes) 15) e in (λ i. get_or (none i) k 0) ∙ get_or-replicate 1024 k 0 0 lt)
      where
        none_under : (pointer : ℕ) → is_pointer blocks pointer ≡ false → map_under blocks image pointer ≡ replicate 1024 0
        none_under pointer off = λ i. if off i then bytes_from image (block_start (pages_of blocks) (pointer - 1)) 1024 else replicate 1024 0

pub below_named : (node : Node) (w b : ℕ) → w < 16 → pointer_of node w ≡ b + 1 → 1 ≤ names_below 16 node b
unfolding names_below
below_named node w b lt is = let e : (pointer_of node w == b + 1) ≡ true = grind (arith, nat_tests, is) in one_of_many (λ v. pointer_of node v == b + 1) w 16 lt e

pub below_none : (node : Node) (b : ℕ) → ((w : ℕ) → w < 16 → pointer_of node w ≢ b + 1) → names_below 16 node b ≡ 0
unfolding names_below
below_none node b none = none_many (λ w. pointer_of node w == b + 1) 16 (λ w lt. (let off = none w lt in grind (arith, nat_tests, off)))

-- one page's pointers, with those of its indirect block where no other page has this
abbrev pub own_of : ℕ → (ℕ → List ℕ) → List ℕ → ℕ → ℕ → ℕ
own_of blocks pages image page b = page_names blocks pages image b page + own_map (indirect_of blocks pages image) (map_names blocks image b) page blocks

-- those of all other pages
abbrev pub rest_of : ℕ → (ℕ → List ℕ) → List ℕ → ℕ → ℕ → ℕ
rest_of blocks pages image page b = total (beside page (page_names blocks pages image b)) (beside page (indirect_of blocks pages image)) (map_names blocks image b) blocks

-- whether another page has the same indirect block
abbrev pub with_others : ℕ → (ℕ → List ℕ) → List ℕ → ℕ → ℕ → Bool
with_others blocks pages image page m = is_indirect (beside page (indirect_of blocks pages image)) m

module _ (blocks : ℕ) (pages : ℕ → List ℕ) (image : List ℕ) (page : ℕ) (is : is_anode page ≡ true) where
  abbrev node : Node
  node = node_of blocks image (pages page)

  pub indirect_here : indirect_of blocks pages image page ≡ pointer_of (node_of blocks image (pages page)) 15
  indirect_here = λ i. if is i then pointer_of (node_of blocks image (pages page)) 15 else 0

  front_here : (b : ℕ) → page_names blocks pages image b page ≡ names_below 16 (node_of blocks image (pages page)) b
  front_here b = λ i. if is i then names_below 16 (node_of blocks image (pages page)) b else 0

  pub all_split : (b : ℕ) → pointers_to blocks pages image b ≡ rest_of blocks pages image page b + own_of blocks pages image page b
  all_split b = total_split (page_names blocks pages image b) (indirect_of blocks pages image) (map_names blocks image b) page blocks (anode_low page is)

  pub own_invalid : (b : ℕ) → is_pointer blocks (pointer_of (node_of blocks image (pages page)) 15) ≡ false → own_of blocks pages image page b ≡ names (node_of blocks image (pages page)) b
  own_invalid b off =
      let e = front_here b in
      let f = names_invalid blocks image (pages page) b off in
      let none : own_map (indirect_of blocks pages image) (map_names blocks image b) page blocks ≡ 0 = (λ i. if is_pointer blocks (indirect_here i) && not (with_others blocks pages image page (indirect_of blocks pages image page - 1)) then map_names blocks image b (indirect_of blocks pages image page - 1) else 0)
      ∙ (λ i. if off i && not (with_others blocks pages image page (indirect_of blocks pages image page - 1)) then map_names blocks image b (indirect_of blocks pages image page - 1) else 0) in
      omega (arith, e, f, none)

  pub own_alone : (m b : ℕ) → pointer_of (node_of blocks image (pages page)) 15 ≡ m + 1 → m < blocks → with_others blocks pages image page m ≡ false → own_of blocks pages image page b ≡ names (node_of blocks image (pages page)) b
  own_alone m b there low off =
      let e = front_here b in
      let f = names_valid blocks image (pages page) m b there in
      let all : indirect_of blocks pages image page ≡ m + 1 = indirect_here ∙ there in
      let one_less : m + 1 - 1 ≡ m = omega arith in
      let on : is_pointer blocks (m + 1) ≡ true = grind (arith, nat_tests, low) in
      let mine : own_map (indirect_of blocks pages image) (map_names blocks image b) page blocks ≡ map_names blocks image b m =
      (λ i. if is_pointer blocks (all i) && not (with_others blocks pages image page (all i - 1)) then map_names blocks image b (all i - 1) else 0)
      ∙ (λ i. if on i && not (with_others blocks pages image page (one_less i)) then map_names blocks image b (one_less i) else 0)
      ∙ (λ i. if not (off i) then map_names blocks image b m else 0) in
      omega (arith, e, f, mine)

  pub own_shared : (m b : ℕ) → pointer_of (node_of blocks image (pages page)) 15 ≡ m + 1 → m < blocks → with_others blocks pages image page m ≡ true → own_of blocks pages image page b ≡ names_below 16 (node_of blocks image (pages page)) b
  own_shared m b there low on_others =
      let e = front_here b in
      let all : indirect_of blocks pages image page ≡ m + 1 = indirect_here ∙ there in
      let one_less : m + 1 - 1 ≡ m = omega arith in
      let on : is_pointer blocks (m + 1) ≡ true = grind (arith, nat_tests, low) in
      let none : own_map (indirect_of blocks pages image) (map_names blocks image b) page blocks ≡ 0 =
      (λ i. if is_pointer blocks (all i) && not (with_others blocks pages image page (all i - 1)) then map_names blocks image b (all i - 1) else 0)
      ∙ (λ i. if on i && not (with_others blocks pages image page (one_less i)) then map_names blocks image b (one_less i) else 0)
      ∙ (λ i. if not (on_others i) then map_names blocks image b m else 0) in
      omega (arith, e, none)

  pub own_some : (w b : ℕ) → w < 16 → pointer_of (node_of blocks image (pages page)) w ≡ b + 1 → 1 ≤ own_of blocks pages image page b
  own_some w b lt there = let e = front_here b in let f = below_named (node_of blocks image (pages page)) w b lt there in omega (arith, e, f)

-- an indirect block that another page has
pub other_page : (blocks : ℕ) (pages : ℕ → List ℕ) (image : List ℕ) (page m : ℕ) → with_others blocks pages image page m ≡ true
    → (q : ℕ) × (is_anode q ≡ true) × (q ≢ page) × (pointer_of (node_of blocks image (pages q)) 15 ≡ m + 1)
other_page blocks pages image page m on = by (indirect_beside (indirect_of blocks pages image) page m on)
  where
    at : (q : ℕ) → (a : Bool) → is_anode q ≡ a → (if a then pointer_of (node_of blocks image (pages q)) 15 else 0) ≡ m + 1 → (is_anode q ≡ true) × (pointer_of (node_of blocks image (pages q)) 15 ≡ m + 1)
    at q true e is = (e, is)
    at q false e is = absurd (omega (arith, is))

    by : (q : ℕ) × (q < 1058) × (q ≢ page) × (indirect_of blocks pages image q ≡ m + 1) → (q : ℕ) × (is_anode q ≡ true) × (q ≢ page) × (pointer_of (node_of blocks image (pages q)) 15 ≡ m + 1)
    by (q, lt, apart, is) = let f = at q (is_anode q) refl is in (q, f.0, apart, f.1)

pub page_other : (blocks : ℕ) (pages : ℕ → List ℕ) (image : List ℕ) (page q m : ℕ) → is_anode q ≡ true → q ≢ page → pointer_of (node_of blocks image (pages q)) 15 ≡ m + 1 → with_others blocks pages image page m ≡ true
page_other blocks pages image page q m is apart there = beside_indirect (indirect_of blocks pages image) page q m (anode_low q is) apart (indirect_here blocks pages image q is ∙ there)

-- what another page's anode names is among the rest
pub rest_names : (blocks : ℕ) (pages : ℕ → List ℕ) (image : List ℕ) (page q b : ℕ) → is_anode q ≡ true → q ≢ page → names (node_of blocks image (pages q)) b ≤ rest_of blocks pages image page b
rest_names blocks pages image page q b is apart = by (is_pointer blocks (pointer_of (node_of blocks image (pages q)) 15)) refl
  where
    front : beside page (page_names blocks pages image b) q ≡ names_below 16 (node_of blocks image (pages q)) b
    front = beside_other page q (page_names blocks pages image b) apart ∙ front_here blocks pages image q is b

    by : (a : Bool) → is_pointer blocks (pointer_of (node_of blocks image (pages q)) 15) ≡ a → names (node_of blocks image (pages q)) b ≤ rest_of blocks pages image page b
    by true e =
        let facts = pointer_facts blocks (pointer_of (node_of blocks image (pages q)) 15) e in
        let some = facts.0 in let within = facts.1 in
        let m : ℕ = pointer_of (node_of blocks image (pages q)) 15 - 1 in
        let there : pointer_of (node_of blocks image (pages q)) 15 ≡ m + 1 = omega (arith, some) in
        let f = names_valid blocks image (pages q) m b there in
        let g = total_both (beside page (page_names blocks pages image b)) (beside page (indirect_of blocks pages image)) (map_names blocks image b) q m blocks (anode_low q is) (omega (arith, some, within)) (page_other blocks pages image page q m is apart there) in
        omega (arith, f, g, front)
    by false e =
        let f = names_invalid blocks image (pages q) b e in
        let g = total_front (beside page (page_names blocks pages image b)) (beside page (indirect_of blocks pages image)) (map_names blocks image b) q blocks (anode_low q is) in
        omega (arith, f, g, front)

-- a block that no other page's anode names
pub rest_none : (blocks : ℕ) (pages : ℕ → List ℕ) (image : List ℕ) (page b : ℕ) → ((q w : ℕ) → is_anode q ≡ true → q ≢ page → w < 68 → pointer_of (node_of blocks image (pages q)) w ≢ b + 1) → rest_of blocks pages image page b ≡ 0
rest_none blocks pages image page b none =
    let a = sum_zero (beside page (page_names blocks pages image b)) 1058 (λ p lt. front p (cases_eq p page)) in
    let c = sum_zero (λ m. if with_others blocks pages image page m then map_names blocks image b m else 0) blocks (λ m lt. map m (with_others blocks pages image page m) refl) in
    omega (arith, a, c)
  where
    front : (p : ℕ) → (p ≡ page) ⊎ (p ≢ page) → beside page (page_names blocks pages image b) p ≡ 0
    front p (inl here) = (λ i. beside page (page_names blocks pages image b) (here i)) ∙ beside_here page (page_names blocks pages image b)
    front p (inr apart) = beside_other page p (page_names blocks pages image b) apart ∙ by (is_anode p) refl
      where
        by : (a : Bool) → is_anode p ≡ a → (if a then names_below 16 (node_of blocks image (pages p)) b else 0) ≡ 0
        by true e = below_none (node_of blocks image (pages p)) b (λ w lt. none p w e apart (omega arith))
        by false e = refl

    map : (m : ℕ) → (a : Bool) → with_others blocks pages image page m ≡ a → (if a then map_names blocks image b m else 0) ≡ 0
    map m true e =
        let found = other_page blocks pages image page m e in
        none_many (λ j. number_at 4 (4 * j) (map_under blocks image (m + 1)) == b + 1) 52 (λ j lt.
        let off = none found.0 (16 + j) found.1 found.2 (omega arith) in
        let g = map_pointer blocks image (pages found.0) m j found.3 in
        (λ i. g i == b + 1) ∙ grind (arith, nat_tests, off))
    map m false e = refl

-- where pages and blocks hold anodes, an indirect block's count tells whether another page has it
module _ (anodes : ℕ → Anode) (blocks : ℕ) (pages : ℕ → List ℕ) (image : List ℕ) (held : Holds anodes blocks pages image) (page : ℕ) (is : is_anode page ≡ true) where
  pub counts_are : (b : ℕ) → b < blocks → number_at 2 (count_place b) (pages (count_page b)) ≡ rest_of blocks pages image page b + own_of blocks pages image page b
  counts_are b lt = held.counts b lt ∙ all_split blocks pages image page is b

  pub shared_is : (m : ℕ) → pointer_of (node_of blocks image (pages page)) 15 ≡ m + 1 → m < blocks → nat_lt 1 (number_at 2 (count_place m) (pages (count_page m))) ≡ with_others blocks pages image page m
  shared_is m there low = by (with_others blocks pages image page m) refl
    where
      by : (a : Bool) → with_others blocks pages image page m ≡ a → nat_lt 1 (number_at 2 (count_place m) (pages (count_page m))) ≡ a
      by true e =
          let found = other_page blocks pages image page m e in
          let f = rest_names blocks pages image page found.0 m found.1 found.2 in
          let g = named_some (node_of blocks image (pages found.0)) 15 m (omega arith) found.3 in
          let h = own_some blocks pages image page is 15 m (omega arith) there in
          let c = counts_are m low in
          let two : 1 < number_at 2 (count_place m) (pages (count_page m)) = omega (arith, f, g, h, c) in
          grind (arith, nat_tests, two)
      by false e =
          let c = counts_are m low in
          let f = own_alone blocks pages image page is m m there low e in
          let g = held.once page m is low in
          let r = rest_none blocks pages image page m (λ q w a apart lt named. off q w a apart lt named (cases_eq w 15)) in
          let few : number_at 2 (count_place m) (pages (count_page m)) ≤ 1 = omega (arith, c, f, g, r) in
          grind (arith, nat_tests, few)
        where
          off : (q w : ℕ) → is_anode q ≡ true → q ≢ page → w < 68 → pointer_of (node_of blocks image (pages q)) w ≡ m + 1 → (w ≡ 15) ⊎ (w ≢ 15) → ⊥
          off q w a apart lt named (inl here) =
              (let on = page_other blocks pages image page q m a apart ((λ i. pointer_of (node_of blocks image (pages q)) (sym here i)) ∙ named) in grind (arith, e, on))
          off q w a apart lt named (inr other) = held.apart page q w m is a low there lt other named

  -- the pointers that a call counts as the page's own
  pub own_is : (b : ℕ) (shared : Bool) → (is_pointer blocks (pointer_of (node_of blocks image (pages page)) 15) && nat_lt 1 (number_at 2 (count_place (pointer_of (node_of blocks image (pages page)) 15 - 1)) (pages (count_page (pointer_of (node_of blocks image (pages page)) 15 - 1))))) ≡ shared
      → own_of blocks pages image page b ≡ (if shared then names_below 16 (node_of blocks image (pages page)) b else names (node_of blocks image (pages page)) b)
  own_is b shared is_shared = by (is_pointer blocks (pointer_of (node_of blocks image (pages page)) 15)) refl shared is_shared
    where
      at : (m : ℕ) → pointer_of (node_of blocks image (pages page)) 15 ≡ m + 1 → m < blocks → (shared : Bool) → with_others blocks pages image page m ≡ shared
          → own_of blocks pages image page b ≡ (if shared then names_below 16 (node_of blocks image (pages page)) b else names (node_of blocks image (pages page)) b)
      at m there low true e = own_shared blocks pages image page is m b there low e
      at m there low false e = own_alone blocks pages image page is m b there low e

      by : (a : Bool) → is_pointer blocks (pointer_of (node_of blocks image (pages page)) 15) ≡ a → (shared : Bool)
          → (a && nat_lt 1 (number_at 2 (count_place (pointer_of (node_of blocks image (pages page)) 15 - 1)) (pages (count_page (pointer_of (node_of blocks image (pages page)) 15 - 1))))) ≡ shared
          → own_of blocks pages image page b ≡ (if shared then names_below 16 (node_of blocks image (pages page)) b else names (node_of blocks image (pages page)) b)
      by true e shared f =
          let facts = pointer_facts blocks (pointer_of (node_of blocks image (pages page)) 15) e in
          let some = facts.0 in let within = facts.1 in
          let m : ℕ = pointer_of (node_of blocks image (pages page)) 15 - 1 in
          let there : pointer_of (node_of blocks image (pages page)) 15 ≡ m + 1 = omega (arith, some) in
          let low : m < blocks = omega (arith, some, within) in
          at m there low shared (sym (shared_is m there low) ∙ f)
      by false e shared f = (λ i. own_invalid blocks pages image page is b e i) ∙ (λ i. if f i then names_below 16 (node_of blocks image (pages page)) b else names (node_of blocks image (pages page)) b)
