-- Anodes without blocks.
use Rattle.std.proofs.Common.{◌≡◌, ◌≢◌, ◌<◌, ◌≤◌, ◌⊎◌, ℕ, ◌+◌, ◌-◌, ◌*◌, ◌/◌, ◌%◌, List, [], length, get_or, refl, sym, ◌∙◌, ap, subst, inl, inr, arith}
use Rattle.std.specs.Prelude.{Bool, true, false, ◌==◌, ◌&&◌, if◌then◌else◌, nat_lt, min, replicate, set}
use Rattle.std.proofs.lemmas.Bool.Decides.{nat_tests}
use Rattle.std.proofs.lemmas.List.{get_or-replicate, get_or-set_other}
use Rattle.base_types.specs.Image.{byte_at, bytes_from, Torn}
use Rattle.base_outside.proofs.Image.{bytes_from-same}
use Rattle.disk_layout.specs.Numbers.{number_at}
use Rattle.disk_layout.proofs.Bytes.{number-same}
use Rattle.disk_log.specs.Puts.{page_of}
use Rattle.disk_log.specs.State.{State, with_put, put_of}
use Rattle.disk_space.specs.Counts.{count_page, count_now, count_settled}
use Rattle.disk_anode.specs.Node.{pointer_of, pointer_at, map_under, cell, names, no_names, node_in, SameFacts, HasNoBlocks}
use Rattle.disk_anode.specs.Anode.{Anode, anode_of, anode_in, byte_length, text_at, content_at, freed, bare_anode, IsPage, IsTidy, IsTrimmed, IsBare}
use Rattle.disk_anode.specs.Changes.{is_shared, Moves, Turns, Turned, Made}
use Rattle.disk_anode.specs.declared.node.Node.{Node}
use Rattle.disk_anode.proofs.Counting.{none_many}
use Rattle.disk_anode.proofs.Pointers.{pointer_front, pointer_back}
use Rattle.disk_anode.proofs.Cells.{alone_none, cell_none}
use Rattle.disk_anode.proofs.Laid.{content_high, pointer_in}
use Rattle.disk_anode.proofs.Moving.{now_same, settled_put}
use Rattle.disk_anode.proofs.Sharing.{turns_own}

pub zero_number : (at : ℕ) (xs : List ℕ) → ((j : ℕ) → j < 4 → byte_at xs (at + j) ≡ 0) → number_at 4 at xs ≡ 0
unfolding number_at
zero_number at xs zero = number-same 4 at 0 xs [] (λ j lt. zero j lt)

-- pointers that are zero
pub no_blocks : (node : Node) → ((k : ℕ) → 12 ≤ k → k < 76 → byte_at node.page k ≡ 0) → ((k : ℕ) → k < 1024 → get_or node.map k 0 ≡ 0) → HasNoBlocks node
no_blocks node page map w lt = by (nat_lt w 16) refl
  where
    by : (front : Bool) → nat_lt w 16 ≡ front → pointer_of node w ≡ 0
    by true e = let low : w < 16 = grind (arith, nat_tests) in pointer_front node w low ∙ zero_number (12 + 4 * w) node.page (λ j below. page (12 + 4 * w + j) (omega arith) (omega arith))
    by false e = let high : 16 ≤ w = grind (arith, nat_tests) in pointer_back node w high ∙ zero_number (4 * (w - 16)) node.map (λ j below. map (4 * (w - 16) + j) (omega arith))

pub names_none : (node : Node) → HasNoBlocks node → (b : ℕ) → names node b ≡ 0
unfolding names
names_none node none b = none_many (λ w. pointer_of node w == b + 1) 68 (λ w lt. (let e = none w lt in let f : (0 == b + 1) ≡ false = grind (arith, nat_tests) in (λ i. e i == b + 1) ∙ f))

-- a byte behind the first of an empty page
pub behind_first : (first k : ℕ) → 1 ≤ k → k < 512 → get_or (set (replicate 512 0) 0 first) k 0 ≡ 0
behind_first first k le lt = get_or-set_other (replicate 512 0) 0 k first 0 (λ e. absurd (omega (arith, e, le))) ∙ get_or-replicate 512 k 0 0 lt

-- a page with its texts
pub page_is : (kind unique : ℕ) (owner group first second third last : List ℕ) → length owner ≤ 60 → byte_at first 0 ≡ kind → ((k : ℕ) → 1 ≤ k → k < 512 → byte_at first k ≡ 0)
    → number_at 4 4 second ≡ unique → Torn 4 4 first second
    → byte_at third 76 ≡ length owner → text_at third 76 ≡ owner → ((k : ℕ) → (k < 76) ⊎ (76 + 1 + length owner ≤ k) → byte_at third k ≡ byte_at second k)
    → byte_at last 137 ≡ length group → text_at last 137 ≡ group → ((k : ℕ) → (k < 137) ⊎ (137 + 1 + length group ≤ k) → byte_at last k ≡ byte_at third k) → IsPage kind unique owner group last
page_is kind unique owner group first second third last short zeroth rest number torn size text beside size_2 text_2 beside_2 = record {
  kind_is = front 0 (omega arith) ∙ torn.before 0 (omega arith) ∙ zeroth;
  first = λ k some low. front k (omega arith) ∙ torn.before k low ∙ rest k some (omega arith);
  unique_is = number-same 4 4 4 last second (λ j lt. front (4 + j) (omega arith)) ∙ number;
  zero = λ k low high. front k high ∙ torn.after k low ∙ rest k (omega arith) (omega arith);
  owner_size = beside_2 76 (inl (omega arith)) ∙ size;
  owner_is = (let e = beside_2 76 (inl (omega arith)) in λ i. bytes_from last 77 (e i)) ∙ bytes_from-same last third 77 (byte_at third 76) (λ k low high. beside_2 k (inl (omega (arith, size)))) ∙ text;
  owner_rest = λ k le lt. beside_2 k (inl lt) ∙ beside k (inr (omega arith)) ∙ torn.after k (omega arith) ∙ rest k (omega arith) (omega arith);
  group_size = size_2;
  group_is = text_2;
  group_rest = λ k le lt. beside_2 k (inr (omega arith)) ∙ beside k (inr (omega arith)) ∙ torn.after k (omega arith) ∙ rest k (omega arith) lt;
}
  where
    front : (k : ℕ) → k < 76 → byte_at last k ≡ byte_at second k
    front k lt = beside_2 k (inl (omega arith)) ∙ beside k (inl lt)

-- an anode without blocks is tidy
pub tidy_page : (image : List ℕ) (node : Node) (kind unique : ℕ) (owner group : List ℕ) → IsPage kind unique owner group node.page → HasNoBlocks node → ((k : ℕ) → k < 1024 → byte_at node.map k ≡ 0) → IsTidy image node
tidy_page image node kind unique owner group is none zero = record {
  first = is.first;
  owner = λ k le lt. is.owner_rest k (let e = is.owner_size in omega (arith, e, le)) lt;
  group = λ k le lt. is.group_rest k (let e = is.group_size in omega (arith, e, le)) lt;
  behind = λ k le lt. zero k lt;
  past = λ dir k le lt e. cell_none image node (pointer_at (k / 1024)) (k % 1024) (none (pointer_at (k / 1024)) (pointer_in (k / 1024) (omega arith)).1);
  range = λ w lt. (let e = none w lt in omega (arith, e));
  lists = λ w lt empty. none w (omega (arith, lt));
}

-- and it has no pointer past its length
pub trimmed_none : (node : Node) → HasNoBlocks node → IsTrimmed node
trimmed_none node none i lt le = none (pointer_at i) (pointer_in i lt).1

-- the anode of such a page
pub anode_none : (image : List ℕ) (node : Node) (kind unique : ℕ) (owner group : List ℕ) → IsPage kind unique owner group node.page → HasNoBlocks node
    → anode_of image node ≡ record { kind = kind; unique = unique; length = 0; owner = owner; group = group; lists = λ which k. 0; content = λ k. 0 }
anode_none image node kind unique owner group is none =
    let size = zero_number 8 node.page (λ j lt. is.zero (8 + j) (omega arith) (omega arith)) in
    λ i. record {
      kind = is.kind_is i;
      unique = is.unique_is i;
      length = size i;
      owner = is.owner_is i;
      group = is.group_is i;
      lists = λ which k. list which k (nat_lt which 3) refl (nat_lt k 1024) i;
      content = λ k. ((λ j. content_at image node (byte_length (is.kind_is j) (size j)) k) ∙ content_high image node (byte_length kind 0) k (empty kind k)) i;
    }
  where
    list : (which k : ℕ) → (a : Bool) → nat_lt which 3 ≡ a → (b : Bool) → (if a && b then cell image node which k else 0) ≡ 0
    list which k true e true = let low : which < 3 = grind (arith, nat_tests) in cell_none image node which k (none which (omega arith))
    list which k true e false = refl
    list which k false e b = refl

    empty : (n k : ℕ) → byte_length n 0 ≤ k
    empty n k = by (n == 1)
      where
        by : (dir : Bool) → min (if dir then 72 * 0 else 0) 65536 ≤ k
        by true = omega arith
        by false = omega arith

-- a put of such a page
module _ (page slot kind unique : ℕ) (owner group bytes was : List ℕ) (is_page : IsPage kind unique owner group bytes) (mid new : State) (middle after : List ℕ) (low : page < 1058)
    (is : new ≡ with_put mid (put_of slot page was bytes))
    (pages : (image : List ℕ) (p : ℕ) → page_of new.entries new.puts image p ≡ (if page == p then bytes else page_of mid.entries mid.puts image p)) (quiet : after ≡ middle) where
  beside : (p : ℕ) → page ≢ p → page_of new.entries new.puts middle p ≡ page_of mid.entries mid.puts middle p
  beside p apart = (let e : (page == p) ≡ false = grind (arith, nat_tests) in pages middle p ∙ (λ i. if e i then bytes else page_of mid.entries mid.puts middle p))

  here : page_of new.entries new.puts after page ≡ bytes
  here = (let e : (page == page) ≡ true = grind (arith, nat_tests) in pages after page ∙ (λ i. if e i then bytes else page_of mid.entries mid.puts after page))

  page_here : IsPage kind unique owner group (page_of new.entries new.puts after page)
  page_here = subst (λ (l : List ℕ). IsPage kind unique owner group l) (sym here) is_page

  map_here : (k : ℕ) → k < 1024 → get_or (node_in new after page).map k 0 ≡ 0
  map_here k lt = (let e = zero_number 72 (page_of new.entries new.puts after page) (λ j below. page_here.zero (72 + j) (omega arith) (omega arith)) in λ i. get_or (map_under new.superblock.blocks after (e i)) k 0) ∙ get_or-replicate 1024 k 0 0 lt

  none_here : HasNoBlocks (node_in new after page)
  none_here = no_blocks (node_in new after page) (λ k le lt. page_here.zero k (omega arith) lt) map_here

  pub alone_here : is_shared new after (node_in new after page) ≡ false
  alone_here = alone_none new after (node_in new after page) (none_here 15 (omega arith))

  pub bare_here : IsBare after (node_in new after page)
  bare_here = record { none = none_here; tidy = tidy_page after (node_in new after page) kind unique owner group page_here none_here map_here }

  pub put_anode : anode_in new after page ≡ record { kind = kind; unique = unique; length = 0; owner = owner; group = group; lists = λ which k. 0; content = λ k. 0 }
  put_anode = anode_none after (node_in new after page) kind unique owner group page_here none_here

  -- over an anode whose blocks were given up
  pub put_turns : (named left : ℕ → ℕ) (old : State) (before : List ℕ) → Moves named left old before mid middle → ((b : ℕ) → left b ≡ 0) → Turns page named (names (node_in new after page)) old before new after
  put_turns named left old before moves none = record {
    counts = λ b lt. (let e = moves.counts b lt in let f = ap (λ (l : List ℕ). count_now new l b) quiet ∙ now_same mid new middle middle b (beside (count_page b) (omega arith)) in let h = none b in let n = names_none (node_in new after page) none_here b in omega (arith, e, f, h, n));
    settled = λ b lt. ap (λ (l : List ℕ). count_settled new l b) quiet ∙ settled_put mid new slot page was bytes middle b is ∙ moves.settled b lt;
    tail = λ b spare. ap (λ (l : List ℕ). count_now new l b) quiet ∙ now_same mid new middle middle b (beside (count_page b) (omega arith)) ∙ moves.tail b spare;
    pages = λ p lt apart. ap (λ (l : List ℕ). page_of new.entries new.puts l p) quiet ∙ beside p (λ e. apart (sym e)) ∙ moves.pages p lt;
  }

-- an anode that was freed
pub freed_turned : (page slot unique : ℕ) (node cleared : Node) (old : State) (before : List ℕ) (mid : State) (middle : List ℕ) (new : State) (after bytes was : List ℕ) → page < 1058
    → IsPage 0 unique [] [] bytes → unique ≡ number_at 4 4 cleared.page → SameFacts node cleared → HasNoBlocks cleared → Moves (names node) (names cleared) old before mid middle → new ≡ with_put mid (put_of slot page was bytes)
    → ((image : List ℕ) (p : ℕ) → page_of new.entries new.puts image p ≡ (if page == p then bytes else page_of mid.entries mid.puts image p)) → after ≡ middle
    → Turned page freed node old before new after
freed_turned page slot unique node cleared old before mid middle new after bytes was low is_page number facts none moves is pages quiet = record {
  turns = put_turns page slot 0 unique [] [] bytes was is_page mid new middle after low is pages quiet (names node) (names cleared) old before moves (names_none cleared none);
  renews = λ b. inl (let e = names_none (node_in new after page) (bare_here page slot 0 unique [] [] bytes was is_page mid new middle after low is pages quiet).none b in omega (arith, e));
  anode = put_anode page slot 0 unique [] [] bytes was is_page mid new middle after low is pages quiet
      ∙ (let e = number ∙ number-same 4 4 4 cleared.page node.page (λ j lt. facts.rest (4 + j) (inl (omega arith))) in
      λ i. record { kind = 0; unique = e i; length = 0; owner = []; group = []; lists = λ which k. 0; content = λ k. 0 });
  tidy = λ was_tidy. (bare_here page slot 0 unique [] [] bytes was is_page mid new middle after low is pages quiet).tidy;
  trimmed = λ was_trimmed. trimmed_none (node_in new after page) (bare_here page slot 0 unique [] [] bytes was is_page mid new middle after low is pages quiet).none;
  alone = alone_here page slot 0 unique [] [] bytes was is_page mid new middle after low is pages quiet;
}

-- and one that was made
pub bare_made : (page slot kind unique : ℕ) (owner group bytes was : List ℕ) (old new : State) (before after : List ℕ) → page < 1058 → IsPage kind unique owner group bytes
    → new ≡ with_put old (put_of slot page was bytes)
    → ((image : List ℕ) (p : ℕ) → page_of new.entries new.puts image p ≡ (if page == p then bytes else page_of old.entries old.puts image p)) → after ≡ before
    → Made page (bare_anode kind unique owner group) old before new after
bare_made page slot kind unique owner group bytes was old new before after low is_page is pages quiet = record {
  turns = turns_own page no_names (node_in new after page) old before new after (alone_here page slot kind unique owner group bytes was is_page old new before after low is pages quiet)
      (put_turns page slot kind unique owner group bytes was is_page old new before after low is pages quiet no_names no_names old before (record { counts = λ b lt. refl; settled = λ b lt. refl; tail = λ b spare. refl; pages = λ p lt. refl }) (λ b. refl));
  anode_is = put_anode page slot kind unique owner group bytes was is_page old new before after low is pages quiet;
}

-- said of the pages before a call that only reads
pub made_after : (page : ℕ) (anode other : Anode) (old mid new : State) (before middle after : List ℕ) → mid ≡ old → middle ≡ before → anode ≡ other → Made page anode mid middle new after → Made page other old before new after
made_after page anode other old mid new before middle after same quiet is made =
    subst (λ (a : Anode). Made page a old before new after) is (subst (λ (s : State). Made page anode s before new after) same (subst (λ (l : List ℕ). Made page anode mid l new after) quiet made))
