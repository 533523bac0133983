-- Copies of anodes, which name the blocks of their sources.
use Rattle.std.proofs.Common.{◌≡◌, ◌≢◌, ◌<◌, ◌≤◌, ◌⊎◌, ℕ, ◌+◌, ◌-◌, ◌*◌, ◌/◌, ◌%◌, List, get_or, refl, sym, ◌∙◌, ap, subst, inl, inr, arith}
use Rattle.std.specs.Prelude.{Bool, true, false, ◌==◌, ◌&&◌, not, if◌then◌else◌, nat_lt, nat_le, replicate, Result, Ok, Err, OnOk}
use Rattle.std.proofs.lemmas.Bool.Decides.{nat_tests}
use Rattle.std.proofs.lemmas.List.{get_or-replicate}
use Rattle.base_types.specs.Image.{byte_at, bytes_from}
use Rattle.disk_layout.specs.Places.{block_start, pages_of}
use Rattle.disk_layout.specs.Numbers.{number_at}
use Rattle.disk_layout.proofs.Bytes.{number-same}
use Rattle.disk_log.specs.Puts.{page_of}
use Rattle.disk_log.specs.State.{State, with_put, put_of}
use Rattle.disk_space.specs.Counts.{count_page, count_now, count_settled}
use Rattle.disk_anode.specs.Node.{pointer_of, pointer_at, is_pointer, map_under, cell, names, names_below, no_names, node_of, node_in, PointsTo, SameFacts, IsRanged}
use Rattle.disk_anode.specs.Anode.{anode_of, byte_length, bytes_of, names_past, IsTidy}
use Rattle.disk_anode.specs.Changes.{IsSpare, own_names, AreCounted, AreFew, Moves, Turns, Saved, Cloned, Made, OwnsMap, SharesBlocks, is_shared}
use Rattle.disk_anode.specs.declared.node.Node.{Node}
use Rattle.disk_anode.proofs.Counting.{same_many, many_le, many_but, many_rest, many_none}
use Rattle.disk_anode.proofs.Pointers.{pointer_front, pointer_back}
use Rattle.disk_anode.proofs.Cells.{cell_none, cell_same, named_but, named_some, one_other, one_same, pointer_facts}
use Rattle.disk_anode.proofs.Laid.{pointer_in, pointer_apart}
use Rattle.disk_anode.proofs.Moving.{now_same, settled_put}
use Rattle.disk_anode.proofs.Plain.{zero_number}
use Rattle.disk_anode.proofs.Sharing.{below_all, below_none, below_next, own_alone, own_shared, turns_own}
use Rattle.disk_anode.proofs.Anodes.{anode_kept}
use Rattle.disk_anode.proofs.Renewing.{ranged_fewer, ranged_on}

-- fewer pointers
pub names_fewer : (source copy : Node) → ((w : ℕ) → w < 68 → (pointer_of copy w ≡ 0) ⊎ (pointer_of copy w ≡ pointer_of source w)) → (b : ℕ) → names copy b ≤ names source b
unfolding names
names_fewer source copy fewer b = many_le (λ w. pointer_of copy w == b + 1) (λ w. pointer_of source w == b + 1) 68 (λ w lt is. by w is (fewer w lt))
  where
    by : (w : ℕ) → (pointer_of copy w == b + 1) ≡ true → (pointer_of copy w ≡ 0) ⊎ (pointer_of copy w ≡ pointer_of source w) → (pointer_of source w == b + 1) ≡ true
    by w is (inl zero) = let e : pointer_of copy w ≡ b + 1 = grind (arith, nat_tests) in absurd (omega (arith, e, zero))
    by w is (inr same) = (λ i. sym same i == b + 1) ∙ is

pub counted_fewer : (source copy : Node) (state : State) (image : List ℕ) → ((b : ℕ) → names copy b ≤ names source b) → AreCounted (names source) state image → AreCounted (names copy) state image
counted_fewer source copy state image fewer counted b lt = let e = fewer b in let f = counted b lt in omega (arith, e, f)

pub few_fewer : (source copy : Node) (state : State) (image : List ℕ) → ((b : ℕ) → names copy b ≤ names source b) → AreFew (names source) state image → AreFew (names copy) state image
few_fewer source copy state image fewer few b lt = let e = fewer b in let f = few b lt in omega (arith, e, f)

-- an indirect block without a pointer
map_zero : (is : Bool) → is ≡ false → (map : List ℕ) (image : List ℕ) (at : ℕ) → map ≡ (if is then bytes_from image at 1024 else replicate 1024 0) → (k : ℕ) → k < 1024 → byte_at map k ≡ 0
map_zero true e map image at f k below = absurd (grind (arith, e))
map_zero false e map image at f k below = (λ i. get_or (f i) k 0) ∙ get_or-replicate 1024 k 0 0 below

-- an indirect block that two anodes name has all pointers of the second in its page
module _ (state : State) (image : List ℕ) (node : Node) (map : node.map ≡ map_under node.blocks image (pointer_of node 15)) where
  zero_map : is_pointer node.blocks (pointer_of node 15) ≡ false → (w : ℕ) → 16 ≤ w → w < 68 → pointer_of node w ≡ 0
  zero_map none w le lt = pointer_back node w le ∙ zero_number (4 * (w - 16)) node.map (λ j low. zero (4 * (w - 16) + j) (omega arith))
    where
      zero : (k : ℕ) → k < 1024 → byte_at node.map k ≡ 0
      zero k below = map_zero (is_pointer node.blocks (pointer_of node 15)) none node.map image (block_start (pages_of node.blocks) (pointer_of node 15 - 1)) map k below

  front_names : is_pointer node.blocks (pointer_of node 15) ≡ false → (b : ℕ) → names node b ≡ names_below 16 node b
  unfolding names names_below
  front_names none b = many_rest (λ w. pointer_of node w == b + 1) 16 68 (omega arith) (λ w le lt. (let e = zero_map none w le lt in let f : (0 == b + 1) ≡ false = grind (arith, nat_tests) in (λ i. e i == b + 1) ∙ f))

  pub own_front : (is_pointer node.blocks (pointer_of node 15) ≡ true → 2 ≤ count_now state image (pointer_of node 15 - 1)) → (b : ℕ) → own_names state image node b ≡ names_below 16 node b
  own_front two b = by (is_pointer node.blocks (pointer_of node 15)) refl
    where
      by : (is : Bool) → is_pointer node.blocks (pointer_of node 15) ≡ is → own_names state image node b ≡ names_below 16 node b
      by true e =
          let many = two e in
          let f : nat_lt 1 (count_now state image (pointer_of node 15 - 1)) ≡ true = grind (arith, nat_tests, many) in
          own_shared state image node b (λ i. e i && f i)
      by false e = own_alone state image node b (λ i. e i && nat_lt 1 (count_now state image (pointer_of node 15 - 1))) ∙ front_names e b

-- a page was put that shares its indirect block
module _ (page slot : ℕ) (copy : Node) (old : State) (before : List ℕ) (mid : State) (middle : List ℕ) (new : State) (after was : List ℕ) (low : page < 1058) (same_blocks : copy.blocks ≡ old.superblock.blocks)
    (same_mid : mid.superblock.blocks ≡ old.superblock.blocks) (map : copy.map ≡ map_under copy.blocks before (pointer_of copy 15)) (counted : AreCounted (names copy) old before)
    (moves : Moves (names_below 0 copy) (names_below 16 copy) old before mid middle) (same : middle ≡ before) (is : new ≡ with_put mid (put_of slot page was copy.page))
    (pages : (image : List ℕ) (p : ℕ) → page_of new.entries new.puts image p ≡ (if page == p then copy.page else page_of mid.entries mid.puts image p)) (quiet : after ≡ middle) where
  aside : (p : ℕ) → page ≢ p → page_of new.entries new.puts middle p ≡ page_of mid.entries mid.puts middle p
  aside p apart = (let e : (page == p) ≡ false = grind (arith, nat_tests) in pages middle p ∙ (λ i. if e i then copy.page else page_of mid.entries mid.puts middle p))

  counts_added : (b : ℕ) → b < old.superblock.blocks → count_now new after b ≡ count_now old before b + names_below 16 copy b
  counts_added b lt =
      let e = moves.counts b lt in
      let none = below_none copy b in
      let f = ap (λ (l : List ℕ). count_now new l b) quiet ∙ now_same mid new middle middle b (aside (count_page b) (omega arith)) in
      omega (arith, e, f, none)

  pub sharing_there : node_in new after page ≡ copy
  sharing_there =
      let test : (page == page) ≡ true = grind (arith, nat_tests) in
      let here : page_of new.entries new.puts after page ≡ copy.page = pages after page ∙ (λ i. if test i then copy.page else page_of mid.entries mid.puts after page) in
      let blocks : new.superblock.blocks ≡ copy.blocks = (λ i. (is i).superblock.blocks) ∙ same_mid ∙ sym same_blocks in
      let image : after ≡ before = quiet ∙ same in
      (λ i. node_of (blocks i) (image i) (here i))
      ∙ (let e : map_under copy.blocks before (number_at 4 72 copy.page) ≡ copy.map = (λ i. map_under copy.blocks before (sym (pointer_front copy 15 (omega arith)) i)) ∙ sym map in
      λ i. record { blocks = copy.blocks; page = copy.page; map = e i })

  own_added : (b : ℕ) → own_names new after copy b ≡ names_below 16 copy b
  own_added = own_front new after copy (map ∙ (λ i. map_under copy.blocks (sym (quiet ∙ same) i) (pointer_of copy 15))) (λ valid.
      let facts = pointer_facts copy.blocks (pointer_of copy 15) valid in
      let some = facts.0 in let within = facts.1 in
      let block : ℕ = pointer_of copy 15 - 1 in
      let lt : block < old.superblock.blocks = omega (arith, some, within, same_blocks) in
      let added = counts_added block lt in
      let first = counted block lt in
      let named = named_some copy 15 block (omega arith) (omega (arith, some)) in
      let next = below_next 15 copy block in
      let mine = one_same (pointer_of copy 15) (block + 1) (omega (arith, some)) in
      omega (arith, added, first, named, next, mine))

  pub sharing_cloned : Cloned page copy old before new after
  sharing_cloned = record {
    turns = subst (λ (x : Node). Turns page no_names (own_names new after x) old before new after) (sym sharing_there) (record {
      counts = λ b lt. (let e = counts_added b lt in let f = own_added b in omega (arith, e, f));
      settled = λ b lt. ap (λ (l : List ℕ). count_settled new l b) quiet ∙ settled_put mid new slot page was copy.page middle b is ∙ moves.settled b lt;
      tail = λ b spare. ap (λ (l : List ℕ). count_now new l b) quiet ∙ now_same mid new middle middle b (aside (count_page b) (omega arith)) ∙ moves.tail b spare;
      pages = λ p up apart. ap (λ (l : List ℕ). page_of new.entries new.puts l p) quiet ∙ aside p (λ e. apart (sym e)) ∙ moves.pages p up;
    });
    facts = subst (λ (x : Node). SameFacts copy x) (sym sharing_there) (record { blocks = refl; rest = λ k beside. refl; behind = λ k le. refl });
    range = λ ranged. subst (λ (x : Node). IsRanged x) (sym sharing_there) ranged;
    pointers = λ v below apart. ap (λ (x : Node). pointer_of x v) sharing_there;
    cells = λ v k below apart lt. ap (λ (x : Node). cell after x v k) sharing_there ∙ ap (λ (l : List ℕ). cell l copy v k) (quiet ∙ same);
  }

pub names_cut : (copy cut : Node) → PointsTo 15 0 copy cut → (b : ℕ) → names cut b ≤ names copy b
names_cut copy cut points b = let e = named_but copy cut 15 0 b (omega arith) points in let f = one_other 0 (b + 1) (omega arith) in omega (arith, e, f)

-- or one with an indirect block of its own
module _ (page : ℕ) (copy cut stored : Node) (old mid new : State) (before middle after : List ℕ) (same_mid : mid.superblock.blocks ≡ old.superblock.blocks) (points : PointsTo 15 0 copy cut)
    (moves : Moves (names_below 0 cut) (names_below 68 cut) old before mid middle) (same : middle ≡ before) (saved : Saved page cut mid middle stored new after) (facts : SameFacts cut stored) (there : copy.blocks ≡ old.superblock.blocks) where
  pub copy_cloned : Cloned page copy old before new after
  copy_cloned = record {
    turns = subst (λ (x : Node). Turns page no_names (own_names new after x) old before new after) (sym saved.there)
        (turns_own page no_names stored old before new after saved.alone (record {
          counts = λ b lt. (let e = moves.counts b lt in let none = below_none cut b in let all = below_all cut b in let f = saved.turns.counts b (omega (arith, same_mid, lt)) in omega (arith, e, none, all, f));
          settled = λ b lt. saved.turns.settled b (omega (arith, same_mid, lt)) ∙ moves.settled b lt;
          tail = λ b spare. saved.turns.tail b (subst (λ (m : ℕ). IsSpare m b) (sym same_mid) spare) ∙ moves.tail b spare;
          pages = λ p up apart. saved.turns.pages p up apart ∙ moves.pages p up;
        }));
    facts = subst (λ (x : Node). SameFacts copy x) (sym saved.there) (record { blocks = facts.blocks ∙ points.blocks; rest = λ k beside. facts.rest k beside ∙ points.rest k beside; behind = λ k le. facts.behind k le ∙ points.behind k le });
    range = λ ranged. subst (λ (x : Node). IsRanged x) (sym saved.there) (ranged_on cut stored mid middle (points.blocks ∙ there ∙ sym same_mid) facts.blocks saved.renews (ranged_fewer copy cut points.blocks (λ b le. names_cut copy cut points b) ranged));
    pointers = λ v below apart. ap (λ (x : Node). pointer_of x v) saved.there ∙ saved.pointers v below apart ∙ points.others v below apart;
    cells = λ v k below apart lt. ap (λ (x : Node). cell after x v k) saved.there ∙ saved.cells v k below apart lt ∙ ap (λ (l : List ℕ). cell l cut v k) same
        ∙ cell_same before before copy cut v k points.blocks (points.others v below apart) lt (λ valid j below_2. refl);
  }

  -- which was free before
  one_more : (b : ℕ) → pointer_of stored 15 ≡ b + 1 → names stored b ≡ names cut b + 1
  unfolding names
  one_more b here =
      let but = many_but (λ v. pointer_of cut v == b + 1) (λ v. pointer_of stored v == b + 1) 15 68 (omega arith) (λ v below apart. (let e = saved.pointers v below apart in λ i. sym e i == b + 1)) in
      let none = one_other (pointer_of cut 15) (b + 1) (λ is. (let zero = points.here in absurd (omega (arith, zero, is)))) in
      let mine = one_same (pointer_of stored 15) (b + 1) here in
      omega (arith, but, none, mine)

  pub copy_owns : OwnsMap page old before new after
  copy_owns = record {
    alone = subst (λ (x : Node). is_shared new after x ≡ false) (sym saved.there) saved.alone;
    free = λ b lt here. by b lt (ap (λ (x : Node). pointer_of x 15) (sym saved.there) ∙ here) (saved.renews b);
  }
    where
      by : (b : ℕ) → b < old.superblock.blocks → pointer_of stored 15 ≡ b + 1 → (names stored b ≤ names cut b) ⊎ ((b < mid.superblock.blocks) × (count_now mid middle b ≤ names cut b) × (names stored b ≤ 1)) → count_now old before b ≡ 0
      by b lt here (inl e) = let more = one_more b here in absurd (omega (arith, e, more))
      by b lt here (inr e) =
          let most = e.1 in let m = moves.counts b lt in let none = below_none cut b in let all = below_all cut b in
          omega (arith, most, m, none, all)

-- the copy that either put is one of the source
module _ (page : ℕ) (source copy : Node) (old new : State) (before after : List ℕ) (facts : SameFacts source copy) (gone : (i : ℕ) → i < 64 → bytes_of source ≤ 1024 * i → pointer_of copy (pointer_at i) ≡ 0)
    (kept : (i : ℕ) → i < 64 → 1024 * i < bytes_of source → pointer_of copy (pointer_at i) ≡ pointer_of source (pointer_at i)) (lists : (w : ℕ) → w < 3 → pointer_of copy w ≡ pointer_of source w)
    (cloned : Cloned page copy old before new after) (fewer : (w : ℕ) → w < 68 → (pointer_of copy w ≡ 0) ⊎ (pointer_of copy w ≡ pointer_of source w)) where
  there_facts : SameFacts source (node_in new after page)
  there_facts = record { blocks = cloned.facts.blocks ∙ facts.blocks; rest = λ k beside. cloned.facts.rest k beside ∙ facts.rest k beside; behind = λ k le. cloned.facts.behind k le ∙ facts.behind k le }

  list_there : (v k : ℕ) → v < 3 → k < 1024 → cell after (node_in new after page) v k ≡ cell before source v k
  list_there v k below lt = cloned.cells v k (omega arith) (λ e. absurd (omega (arith, e, below))) lt ∙ cell_same before before source copy v k facts.blocks (lists v below) lt (λ valid j low. refl)

  byte_there : (i k : ℕ) → i < 64 → 1024 * i < bytes_of source → k < 1024 → cell after (node_in new after page) (pointer_at i) k ≡ cell before source (pointer_at i) k
  byte_there i k lt inside low =
      let p = pointer_in i lt in
      cloned.cells (pointer_at i) k p.1 p.2 low ∙ cell_same before before source copy (pointer_at i) k facts.blocks (kept i lt inside) low (λ valid j below. refl)

  gone_there : (i : ℕ) → i < 64 → bytes_of source ≤ 1024 * i → pointer_of (node_in new after page) (pointer_at i) ≡ 0
  gone_there i lt le = let p = pointer_in i lt in cloned.pointers (pointer_at i) p.1 p.2 ∙ gone i lt le

  bytes_there : bytes_of (node_in new after page) ≡ bytes_of source
  bytes_there =
      let kind = there_facts.rest 0 (inl (omega arith)) in
      let size = number-same 4 8 8 (node_in new after page).page source.page (λ j lt. there_facts.rest (8 + j) (inl (omega arith))) in
      λ i. byte_length (kind i) (size i)

  pub made_of : Made page (anode_of before source) old before new after
  made_of = record { turns = cloned.turns; anode_is = anode_kept before after source (node_in new after page) there_facts list_there byte_there }

  tidy_of : IsTidy before source → IsTidy after (node_in new after page)
  tidy_of tidy = record {
    first = λ k some low. there_facts.rest k (inl (omega arith)) ∙ tidy.first k some low;
    owner = λ k le lt. (let e = there_facts.rest 76 (inr (omega arith)) in there_facts.rest k (inr (omega (arith, le))) ∙ tidy.owner k (omega (arith, e, le)) lt);
    group = λ k le lt. (let e = there_facts.rest 137 (inr (omega arith)) in there_facts.rest k (inr (omega (arith, le))) ∙ tidy.group k (omega (arith, e, le)) lt);
    behind = λ k le lt. there_facts.behind k le ∙ tidy.behind k le lt;
    past = λ dir k le lt same. byte_there (k / 1024) (k % 1024) (omega arith) (omega (arith, bytes_there, same)) (omega arith) ∙ tidy.past (sym (there_facts.rest 0 (inl (omega arith))) ∙ dir) k (omega (arith, bytes_there, le)) lt (omega (arith, bytes_there, same));
    range = cloned.range (ranged_fewer source copy facts.blocks (λ b le. names_fewer source copy fewer b) tidy.range);
    lists = λ w lt zero. cloned.pointers w (omega arith) (λ e. absurd (omega (arith, e, lt))) ∙ lists w lt ∙ tidy.lists w lt (λ k low. sym (list_there w k lt low) ∙ zero k low);
  }

  pub shares_of : (names_past source ≡ 0 → pointer_of (node_in new after page) 15 ≡ pointer_of source 15) → (0 < names_past source → OwnsMap page old before new after) → SharesBlocks page source old before new after
  shares_of map own = record {
    past = gone_there;
    bytes = λ i lt inside. (let p = pointer_in i lt in cloned.pointers (pointer_at i) p.1 p.2 ∙ kept i lt inside);
    lists = λ w lt. cloned.pointers w (omega arith) (λ e. absurd (omega (arith, e, lt))) ∙ lists w lt;
    map = map;
    own = own;
    tidy = tidy_of;
  }

-- the pointers of an anode without those past its length
module _ (source copy : Node) (same : (w : ℕ) → w < 68 → ((i : ℕ) → i < 64 → bytes_of source ≤ 1024 * i → w ≢ pointer_at i) → pointer_of copy w ≡ pointer_of source w) where
  pub kept_within : (i : ℕ) → i < 64 → 1024 * i < bytes_of source → pointer_of copy (pointer_at i) ≡ pointer_of source (pointer_at i)
  kept_within i lt inside = same (pointer_at i) (pointer_in i lt).1 (λ j low past. pointer_apart i j (omega arith))

  pub lists_within : (w : ℕ) → w < 3 → pointer_of copy w ≡ pointer_of source w
  lists_within w lt = same w (omega arith) (λ j low past e. (let p = pointer_in j low in let first = p.0 in absurd (omega (arith, first, e, lt))))

  pub indirect_within : pointer_of copy 15 ≡ pointer_of source 15
  indirect_within = same 15 (omega arith) (λ j low past e. (pointer_in j low).2 (sym e))

-- and with the indirect block of the source, which has none of these
module _ (source copy whole : Node) (page : whole.page ≡ copy.page) (map : whole.map ≡ source.map) where
  pub whole_front : (w : ℕ) → w < 16 → pointer_of whole w ≡ pointer_of copy w
  whole_front w lt = pointer_front whole w lt ∙ (λ i. number_at 4 (12 + 4 * w) (page i)) ∙ sym (pointer_front copy w lt)

  pub whole_back : (w : ℕ) → 16 ≤ w → pointer_of whole w ≡ pointer_of source w
  whole_back w le = pointer_back whole w le ∙ (λ i. number_at 4 (4 * (w - 16)) (map i)) ∙ sym (pointer_back source w le)

  pub whole_fewer : ((w : ℕ) → w < 68 → (pointer_of copy w ≡ 0) ⊎ (pointer_of copy w ≡ pointer_of source w)) → (w : ℕ) → w < 68 → (pointer_of whole w ≡ 0) ⊎ (pointer_of whole w ≡ pointer_of source w)
  whole_fewer fewer w lt = by (nat_lt w 16) refl (fewer w lt)
    where
      by : (front : Bool) → nat_lt w 16 ≡ front → (pointer_of copy w ≡ 0) ⊎ (pointer_of copy w ≡ pointer_of source w) → (pointer_of whole w ≡ 0) ⊎ (pointer_of whole w ≡ pointer_of source w)
      by true e (inl zero) = let low : w < 16 = grind (arith, nat_tests) in inl (whole_front w low ∙ zero)
      by true e (inr is) = let low : w < 16 = grind (arith, nat_tests) in inr (whole_front w low ∙ is)
      by false e which = let high : 16 ≤ w = grind (arith, nat_tests) in inr (whole_back w high)

  pub whole_gone : names_past source ≡ 0 → ((i : ℕ) → i < 64 → bytes_of source ≤ 1024 * i → pointer_of copy (pointer_at i) ≡ 0) → (i : ℕ) → i < 64 → bytes_of source ≤ 1024 * i → pointer_of whole (pointer_at i) ≡ 0
  whole_gone none gone i lt le = by (nat_lt i 12) refl (gone i lt le)
    where
      zero : (pointer : ℕ) → (inside : Bool) → inside ≡ true → (inside && not (pointer == 0)) ≡ false → pointer ≡ 0
      zero pointer true e is = grind (arith, nat_tests)
      zero pointer false e is = absurd (grind (arith, e))

      by : (front : Bool) → nat_lt i 12 ≡ front → pointer_of copy (if front then i + 3 else i + 4) ≡ 0 → pointer_of whole (if front then i + 3 else i + 4) ≡ 0
      by true e is = let low : i < 12 = grind (arith, nat_tests) in whole_front (i + 3) (omega arith) ∙ is
      by false e is =
          let high : 12 ≤ i = grind (arith, nat_tests) in
          let a : 16 + (i - 12) ≡ i + 4 = omega arith in
          let within : nat_le (bytes_of source) (1024 * (12 + (i - 12))) ≡ true = (let low : bytes_of source ≤ 1024 * (12 + (i - 12)) = omega arith in grind (arith, nat_tests)) in
          let test = many_none (λ j. nat_le (bytes_of source) (1024 * (12 + j)) && not (pointer_of source (16 + j) == 0)) (i - 12) 52 none (omega arith) in
          whole_back (i + 4) (omega arith) ∙ ap (pointer_of source) (sym a) ∙ zero (pointer_of source (16 + (i - 12))) (nat_le (bytes_of source) (1024 * (12 + (i - 12)))) within test

  pub whole_kept : ((i : ℕ) → i < 64 → 1024 * i < bytes_of source → pointer_of copy (pointer_at i) ≡ pointer_of source (pointer_at i)) → (i : ℕ) → i < 64 → 1024 * i < bytes_of source → pointer_of whole (pointer_at i) ≡ pointer_of source (pointer_at i)
  whole_kept kept i lt inside = by (nat_lt i 12) refl (kept i lt inside)
    where
      by : (front : Bool) → nat_lt i 12 ≡ front → pointer_of copy (if front then i + 3 else i + 4) ≡ pointer_of source (if front then i + 3 else i + 4) → pointer_of whole (if front then i + 3 else i + 4) ≡ pointer_of source (if front then i + 3 else i + 4)
      by true e is = let low : i < 12 = grind (arith, nat_tests) in whole_front (i + 3) (omega arith) ∙ is
      by false e is = let high : 12 ≤ i = grind (arith, nat_tests) in whole_back (i + 4) (omega arith)

  pub whole_facts : whole.blocks ≡ copy.blocks → SameFacts source copy → SameFacts source whole
  whole_facts blocks facts = record { blocks = blocks ∙ facts.blocks; rest = λ k beside. (λ i. byte_at (page i) k) ∙ facts.rest k beside; behind = λ k le. (λ i. byte_at (map i) k) }

-- the pointers of an anode's page alone
pub names_front : (node bare : Node) → bare.page ≡ node.page → ((k : ℕ) → k < 1024 → byte_at bare.map k ≡ 0) → (b : ℕ) → names bare b ≡ names_below 16 node b
unfolding names names_below
names_front node bare page zero b =
    many_rest (λ w. pointer_of bare w == b + 1) 16 68 (omega arith) (λ w le lt. (let e = none w le lt in let f : (0 == b + 1) ≡ false = grind (arith, nat_tests) in (λ i. e i == b + 1) ∙ f))
    ∙ same_many (λ w. pointer_of bare w == b + 1) (λ w. pointer_of node w == b + 1) 16 (λ w lt. (let e = pointer_front bare w lt ∙ (λ i. number_at 4 (12 + 4 * w) (page i)) ∙ sym (pointer_front node w lt) in λ i. e i == b + 1))
  where
    none : (w : ℕ) → 16 ≤ w → w < 68 → pointer_of bare w ≡ 0
    none w le lt = pointer_back bare w le ∙ zero_number (4 * (w - 16)) bare.map (λ j low. zero (4 * (w - 16) + j) (omega arith))

-- where a call answered
pub on_ok_both : {T E P Q R : Type 0} (r : Result T E) → (P → Q → R) → OnOk r P → OnOk r Q → OnOk r R
on_ok_both (Ok x) f p q = f p q
on_ok_both (Err e) f p q = tt
