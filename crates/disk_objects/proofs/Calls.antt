-- What the calls on anodes leave of all anodes.
use Rattle.std.proofs.Common.{◌≡◌, ◌≢◌, ◌<◌, ◌≤◌, ◌⊎◌, ℕ, zero, suc, ◌+◌, ◌-◌, ◌*◌, ◌/◌, ◌%◌, List, refl, sym, ◌∙◌, ap, subst, inl, inr, arith}
use Rattle.std.specs.Prelude.{Bool, true, false, ◌==◌, ◌&&◌, not, if◌then◌else◌, nat_lt, nat_le}
use Rattle.std.proofs.lemmas.Bool.{cases_eq}
use Rattle.std.proofs.lemmas.Bool.Decides.{nat_tests}
use Rattle.disk_layout.specs.Numbers.{number_at}
use Rattle.disk_log.specs.Puts.{page_of}
use Rattle.disk_log.specs.State.{State}
use Rattle.disk_log.specs.declared.put.Put.{Put}
use Rattle.disk_space.specs.Counts.{count_page, count_place, count_now}
use Rattle.disk_anode.specs.Anode.{Anode, anode_in, bytes_of, names_past, IsTidy, IsBare}
use Rattle.disk_anode.specs.Node.{pointer_of, pointer_at, is_pointer, names, names_below, no_names, cell, node_of, node_in, HasNoBlocks}
use Rattle.disk_anode.specs.Changes.{IsSpare, is_shared, own_names, left_names, WritesLoose, Turns, AreCounted, Changed, IsRenewed, Made, OwnsMap, SharesBlocks}
use Rattle.disk_anode.specs.declared.node.Node.{Node}
use Rattle.disk_anode.proofs.Counting.{none_many, many_le, single_many}
use Rattle.disk_anode.proofs.Cells.{pointer_facts, named_some, one_same, alone_none}
use Rattle.disk_anode.proofs.Sharing.{own_alone as names_alone, own_shared as names_shared, own_le}
use Rattle.disk_anode.proofs.Renewing.{left_shared}
use Rattle.disk_anode.proofs.Laid.{pointer_in}
use Rattle.disk_anode.proofs.Plain.{names_none}
use Rattle.disk_anode.proofs.Moving.{loose_same}
use Rattle.disk_anode.proofs.Apart.{node_stays, anode_stays, cell_stays}
use Rattle.disk_objects.specs.Holds.{is_anode, slot_at, set_at, HoldsNow, NamesApart}
use Rattle.disk_objects.proofs.Nodes.{anode_low, below_named, own_invalid, own_shared, own_of, rest_of, names_valid, other_page, page_other, rest_names, own_is, shared_is, counts_are}
use Rattle.disk_objects.proofs.Turning.{names_some, holds_with, own_new}

abbrev pub pages_of_log : State → List ℕ → ℕ → List ℕ
pages_of_log state image p = page_of state.entries state.puts image p

-- what an anode names of a shared indirect block is among the rest
shared_names : (blocks : ℕ) (pages : ℕ → List ℕ) (image : List ℕ) (page q m b : ℕ) → is_anode q ≡ true → q ≢ page → pointer_of (node_of blocks image (pages page)) 15 ≡ m + 1 → pointer_of (node_of blocks image (pages q)) 15 ≡ m + 1
    → names (node_of blocks image (pages page)) b ≤ rest_of blocks pages image page b + names_below 16 (node_of blocks image (pages page)) b
shared_names blocks pages image page q m b a apart here there =
    let e = names_valid blocks image (pages page) m b here in
    let f = names_valid blocks image (pages q) m b there in
    let g = rest_names blocks pages image page q b a apart in
    omega (arith, e, f, g)

pointer_on : (blocks b : ℕ) → b < blocks → is_pointer blocks (b + 1) ≡ true
pointer_on blocks b lt = grind (arith, nat_tests)

-- what a log's calls speak of, in these words
module _ (anodes : ℕ → Anode) (state : State) (image : List ℕ) (held : HoldsNow anodes state image) (page : ℕ) (is : is_anode page ≡ true) where
  pub own_same : (b : ℕ) → own_of state.superblock.blocks (pages_of_log state image) image page b ≡ own_names state image (node_in state image page) b
  unfolding count_now
  own_same b = own_is anodes state.superblock.blocks (pages_of_log state image) image held page is b (is_shared state image (node_in state image page)) refl

  pub counts_now : (b : ℕ) → b < state.superblock.blocks → count_now state image b ≡ rest_of state.superblock.blocks (pages_of_log state image) image page b + own_names state image (node_in state image page) b
  unfolding count_now
  counts_now b lt = let e = counts_are anodes state.superblock.blocks (pages_of_log state image) image held page is b lt in let f = own_same b in omega (arith, e, f)

  pub shared_now : (m : ℕ) → m < state.superblock.blocks → pointer_of (node_in state image page) 15 ≡ m + 1 → (q : ℕ) → is_anode q ≡ true → q ≢ page → pointer_of (node_in state image q) 15 ≡ m + 1
      → is_shared state image (node_in state image page) ≡ true
  unfolding count_now
  shared_now m low there q a apart other =
      let on = page_other state.superblock.blocks (pages_of_log state image) image page q m a apart other in
      let e = shared_is anodes state.superblock.blocks (pages_of_log state image) image held page is m there low in
      let yes = pointer_on state.superblock.blocks m low in
      let less : m + 1 - 1 ≡ m = omega arith in
      (λ i. is_pointer state.superblock.blocks (there i) && nat_lt 1 (count_now state image (there i - 1)))
      ∙ (λ i. yes i && nat_lt 1 (count_now state image (less i))) ∙ e ∙ on

  -- an indirect block that is shared is another page's, too
  shared_by : is_shared state image (node_in state image page) ≡ true → (c : Bool) → is_pointer state.superblock.blocks (pointer_of (node_in state image page) 15) ≡ c
      → (m : ℕ) × (pointer_of (node_in state image page) 15 ≡ m + 1) × (q : ℕ) × (is_anode q ≡ true) × (q ≢ page) × (pointer_of (node_in state image q) 15 ≡ m + 1)
  unfolding count_now
  shared_by on false f = absurd (let no : false ≡ true = (λ i. sym f i && nat_lt 1 (count_now state image (pointer_of (node_in state image page) 15 - 1))) ∙ on in grind (arith, no))
  shared_by on true f =
      let facts = pointer_facts state.superblock.blocks (pointer_of (node_in state image page) 15) f in
      let some = facts.0 in let within = facts.1 in
      let m : ℕ = pointer_of (node_in state image page) 15 - 1 in
      let there : pointer_of (node_in state image page) 15 ≡ m + 1 = omega (arith, some) in
      let many : nat_lt 1 (count_now state image m) ≡ true = (λ i. sym f i && nat_lt 1 (count_now state image m)) ∙ on in
      let found = other_page state.superblock.blocks (pages_of_log state image) image page m
      (sym (shared_is anodes state.superblock.blocks (pages_of_log state image) image held page is m there (omega (arith, some, within))) ∙ many) in
      (m, there, found.0, found.1, found.2, found.3)

  -- what a call asks of one anode
  pub counted_all : AreCounted (names (node_in state image page)) state image
  counted_all b lt = by (is_shared state image (node_in state image page)) refl
    where
      by : (a : Bool) → is_shared state image (node_in state image page) ≡ a → names (node_in state image page) b ≤ count_now state image b
      by false e = let c = counts_now b lt in let f = names_alone state image (node_in state image page) b e in omega (arith, c, f)
      by true e =
          let c = counts_now b lt in
          let f = names_shared state image (node_in state image page) b e in
          let found = shared_by e (is_pointer state.superblock.blocks (pointer_of (node_in state image page) 15)) refl in
          let g = shared_names state.superblock.blocks (pages_of_log state image) image page found.2 found.0 b found.3 found.4 found.1 found.5 in
          omega (arith, c, f, g)

  pub counted_beside : (q : ℕ) → is_anode q ≡ true → q ≢ page → AreCounted (λ b. own_names state image (node_in state image page) b + names (node_in state image q) b) state image
  counted_beside q a apart b lt =
      let e = counts_now b lt in
      let f = rest_names state.superblock.blocks (pages_of_log state image) image page q b a apart in
      omega (arith, e, f)

left_le : (state : State) (image : List ℕ) (node : Node) (b : ℕ) → left_names state image node b ≤ names node b
left_le state image node b = omega arith

-- an image with the same bytes of an anode
tidy_same : (image after : List ℕ) (node : Node) → ((v k : ℕ) → v < 68 → k < 1024 → cell after node v k ≡ cell image node v k) → IsTidy image node → IsTidy after node
tidy_same image after node cells tidy = record {
  first = tidy.first;
  owner = tidy.owner;
  group = tidy.group;
  behind = tidy.behind;
  range = tidy.range;
  lists = λ w lt zero. tidy.lists w lt (λ k low. sym (cells w k (omega (arith, lt)) low) ∙ zero k low);
  past = λ dir k le lt same. (let p = pointer_in (k / 1024) (omega arith) in cells (pointer_at (k / 1024)) (k % 1024) p.1 (omega arith) ∙ tidy.past dir k le lt same);
}

lt_true : (a b : ℕ) → a < b → nat_lt a b ≡ true
lt_true a b lt = grind (arith, nat_tests)

not_both : true ≡ false → ⊥
not_both e = grind (arith, e)

-- an anode whose pointers are another one's, or none, names fewer blocks
pub names_within : (source copy : Node) → ((w : ℕ) → w < 68 → w ≢ 15 → (pointer_of copy w ≡ 0) ⊎ (pointer_of copy w ≡ pointer_of source w))
    → (b : ℕ) → (pointer_of copy 15 ≡ b + 1 → pointer_of source 15 ≡ b + 1) → names copy b ≤ names source b
unfolding names
names_within source copy fewer b map = many_le (λ w. pointer_of copy w == b + 1) (λ w. pointer_of source w == b + 1) 68 (λ w lt on. by w lt (grind (arith, nat_tests, on)) (cases_eq w 15))
  where
    same : (w : ℕ) → pointer_of source w ≡ b + 1 → (pointer_of source w == b + 1) ≡ true
    same w there = grind (arith, nat_tests, there)

    at : (w : ℕ) → pointer_of copy w ≡ b + 1 → (pointer_of copy w ≡ 0) ⊎ (pointer_of copy w ≡ pointer_of source w) → (pointer_of source w == b + 1) ≡ true
    at w here (inl empty) = absurd (omega (arith, here, empty))
    at w here (inr from_it) = same w (sym from_it ∙ here)

    by : (w : ℕ) → w < 68 → pointer_of copy w ≡ b + 1 → (w ≡ 15) ⊎ (w ≢ 15) → (pointer_of source w == b + 1) ≡ true
    by w lt here (inl is_map) = same w ((λ i. pointer_of source (is_map i)) ∙ map ((λ i. pointer_of copy (sym is_map i)) ∙ here))
    by w lt here (inr off) = at w here (fewer w lt off)

-- a block that only one pointer may name
names_once : (node : Node) (b : ℕ) → ((w : ℕ) → w < 68 → pointer_of node w ≡ b + 1 → w ≡ 15) → names node b ≤ 1
unfolding names
names_once node b only =
    let e = many_le (λ w. pointer_of node w == b + 1) (λ w. w == 15) 68 (λ w low on. by w (only w low (grind (arith, nat_tests, on)))) in
    let f = single_many 15 68 in
    omega (arith, e, f)
  where
    by : (w : ℕ) → w ≡ 15 → (w == 15) ≡ true
    by w is = grind (arith, nat_tests, is)

-- a pointer to an indirect block is an anode's own
own_named : (state : State) (image : List ℕ) (node : Node) (m : ℕ) → pointer_of node 15 ≡ m + 1 → 1 ≤ own_names state image node m
own_named state image node m there = by (is_shared state image node)
  where
    by : (a : Bool) → 1 ≤ (if a then names_below 16 node m else names node m)
    by true = below_named node 15 m (omega arith) there
    by false = named_some node 15 m (omega arith) there

-- a page's anode changed
module _ (anodes : ℕ → Anode) (page : ℕ) (is : is_anode page ≡ true) (anode : Anode) (old : State) (puts : List Put) (before after : List ℕ) (held : HoldsNow anodes old before)
    (turns : Turns page (own_names old before (node_in old before page)) (own_names (record old { puts = puts }) after (node_in (record old { puts = puts }) after page)) old before (record old { puts = puts }) after)
    (writes : WritesLoose (own_names old before (node_in old before page)) old before before after)
    (anode_is : anode_in (record old { puts = puts }) after page ≡ anode)
    (tidy : IsTidy after (node_in (record old { puts = puts }) after page))
    (bare : anode.kind ≡ 0 → HasNoBlocks (node_in (record old { puts = puts }) after page)) where
  abbrev pub new : State
  new = record old { puts = puts }

  page_stays : (q : ℕ) → is_anode q ≡ true → q ≢ page → page_of new.entries new.puts after q ≡ page_of old.entries old.puts before q
  page_stays q a apart = turns.pages q (anode_low q a) apart

  counted : (q : ℕ) → is_anode q ≡ true → q ≢ page → AreCounted (λ b. own_names old before (node_in old before page) b + names (node_in old before q) b) old before
  counted q a apart = counted_beside anodes old before held page is q a apart

  node_same : (q : ℕ) → is_anode q ≡ true → q ≢ page → node_in new after q ≡ node_in old before q
  node_same q a apart = node_stays (own_names old before (node_in old before page)) q old new before after refl (counted q a apart) writes (page_stays q a apart)

  anode_same : (q : ℕ) → is_anode q ≡ true → q ≢ page → anode_in new after q ≡ anode_in old before q
  anode_same q a apart = anode_stays (own_names old before (node_in old before page)) q old new before after refl (counted q a apart) writes (page_stays q a apart)

  tidy_others : (q : ℕ) → is_anode q ≡ true → q ≢ page → IsTidy after (node_in new after q)
  tidy_others q a apart = subst (λ (n : Node). IsTidy after n) (sym (node_same q a apart)) (tidy_same before after (node_in old before q)
      (cell_stays (own_names old before (node_in old before page)) q old new before after refl (counted q a apart) writes (page_stays q a apart)) (held.tidy q a))

  tail_now : (b : ℕ) → IsSpare old.superblock.blocks b → number_at 2 (count_place b) (page_of new.entries new.puts after (count_page b)) ≡ 0
  unfolding count_now
  tail_now b spare = turns.tail b spare ∙ held.tail b spare

  -- and no other pointer names its indirect block
  module _ (alone : is_shared new after (node_in new after page) ≡ false) where
    count_new : (b : ℕ) → b < old.superblock.blocks → count_now new after b ≡ rest_of old.superblock.blocks (pages_of_log old before) before page b + names (node_in new after page) b
    count_new b lt =
        let e = turns.counts b lt in
        let f = counts_now anodes old before held page is b lt in
        let g = names_alone new after (node_in new after page) b alone in
        omega (arith, e, f, g)

    count_number : (b : ℕ) → b < old.superblock.blocks → number_at 2 (count_place b) (page_of new.entries new.puts after (count_page b)) ≡ rest_of old.superblock.blocks (pages_of_log old before) before page b + names (node_in new after page) b
    unfolding count_now
    count_number b lt = count_new b lt

    own_number : (b : ℕ) → own_of old.superblock.blocks (pages_of_log new after) after page b ≡ names (node_in new after page) b
    unfolding count_now
    own_number b = own_new old.superblock.blocks (pages_of_log old before) (pages_of_log new after) before after page is node_same b alone count_number

    alone_held : ((b : ℕ) → b < old.superblock.blocks → names (node_in new after page) b ≤ 1)
        → ((q b : ℕ) → is_anode q ≡ true → q ≢ page → slot_at page ≡ slot_at q → b < old.superblock.blocks → names (node_in new after page) b + names (node_in old before q) b ≤ 1)
        → ((q w b : ℕ) → is_anode q ≡ true → q ≢ page → b < old.superblock.blocks → pointer_of (node_in new after page) 15 ≡ b + 1 → w < 68 → w ≢ 15 → pointer_of (node_in old before q) w ≢ b + 1)
        → ((p w b : ℕ) → is_anode p ≡ true → p ≢ page → b < old.superblock.blocks → pointer_of (node_in old before p) 15 ≡ b + 1 → w < 68 → w ≢ 15 → pointer_of (node_in new after page) w ≢ b + 1)
        → HoldsNow (set_at page anode anodes) new after
    alone_held once slots here there = holds_with old.superblock.blocks (pages_of_log old before) (pages_of_log new after) before after page is node_same anodes held anode anode_is anode_same tidy_others tidy bare
        (λ b lt. count_number b lt ∙ (λ i. rest_of old.superblock.blocks (pages_of_log old before) before page b + sym (own_number b) i)) tail_now once slots here there

  -- and it names what it named, or blocks that no other anode named
  module _ (alone : is_shared new after (node_in new after page) ≡ false)
      (pointers : (block : ℕ) → block < old.superblock.blocks
      → (names (node_in new after page) block ≤ left_names old before (node_in old before page) block)
      ⊎ ((count_now old before block ≤ own_names old before (node_in old before page) block) × (names (node_in new after page) block ≤ 1))) where
    once_new : (b : ℕ) → b < old.superblock.blocks → names (node_in new after page) b ≤ 1
    once_new b lt = by (pointers b lt)
      where
        by : (names (node_in new after page) b ≤ left_names old before (node_in old before page) b) ⊎ ((count_now old before b ≤ own_names old before (node_in old before page) b) × (names (node_in new after page) b ≤ 1)) → names (node_in new after page) b ≤ 1
        by (inl e) = let f = left_le old before (node_in old before page) b in let g = held.once page b is lt in omega (arith, e, f, g)
        by (inr e) = e.1

    slots_new : (q b : ℕ) → is_anode q ≡ true → q ≢ page → slot_at page ≡ slot_at q → b < old.superblock.blocks → names (node_in new after page) b + names (node_in old before q) b ≤ 1
    slots_new q b a apart same lt = by (pointers b lt)
      where
        by : (names (node_in new after page) b ≤ left_names old before (node_in old before page) b) ⊎ ((count_now old before b ≤ own_names old before (node_in old before page) b) × (names (node_in new after page) b ≤ 1))
            → names (node_in new after page) b + names (node_in old before q) b ≤ 1
        by (inl e) = let f = left_le old before (node_in old before page) b in let g = held.slots page q b is a (λ here. apart (sym here)) same lt in omega (arith, e, f, g)
        by (inr e) =
            let c = counts_now anodes old before held page is b lt in
            let f = rest_names old.superblock.blocks (pages_of_log old before) before page q b a apart in
            let g = e.0 in
            let h = e.1 in
            omega (arith, c, f, g, h)

    here_new : (q w b : ℕ) → is_anode q ≡ true → q ≢ page → b < old.superblock.blocks → pointer_of (node_in new after page) 15 ≡ b + 1 → w < 68 → w ≢ 15 → pointer_of (node_in old before q) w ≢ b + 1
    here_new q w b a apart low here lt other there =
        let c = count_new alone b low in
        let f = rest_names old.superblock.blocks (pages_of_log old before) before page q b a apart in
        let g = named_some (node_in old before q) w b lt there in
        let h = named_some (node_in new after page) 15 b (omega arith) here in
        let two : 1 < count_now new after b = omega (arith, c, f, g, h) in
        let yes = lt_true 1 (count_now new after b) two in
        let on = pointer_on old.superblock.blocks b low in
        let less : b + 1 - 1 ≡ b = omega arith in
        not_both (sym (λ i. on i && yes i) ∙ (λ i. is_pointer old.superblock.blocks (b + 1) && nat_lt 1 (count_now new after (sym less i))) ∙ (λ i. is_pointer old.superblock.blocks (sym here i) && nat_lt 1 (count_now new after (sym here i - 1))) ∙ alone)

    there_new : (p w b : ℕ) → is_anode p ≡ true → p ≢ page → b < old.superblock.blocks → pointer_of (node_in old before p) 15 ≡ b + 1 → w < 68 → w ≢ 15 → pointer_of (node_in new after page) w ≢ b + 1
    there_new p w b a apart low here lt other there = by (pointers b low)
      where
        some : 1 ≤ names (node_in new after page) b
        some = named_some (node_in new after page) w b lt there

        at : (v : ℕ) × (v < 68) × (pointer_of (node_in old before page) v ≡ b + 1) → names (node_in new after page) b ≤ left_names old before (node_in old before page) b → ⊥
        at (v, below, names_it) e = which (cases_eq v 15)
          where
            which : (v ≡ 15) ⊎ (v ≢ 15) → ⊥
            which (inr off) = held.apart p page v b a is low here below off names_it
            which (inl on) =
                let mine : pointer_of (node_in old before page) 15 ≡ b + 1 = (λ i. pointer_of (node_in old before page) (sym on i)) ∙ names_it in
                let shared = shared_now anodes old before held page is b low mine p a apart here in
                let f = left_shared old before (node_in old before page) b shared in
                let g = one_same (pointer_of (node_in old before page) 15) (b + 1) mine in
                let h = held.once page b is low in
                omega (arith, e, f, g, h, some)

        by : (names (node_in new after page) b ≤ left_names old before (node_in old before page) b) ⊎ ((count_now old before b ≤ own_names old before (node_in old before page) b) × (names (node_in new after page) b ≤ 1)) → ⊥
        by (inl e) =
            let f = left_le old before (node_in old before page) b in
            at (names_some (node_in old before page) b (omega (arith, e, f, some))) e
        by (inr e) =
            let c = counts_now anodes old before held page is b low in
            let f = rest_names old.superblock.blocks (pages_of_log old before) before page p b a apart in
            let g = named_some (node_in old before p) 15 b (omega arith) here in
            let h = e.0 in
            omega (arith, c, f, g, h)

    pub turned_held : HoldsNow (set_at page anode anodes) new after
    turned_held = alone_held alone once_new slots_new here_new there_new

  -- or it has pointers of another page's
  module _ (from : ℕ) (is_from : is_anode from ≡ true) (other : from ≢ page) (none : HasNoBlocks (node_in old before page))
      (fewer : (w : ℕ) → w < 68 → w ≢ 15 → (pointer_of (node_in (record old { puts = puts }) after page) w ≡ 0) ⊎ (pointer_of (node_in (record old { puts = puts }) after page) w ≡ pointer_of (node_in old before from) w))
      (clear : (q b : ℕ) → is_anode q ≡ true → q ≢ page → slot_at page ≡ slot_at q → b < old.superblock.blocks → names (node_in old before from) b + names (node_in old before q) b ≤ 1) where
    none_own : (b : ℕ) → own_names old before (node_in old before page) b ≡ 0
    none_own b = let e = own_le old before (node_in old before page) b in let f = names_none (node_in old before page) none b in omega (arith, e, f)

    count_copy : (b : ℕ) → b < old.superblock.blocks → count_now new after b ≡ rest_of old.superblock.blocks (pages_of_log old before) before page b + own_names new after (node_in new after page) b
    count_copy b lt =
        let e = turns.counts b lt in
        let f = counts_now anodes old before held page is b lt in
        omega (arith, e, f)

    -- it names fewer, but for its indirect block
    names_copy : (b : ℕ) → (pointer_of (node_in new after page) 15 ≡ b + 1 → pointer_of (node_in old before from) 15 ≡ b + 1) → names (node_in new after page) b ≤ names (node_in old before from) b
    names_copy b map = names_within (node_in old before from) (node_in new after page) fewer b map

    there_copy : (p w b : ℕ) → is_anode p ≡ true → p ≢ page → b < old.superblock.blocks → pointer_of (node_in old before p) 15 ≡ b + 1 → w < 68 → w ≢ 15 → pointer_of (node_in new after page) w ≢ b + 1
    there_copy p w b a apart low here lt off there = at (fewer w lt off)
      where
        at : (pointer_of (node_in new after page) w ≡ 0) ⊎ (pointer_of (node_in new after page) w ≡ pointer_of (node_in old before from) w) → ⊥
        at (inl empty) = omega (arith, there, empty)
        at (inr from_it) = held.apart p from w b a is_from low here lt off (sym from_it ∙ there)

    -- with its indirect block
    module _ (map : pointer_of (node_in (record old { puts = puts }) after page) 15 ≡ pointer_of (node_in old before from) 15) where
      names_shared_copy : (b : ℕ) → names (node_in new after page) b ≤ names (node_in old before from) b
      names_shared_copy b = names_copy b (λ here. sym map ∙ here)

      once_copy : (b : ℕ) → b < old.superblock.blocks → names (node_in new after page) b ≤ 1
      once_copy b lt = let e = names_shared_copy b in let f = held.once from b is_from lt in omega (arith, e, f)

      slots_copy : (q b : ℕ) → is_anode q ≡ true → q ≢ page → slot_at page ≡ slot_at q → b < old.superblock.blocks → names (node_in new after page) b + names (node_in old before q) b ≤ 1
      slots_copy q b a apart same lt = let e = names_shared_copy b in let f = clear q b a apart same lt in omega (arith, e, f)

      here_copy : (q w b : ℕ) → is_anode q ≡ true → q ≢ page → b < old.superblock.blocks → pointer_of (node_in new after page) 15 ≡ b + 1 → w < 68 → w ≢ 15 → pointer_of (node_in old before q) w ≢ b + 1
      here_copy q w b a apart low here lt off there = held.apart from q w b is_from a low (sym map ∙ here) lt off there

      own_copy : (b : ℕ) → own_of old.superblock.blocks (pages_of_log new after) after page b ≡ own_names new after (node_in new after page) b
      own_copy b = by (is_pointer old.superblock.blocks (pointer_of (node_in new after page) 15)) refl
        where
          by : (c : Bool) → is_pointer old.superblock.blocks (pointer_of (node_in new after page) 15) ≡ c → own_of old.superblock.blocks (pages_of_log new after) after page b ≡ own_names new after (node_in new after page) b
          by false e =
              let alone : is_shared new after (node_in new after page) ≡ false = (λ i. e i && nat_lt 1 (count_now new after (pointer_of (node_in new after page) 15 - 1))) in
              own_invalid old.superblock.blocks (pages_of_log new after) after page is b e ∙ sym (names_alone new after (node_in new after page) b alone)
          by true e =
              let facts = pointer_facts old.superblock.blocks (pointer_of (node_in new after page) 15) e in
              let some = facts.0 in let within = facts.1 in
              let m : ℕ = pointer_of (node_in new after page) 15 - 1 in
              let there : pointer_of (node_in new after page) 15 ≡ m + 1 = omega (arith, some) in
              let low : m < old.superblock.blocks = omega (arith, some, within) in
              let same : pointer_of (node_in old before from) 15 ≡ m + 1 = sym map ∙ there in
              let on = page_other old.superblock.blocks (pages_of_log new after) after page from m is_from other ((λ i. pointer_of (node_same from is_from other i) 15) ∙ same) in
              let c = count_copy m low in
              let f = rest_names old.superblock.blocks (pages_of_log old before) before page from m is_from other in
              let g = named_some (node_in old before from) 15 m (omega arith) same in
              let h = own_named new after (node_in new after page) m there in
              let two : 1 < count_now new after m = omega (arith, c, f, g, h) in
              let yes = lt_true 1 (count_now new after m) two in
              let shared : is_shared new after (node_in new after page) ≡ true = (λ i. e i && yes i) in
              own_shared old.superblock.blocks (pages_of_log new after) after page is m b there low on ∙ sym (names_shared new after (node_in new after page) b shared)

      count_is : (b : ℕ) → b < old.superblock.blocks → number_at 2 (count_place b) (page_of new.entries new.puts after (count_page b)) ≡ rest_of old.superblock.blocks (pages_of_log old before) before page b + own_names new after (node_in new after page) b
      unfolding count_now
      count_is b lt = count_copy b lt

      pub shared_held : HoldsNow (set_at page anode anodes) new after
      shared_held = holds_with old.superblock.blocks (pages_of_log old before) (pages_of_log new after) before after page is node_same anodes held anode anode_is anode_same tidy_others tidy bare
          (λ b lt. count_is b lt ∙ (λ i. rest_of old.superblock.blocks (pages_of_log old before) before page b + sym (own_copy b) i)) tail_now once_copy slots_copy here_copy there_copy

    -- or with one of its own, which was free
    module _ (own : OwnsMap page old before (record old { puts = puts }) after) where
      free_copy : (b : ℕ) → b < old.superblock.blocks → pointer_of (node_in new after page) 15 ≡ b + 1 → (q : ℕ) → is_anode q ≡ true → names (node_in old before q) b ≡ 0
      free_copy b lt here q a = let e = own.free b lt here in let f = counted_all anodes old before held q a b lt in omega (arith, e, f)

      once_own : (b : ℕ) → b < old.superblock.blocks → names (node_in new after page) b ≤ 1
      once_own b lt = by (cases_eq (pointer_of (node_in new after page) 15) (b + 1))
        where
          at : names (node_in old before from) b ≡ 0 → (w : ℕ) → w < 68 → pointer_of (node_in new after page) w ≡ b + 1 → (pointer_of (node_in new after page) w ≡ 0) ⊎ (pointer_of (node_in new after page) w ≡ pointer_of (node_in old before from) w) → ⊥
          at none_there w low here (inl empty) = omega (arith, here, empty)
          at none_there w low here (inr from_it) = let f = named_some (node_in old before from) w b low (sym from_it ∙ here) in omega (arith, none_there, f)

          only : names (node_in old before from) b ≡ 0 → (w : ℕ) → w < 68 → pointer_of (node_in new after page) w ≡ b + 1 → (w ≡ 15) ⊎ (w ≢ 15) → w ≡ 15
          only none_there w low here (inl e) = e
          only none_there w low here (inr off) = absurd (at none_there w low here (fewer w low off))

          by : (pointer_of (node_in new after page) 15 ≡ b + 1) ⊎ (pointer_of (node_in new after page) 15 ≢ b + 1) → names (node_in new after page) b ≤ 1
          by (inl here) = names_once (node_in new after page) b (λ w low there. only (free_copy b lt here from is_from) w low there (cases_eq w 15))
          by (inr off) = let e = names_copy b (λ here. absurd (off here)) in let f = held.once from b is_from lt in omega (arith, e, f)

      slots_own : (q b : ℕ) → is_anode q ≡ true → q ≢ page → slot_at page ≡ slot_at q → b < old.superblock.blocks → names (node_in new after page) b + names (node_in old before q) b ≤ 1
      slots_own q b a apart same lt = by (cases_eq (pointer_of (node_in new after page) 15) (b + 1))
        where
          by : (pointer_of (node_in new after page) 15 ≡ b + 1) ⊎ (pointer_of (node_in new after page) 15 ≢ b + 1) → names (node_in new after page) b + names (node_in old before q) b ≤ 1
          by (inl here) = let e = once_own b lt in let f = free_copy b lt here q a in omega (arith, e, f)
          by (inr off) = let e = names_copy b (λ here. absurd (off here)) in let f = clear q b a apart same lt in omega (arith, e, f)

      here_own : (q w b : ℕ) → is_anode q ≡ true → q ≢ page → b < old.superblock.blocks → pointer_of (node_in new after page) 15 ≡ b + 1 → w < 68 → w ≢ 15 → pointer_of (node_in old before q) w ≢ b + 1
      here_own q w b a apart low here lt off there = let e = free_copy b low here q a in let f = named_some (node_in old before q) w b lt there in omega (arith, e, f)

      pub apart_held : HoldsNow (set_at page anode anodes) new after
      apart_held = alone_held own.alone once_own slots_own here_own there_copy

    pub copied_held : (pointer_of (node_in (record old { puts = puts }) after page) 15 ≡ pointer_of (node_in old before from) 15) ⊎ OwnsMap page old before (record old { puts = puts }) after → HoldsNow (set_at page anode anodes) new after
    copied_held (inl map) = shared_held map
    copied_held (inr own) = apart_held own

-- an anode that is the same
same_held : (anodes : ℕ → Anode) (page : ℕ) (anode : Anode) (state : State) (image : List ℕ) → HoldsNow anodes state image → anode_in state image page ≡ anode
    → (anode.kind ≡ 0 → HasNoBlocks (node_in state image page)) → HoldsNow (set_at page anode anodes) state image
same_held anodes page anode state image held there bare = record {
  anode = λ p a. by p a (p == page) refl;
  counts = held.counts;
  tail = held.tail;
  once = held.once;
  apart = held.apart;
  tidy = held.tidy;
  bare = λ p a. none p a (p == page) refl;
  slots = held.slots;
}
  where
    by : (p : ℕ) → is_anode p ≡ true → (c : Bool) → (p == page) ≡ c → anode_in state image p ≡ (if c then anode else anodes p)
    by p a true e = let here : p ≡ page = grind (arith, nat_tests, e) in (λ i. anode_in state image (here i)) ∙ there
    by p a false e = held.anode p a

    none : (p : ℕ) → is_anode p ≡ true → (c : Bool) → (p == page) ≡ c → (if c then anode else anodes p).kind ≡ 0 → HasNoBlocks (node_in state image p)
    none p a true e free = let here : p ≡ page = grind (arith, nat_tests, e) in subst (λ (x : ℕ). HasNoBlocks (node_in state image x)) (sym here) (bare free)
    none p a false e free = held.bare p a free

-- a call that changed an anode
changed_puts : (anodes : ℕ → Anode) (page : ℕ) → is_anode page ≡ true → (update : Anode → Anode) (old : State) (puts : List Put) (before after : List ℕ) → HoldsNow anodes old before
    → Changed page update old before (record old { puts = puts }) after → WritesLoose (own_names old before (node_in old before page)) old before before after
    → ((update (anodes page)).kind ≡ 0 → HasNoBlocks (node_in (record old { puts = puts }) after page)) → HoldsNow (set_at page (update (anodes page)) anodes) (record old { puts = puts }) after
changed_puts anodes page is update old puts before after held changed writes bare = by changed.renewed
  where
    there : anode_in (record old { puts = puts }) after page ≡ update (anodes page)
    there = changed.anode ∙ ap update (held.anode page is)

    by : ((record old { puts = puts } ≡ old) × (after ≡ before)) ⊎ IsRenewed page old before (record old { puts = puts }) after → HoldsNow (set_at page (update (anodes page)) anodes) (record old { puts = puts }) after
    by (inr renewed) = turned_held anodes page is (update (anodes page)) old puts before after held changed.turns writes there (changed.tidy (held.tidy page is)) bare renewed.alone renewed.pointers
    by (inl (same, quiet)) = same_held anodes page (update (anodes page)) (record old { puts = puts }) after
        (subst (λ (s : State). HoldsNow anodes s after) (sym same) (subst (λ (l : List ℕ). HoldsNow anodes old l) (sym quiet) held)) there bare

pub holds_changed : (anodes : ℕ → Anode) (page : ℕ) → is_anode page ≡ true → (update : Anode → Anode) (old new : State) (before after : List ℕ) → new ≡ record old { puts = new.puts } → HoldsNow anodes old before
    → Changed page update old before new after → WritesLoose (own_names old before (node_in old before page)) old before before after
    → ((update (anodes page)).kind ≡ 0 → HasNoBlocks (node_in new after page)) → HoldsNow (set_at page (update (anodes page)) anodes) new after
holds_changed anodes page is update old new before after rest held changed writes bare =
    subst (λ (s : State). HoldsNow (set_at page (update (anodes page)) anodes) s after) (sym rest)
    (changed_puts anodes page is update old new.puts before after held (subst (λ (s : State). Changed page update old before s after) rest changed) writes
    (subst (λ (s : State). (update (anodes page)).kind ≡ 0 → HasNoBlocks (node_in s after page)) rest bare))

-- a page that had no blocks
own_none : (state : State) (image : List ℕ) (node : Node) → HasNoBlocks node → (b : ℕ) → own_names state image node b ≡ 0
own_none state image node none b = let e = own_le state image node b in let f = names_none node none b in omega (arith, e, f)

turns_made : (page : ℕ) (set : ℕ → ℕ) (old new : State) (before after : List ℕ) → HasNoBlocks (node_in old before page) → Turns page no_names set old before new after
    → Turns page (own_names old before (node_in old before page)) set old before new after
turns_made page set old new before after none turns = record {
  counts = λ b lt. (let e = turns.counts b lt in let f = own_none old before (node_in old before page) none b in omega (arith, e, f));
  settled = turns.settled;
  tail = turns.tail;
  pages = turns.pages;
}

writes_wider : (state : State) (image before after : List ℕ) (wider : ℕ → ℕ) → WritesLoose no_names state image before after → WritesLoose wider state image before after
writes_wider state image before after wider writes = record {
  front = writes.front;
  blocks = λ b lt not_loose. writes.blocks b lt (λ loose. not_loose (record { there = loose.there; now = (let e = loose.now in omega (arith, e)); settled = loose.settled }));
}

-- an anode that was made
made_puts : (anodes : ℕ → Anode) (page : ℕ) → is_anode page ≡ true → (anode : Anode) (old : State) (puts : List Put) (before after : List ℕ) → HoldsNow anodes old before → (anodes page).kind ≡ 0 → after ≡ before
    → Made page anode old before (record old { puts = puts }) after → IsBare after (node_in (record old { puts = puts }) after page) → HoldsNow (set_at page anode anodes) (record old { puts = puts }) after
made_puts anodes page is anode old puts before after held free quiet there bare =
    turned_held anodes page is anode old puts before after held
    (turns_made page (own_names (record old { puts = puts }) after (node_in (record old { puts = puts }) after page)) old (record old { puts = puts }) before after (held.bare page is free) there.turns)
    (subst (λ (l : List ℕ). WritesLoose (own_names old before (node_in old before page)) old before before l) (sym quiet) (loose_same (own_names old before (node_in old before page)) old before before))
    there.anode_is bare.tidy (λ none. bare.none)
    (alone_none (record old { puts = puts }) after (node_in (record old { puts = puts }) after page) (bare.none 15 (omega arith)))
    (λ b lt. inl (let e = names_none (node_in (record old { puts = puts }) after page) bare.none b in omega (arith, e)))

pub holds_made : (anodes : ℕ → Anode) (page : ℕ) → is_anode page ≡ true → (anode : Anode) (old new : State) (before after : List ℕ) → new ≡ record old { puts = new.puts } → HoldsNow anodes old before → (anodes page).kind ≡ 0 → after ≡ before
    → Made page anode old before new after → IsBare after (node_in new after page) → HoldsNow (set_at page anode anodes) new after
holds_made anodes page is anode old new before after rest held free quiet there bare =
    subst (λ (s : State). HoldsNow (set_at page anode anodes) s after) (sym rest)
    (made_puts anodes page is anode old new.puts before after held free quiet (subst (λ (s : State). Made page anode old before s after) rest there)
    (subst (λ (s : State). IsBare after (node_in s after page)) rest bare))

-- the pointers of a copy
pub copied_fewer : (page : ℕ) (source : Node) (old new : State) (before after : List ℕ) → SharesBlocks page source old before new after
    → (w : ℕ) → w < 68 → w ≢ 15 → (pointer_of (node_in new after page) w ≡ 0) ⊎ (pointer_of (node_in new after page) w ≡ pointer_of source w)
copied_fewer page source old new before after shares w lt other = by (nat_lt w 3) refl (nat_lt w 15) refl
  where
    part : (i : ℕ) → i < 64 → (a : Bool) → nat_lt (1024 * i) (bytes_of source) ≡ a → (pointer_of (node_in new after page) (pointer_at i) ≡ 0) ⊎ (pointer_of (node_in new after page) (pointer_at i) ≡ pointer_of source (pointer_at i))
    part i low true e = inr (shares.bytes i low (grind (arith, nat_tests, e)))
    part i low false e = inl (shares.past i low (grind (arith, nat_tests, e)))

    from_it : (v : ℕ) → v ≡ w → (pointer_of (node_in new after page) v ≡ 0) ⊎ (pointer_of (node_in new after page) v ≡ pointer_of source v) → (pointer_of (node_in new after page) w ≡ 0) ⊎ (pointer_of (node_in new after page) w ≡ pointer_of source w)
    from_it v is which = subst (λ (x : ℕ). (pointer_of (node_in new after page) x ≡ 0) ⊎ (pointer_of (node_in new after page) x ≡ pointer_of source x)) is which

    by : (a : Bool) → nat_lt w 3 ≡ a → (b : Bool) → nat_lt w 15 ≡ b → (pointer_of (node_in new after page) w ≡ 0) ⊎ (pointer_of (node_in new after page) w ≡ pointer_of source w)
    by true e b f = inr (shares.lists w (grind (arith, nat_tests, e)))
    by false e true f =
        let high : 3 ≤ w = grind (arith, nat_tests, e) in
        let low : w < 15 = grind (arith, nat_tests, f) in
        let at : pointer_at (w - 3) ≡ w = (let on : nat_lt (w - 3) 12 ≡ true = grind (arith, nat_tests, high, low) in (λ i. if on i then w - 3 + 3 else w - 3 + 4) ∙ omega (arith, high)) in
        from_it (pointer_at (w - 3)) at (part (w - 3) (omega (arith, low)) (nat_lt (1024 * (w - 3)) (bytes_of source)) refl)
    by false e false f =
        let high : 16 ≤ w = (let ge : 15 ≤ w = grind (arith, nat_tests, f) in omega (arith, ge, other)) in
        let at : pointer_at (w - 4) ≡ w = (let off : nat_lt (w - 4) 12 ≡ false = grind (arith, nat_tests, high) in (λ i. if off i then w - 4 + 3 else w - 4 + 4) ∙ omega (arith, high)) in
        from_it (pointer_at (w - 4)) at (part (w - 4) (omega (arith, lt)) (nat_lt (1024 * (w - 4)) (bytes_of source)) refl)

pub copied_map : (page : ℕ) (source : Node) (old new : State) (before after : List ℕ) → SharesBlocks page source old before new after
    → (pointer_of (node_in new after page) 15 ≡ pointer_of source 15) ⊎ OwnsMap page old before new after
copied_map page source old new before after shares = by (names_past source) refl
  where
    by : (n : ℕ) → names_past source ≡ n → (pointer_of (node_in new after page) 15 ≡ pointer_of source 15) ⊎ OwnsMap page old before new after
    by zero e = inl (shares.map e)
    by (suc n) e = inr (shares.own (omega (arith, e)))

-- a source without blocks has none past its length
bare_past : (node : Node) → HasNoBlocks node → names_past node ≡ 0
bare_past node none = none_many (λ j. nat_le (bytes_of node) (1024 * (12 + j)) && not (pointer_of node (16 + j) == 0)) 52 (λ j low. by j low (nat_le (bytes_of node) (1024 * (12 + j))))
  where
    by : (j : ℕ) → j < 52 → (a : Bool) → (a && not (pointer_of node (16 + j) == 0)) ≡ false
    by j low true = (let zero = none (16 + j) (omega (arith, low)) in λ i. not (zero i == 0))
    by j low false = refl

copied_bare : (page : ℕ) (source : Node) (old new : State) (before after : List ℕ) → SharesBlocks page source old before new after → HasNoBlocks source → HasNoBlocks (node_in new after page)
copied_bare page source old new before after shares none w lt = by (cases_eq w 15)
  where
    at : (pointer_of (node_in new after page) w ≡ 0) ⊎ (pointer_of (node_in new after page) w ≡ pointer_of source w) → pointer_of (node_in new after page) w ≡ 0
    at (inl empty) = empty
    at (inr from_it) = from_it ∙ none w lt

    by : (w ≡ 15) ⊎ (w ≢ 15) → pointer_of (node_in new after page) w ≡ 0
    by (inl is) = (λ i. pointer_of (node_in new after page) (is i)) ∙ shares.map (bare_past source none) ∙ none 15 (omega arith)
    by (inr off) = at (copied_fewer page source old new before after shares w lt off)

copied_puts : (anodes : ℕ → Anode) (from page : ℕ) → is_anode from ≡ true → is_anode page ≡ true → from ≢ page → (old : State) (puts : List Put) (before after : List ℕ) → HoldsNow anodes old before → (anodes page).kind ≡ 0
    → Made page (anode_in old before from) old before (record old { puts = puts }) after → SharesBlocks page (node_in old before from) old before (record old { puts = puts }) after
    → WritesLoose no_names old before before after → NamesApart page (node_in old before from) old before
    → HoldsNow (set_at page (anodes from) anodes) (record old { puts = puts }) after
copied_puts anodes from page is_from is apart old puts before after held free there shares writes clear =
    copied_held anodes page is (anodes from) old puts before after held
    (turns_made page (own_names (record old { puts = puts }) after (node_in (record old { puts = puts }) after page)) old (record old { puts = puts }) before after none there.turns)
    (writes_wider old before before after (own_names old before (node_in old before page)) writes)
    (there.anode_is ∙ held.anode from is_from) (shares.tidy (held.tidy from is_from))
    (λ gone. copied_bare page (node_in old before from) old (record old { puts = puts }) before after shares (held.bare from is_from gone))
    from is_from apart none (copied_fewer page (node_in old before from) old (record old { puts = puts }) before after shares) clear
    (copied_map page (node_in old before from) old (record old { puts = puts }) before after shares)
  where
    none : HasNoBlocks (node_in old before page)
    none = held.bare page is free

pub holds_copied : (anodes : ℕ → Anode) (from page : ℕ) → is_anode from ≡ true → is_anode page ≡ true → from ≢ page → (old new : State) (before after : List ℕ) → new ≡ record old { puts = new.puts } → HoldsNow anodes old before → (anodes page).kind ≡ 0
    → Made page (anode_in old before from) old before new after → SharesBlocks page (node_in old before from) old before new after
    → WritesLoose no_names old before before after → NamesApart page (node_in old before from) old before → HoldsNow (set_at page (anodes from) anodes) new after
holds_copied anodes from page is_from is apart old new before after rest held free there shares writes clear =
    subst (λ (s : State). HoldsNow (set_at page (anodes from) anodes) s after) (sym rest)
    (copied_puts anodes from page is_from is apart old new.puts before after held free (subst (λ (s : State). Made page (anode_in old before from) old before s after) rest there)
    (subst (λ (s : State). SharesBlocks page (node_in old before from) old before s after) rest shares) writes clear)

-- and the other anodes are the same
pub made_beside : (anodes : ℕ → Anode) (page q : ℕ) (anode : Anode) (old new : State) (before after : List ℕ) → is_anode q ≡ true → q ≢ page → HoldsNow anodes old before → new ≡ record old { puts = new.puts }
    → Made page anode old before new after → WritesLoose no_names old before before after → node_in new after q ≡ node_in old before q
made_beside anodes page q anode old new before after is apart held rest made writes =
    node_stays no_names q old new before after (λ i. (rest i).superblock.blocks) counted writes (made.turns.pages q (anode_low q is) apart)
  where
    counted : AreCounted (λ b. no_names b + names (node_in old before q) b) old before
    counted b lt = let e = counted_all anodes old before held q is b lt in omega (arith, e)
