-- The anodes of all pages where that of one page changed.
use Rattle.std.proofs.Common.{◌≡◌, ◌≢◌, ◌<◌, ◌≤◌, ◌⊎◌, ℕ, ◌+◌, ◌-◌, ◌*◌, List, refl, sym, ◌∙◌, subst, inl, inr, arith}
use Rattle.std.specs.Prelude.{Bool, true, false, ◌==◌, ◌&&◌, if◌then◌else◌, nat_lt}
use Rattle.std.proofs.lemmas.Bool.{cases_eq}
use Rattle.std.proofs.lemmas.Bool.Decides.{nat_tests}
use Rattle.disk_layout.specs.Numbers.{number_at}
use Rattle.disk_space.specs.Counts.{count_page, count_place}
use Rattle.disk_anode.specs.Anode.{Anode, anode_of, IsTidy}
use Rattle.disk_anode.specs.Changes.{IsSpare}
use Rattle.disk_anode.specs.Node.{pointer_of, is_pointer, map_under, names, names_below, node_of, HasNoBlocks}
use Rattle.disk_anode.specs.Room.{how_many}
use Rattle.disk_anode.specs.declared.node.Node.{Node}
use Rattle.disk_anode.proofs.Cells.{pointer_facts, named_some}
use Rattle.disk_objects.specs.Holds.{is_anode, slot_at, page_names, indirect_of, map_names, set_at, Holds}
use Rattle.disk_objects.proofs.Sums.{many_some, many_two}
use Rattle.disk_objects.proofs.Totals.{beside, indirect_as, total_same}
use Rattle.disk_objects.proofs.Nodes.{all_split, map_pointer, own_of, rest_of, with_others, own_alone, own_invalid, other_page, rest_names}

pub names_some : (node : Node) (b : ℕ) → 1 ≤ names node b → (w : ℕ) × (w < 68) × (pointer_of node w ≡ b + 1)
unfolding names
names_some node b some =
    let found = many_some (λ w. pointer_of node w == b + 1) 68 (omega (arith, some)) in
    let test = found.2 in
    (found.0, found.1, grind (arith, nat_tests, test))

pub names_two : (node : Node) (w b : ℕ) → w < 68 → w ≢ 15 → pointer_of node 15 ≡ b + 1 → pointer_of node w ≡ b + 1 → 2 ≤ names node b
unfolding names
names_two node w b lt apart here there =
    let e : (pointer_of node 15 == b + 1) ≡ true = grind (arith, nat_tests, here) in
    let f : (pointer_of node w == b + 1) ≡ true = grind (arith, nat_tests, there) in
    many_two (λ v. pointer_of node v == b + 1) 15 w 68 (omega arith) lt (λ is. apart (sym is)) e f

-- a page's anode changed, and no other one
module _ (blocks : ℕ) (old new : ℕ → List ℕ) (before after : List ℕ) (page : ℕ) (is : is_anode page ≡ true)
    (stay : (q : ℕ) → is_anode q ≡ true → q ≢ page → node_of blocks after (new q) ≡ node_of blocks before (old q)) where
  front_stay : (b p : ℕ) → p ≢ page → page_names blocks new after b p ≡ page_names blocks old before b p
  front_stay b p apart = by (is_anode p) refl
    where
      by : (a : Bool) → is_anode p ≡ a → (if a then names_below 16 (node_of blocks after (new p)) b else 0) ≡ (if a then names_below 16 (node_of blocks before (old p)) b else 0)
      by true e = λ i. names_below 16 (stay p e apart i) b
      by false e = refl

  indirect_stay : (p : ℕ) → p ≢ page → indirect_of blocks new after p ≡ indirect_of blocks old before p
  indirect_stay p apart = by (is_anode p) refl
    where
      by : (a : Bool) → is_anode p ≡ a → (if a then pointer_of (node_of blocks after (new p)) 15 else 0) ≡ (if a then pointer_of (node_of blocks before (old p)) 15 else 0)
      by true e = λ i. pointer_of (stay p e apart i) 15
      by false e = refl

  beside_stay : (f g : ℕ → ℕ) → ((p : ℕ) → p ≢ page → f p ≡ g p) → (p : ℕ) → beside page f p ≡ beside page g p
  beside_stay f g same p = by (p == page) refl
    where
      by : (a : Bool) → (p == page) ≡ a → (if a then 0 else f p) ≡ (if a then 0 else g p)
      by true e = refl
      by false e = same p (λ here. (let on : (p == page) ≡ true = grind (arith, nat_tests, here) in grind (arith, e, on)))

  pub others_stay : (m : ℕ) → with_others blocks new after page m ≡ with_others blocks old before page m
  others_stay m = indirect_as (beside page (indirect_of blocks new after)) (beside page (indirect_of blocks old before)) m (λ p lt. beside_stay (indirect_of blocks new after) (indirect_of blocks old before) indirect_stay p)

  maps_stay : (b m : ℕ) → with_others blocks old before page m ≡ true → map_names blocks after b m ≡ map_names blocks before b m
  maps_stay b m on =
      let found = other_page blocks old before page m on in
      let q = found.0 in
      let same = stay q found.1 found.2 in
      let there : pointer_of (node_of blocks after (new q)) 15 ≡ m + 1 = (λ i. pointer_of (same i) 15) ∙ found.3 in
      let e : (j : ℕ) → number_at 4 (4 * j) (map_under blocks after (m + 1)) ≡ number_at 4 (4 * j) (map_under blocks before (m + 1)) =
      λ j. map_pointer blocks after (new q) m j there ∙ (λ i. pointer_of (same i) (16 + j)) ∙ sym (map_pointer blocks before (old q) m j found.3) in
      λ i. how_many (λ j. e j i == b + 1) 52

  pub rest_stays : (b : ℕ) → rest_of blocks new after page b ≡ rest_of blocks old before page b
  rest_stays b = total_same (beside page (page_names blocks old before b)) (beside page (indirect_of blocks old before)) (map_names blocks before b)
      (beside page (page_names blocks new after b)) (beside page (indirect_of blocks new after)) (map_names blocks after b) blocks
      (λ p lt. beside_stay (page_names blocks new after b) (page_names blocks old before b) (front_stay b) p)
      (λ p lt. beside_stay (indirect_of blocks new after) (indirect_of blocks old before) indirect_stay p)
      (λ m lt on. maps_stay b m on)

  -- its counts move with its pointers
  module _ (anodes : ℕ → Anode) (held : Holds anodes blocks old before) (anode : Anode)
      (is_new : anode_of after (node_of blocks after (new page)) ≡ anode)
      (same : (q : ℕ) → is_anode q ≡ true → q ≢ page → anode_of after (node_of blocks after (new q)) ≡ anode_of before (node_of blocks before (old q)))
      (tidies : (q : ℕ) → is_anode q ≡ true → q ≢ page → IsTidy after (node_of blocks after (new q)))
      (tidy : IsTidy after (node_of blocks after (new page)))
      (bare : anode.kind ≡ 0 → HasNoBlocks (node_of blocks after (new page)))
      (moves : (b : ℕ) → b < blocks → number_at 2 (count_place b) (new (count_page b)) ≡ rest_of blocks old before page b + own_of blocks new after page b)
      (tail : (b : ℕ) → IsSpare blocks b → number_at 2 (count_place b) (new (count_page b)) ≡ 0)
      (once : (b : ℕ) → b < blocks → names (node_of blocks after (new page)) b ≤ 1)
      (slots_here : (q b : ℕ) → is_anode q ≡ true → q ≢ page → slot_at page ≡ slot_at q → b < blocks → names (node_of blocks after (new page)) b + names (node_of blocks before (old q)) b ≤ 1)
      (apart_here : (q w b : ℕ) → is_anode q ≡ true → q ≢ page → b < blocks → pointer_of (node_of blocks after (new page)) 15 ≡ b + 1 → w < 68 → w ≢ 15 → pointer_of (node_of blocks before (old q)) w ≢ b + 1)
      (apart_there : (p w b : ℕ) → is_anode p ≡ true → p ≢ page → b < blocks → pointer_of (node_of blocks before (old p)) 15 ≡ b + 1 → w < 68 → w ≢ 15 → pointer_of (node_of blocks after (new page)) w ≢ b + 1) where
    set_here : set_at page anode anodes page ≡ anode
    set_here = let e : (page == page) ≡ true = grind (arith, nat_tests) in λ i. if e i then anode else anodes page

    set_other : (p : ℕ) → p ≢ page → set_at page anode anodes p ≡ anodes p
    set_other p apart = let e : (p == page) ≡ false = grind (arith, nat_tests) in λ i. if e i then anode else anodes p

    anode_is : (p : ℕ) → is_anode p ≡ true → (p ≡ page) ⊎ (p ≢ page) → anode_of after (node_of blocks after (new p)) ≡ set_at page anode anodes p
    anode_is p a (inl here) = subst (λ (x : ℕ). anode_of after (node_of blocks after (new x)) ≡ set_at page anode anodes x) (sym here) (is_new ∙ sym set_here)
    anode_is p a (inr apart) = same p a apart ∙ held.anode p a ∙ sym (set_other p apart)

    once_is : (p b : ℕ) → is_anode p ≡ true → b < blocks → (p ≡ page) ⊎ (p ≢ page) → names (node_of blocks after (new p)) b ≤ 1
    once_is p b a lt (inl here) = subst (λ (x : ℕ). names (node_of blocks after (new x)) b ≤ 1) (sym here) (once b lt)
    once_is p b a lt (inr apart) = let f = held.once p b a lt in let e : names (node_of blocks after (new p)) b ≡ names (node_of blocks before (old p)) b = (λ i. names (stay p a apart i) b) in omega (arith, e, f)

    slots_is : (p q b : ℕ) → is_anode p ≡ true → is_anode q ≡ true → p ≢ q → slot_at p ≡ slot_at q → b < blocks → (p ≡ page) ⊎ (p ≢ page) → (q ≡ page) ⊎ (q ≢ page)
        → names (node_of blocks after (new p)) b + names (node_of blocks after (new q)) b ≤ 1
    slots_is p q b a c off same lt (inl e) (inl f) = absurd (off (e ∙ sym f))
    slots_is p q b a c off same lt (inl e) (inr f) =
        let s = slots_here q b c f ((λ i. slot_at (sym e i)) ∙ same) lt in
        let m : names (node_of blocks after (new p)) b ≡ names (node_of blocks after (new page)) b = (λ i. names (node_of blocks after (new (e i))) b) in
        let n : names (node_of blocks after (new q)) b ≡ names (node_of blocks before (old q)) b = (λ i. names (stay q c f i) b) in
        omega (arith, s, m, n)
    slots_is p q b a c off same lt (inr e) (inl f) =
        let s = slots_here p b a e ((λ i. slot_at (sym f i)) ∙ sym same) lt in
        let m : names (node_of blocks after (new q)) b ≡ names (node_of blocks after (new page)) b = (λ i. names (node_of blocks after (new (f i))) b) in
        let n : names (node_of blocks after (new p)) b ≡ names (node_of blocks before (old p)) b = (λ i. names (stay p a e i) b) in
        omega (arith, s, m, n)
    slots_is p q b a c off same lt (inr e) (inr f) =
        let s = held.slots p q b a c off same lt in
        let m : names (node_of blocks after (new p)) b ≡ names (node_of blocks before (old p)) b = (λ i. names (stay p a e i) b) in
        let n : names (node_of blocks after (new q)) b ≡ names (node_of blocks before (old q)) b = (λ i. names (stay q c f i) b) in
        omega (arith, s, m, n)

    tidy_is : (p : ℕ) → is_anode p ≡ true → (p ≡ page) ⊎ (p ≢ page) → IsTidy after (node_of blocks after (new p))
    tidy_is p a (inl here) = subst (λ (x : ℕ). IsTidy after (node_of blocks after (new x))) (sym here) tidy
    tidy_is p a (inr apart) = tidies p a apart

    bare_is : (p : ℕ) → is_anode p ≡ true → (p ≡ page) ⊎ (p ≢ page) → (set_at page anode anodes p).kind ≡ 0 → HasNoBlocks (node_of blocks after (new p))
    bare_is p a (inl here) free = subst (λ (x : ℕ). (set_at page anode anodes x).kind ≡ 0 → HasNoBlocks (node_of blocks after (new x))) (sym here) (λ zero. bare ((λ i. (sym set_here i).kind) ∙ zero)) free
    bare_is p a (inr apart) free = subst (λ (n : Node). HasNoBlocks n) (sym (stay p a apart)) (held.bare p a ((λ i. (sym (set_other p apart) i).kind) ∙ free))

    apart_is : (p q w b : ℕ) → is_anode p ≡ true → is_anode q ≡ true → b < blocks → pointer_of (node_of blocks after (new p)) 15 ≡ b + 1 → w < 68 → w ≢ 15 → pointer_of (node_of blocks after (new q)) w ≡ b + 1
        → (p ≡ page) ⊎ (p ≢ page) → (q ≡ page) ⊎ (q ≢ page) → ⊥
    apart_is p q w b a c low here lt other there (inl e) (inl f) =
        let two = names_two (node_of blocks after (new page)) w b lt other ((λ i. pointer_of (node_of blocks after (new (sym e i))) 15) ∙ here) ((λ i. pointer_of (node_of blocks after (new (sym f i))) w) ∙ there) in
        let few = once b low in
        omega (arith, two, few)
    apart_is p q w b a c low here lt other there (inl e) (inr f) = apart_here q w b c f low ((λ i. pointer_of (node_of blocks after (new (sym e i))) 15) ∙ here) lt other ((λ i. pointer_of (sym (stay q c f) i) w) ∙ there)
    apart_is p q w b a c low here lt other there (inr e) (inl f) = apart_there p w b a e low ((λ i. pointer_of (sym (stay p a e) i) 15) ∙ here) lt other ((λ i. pointer_of (node_of blocks after (new (sym f i))) w) ∙ there)
    apart_is p q w b a c low here lt other there (inr e) (inr f) = held.apart p q w b a c low ((λ i. pointer_of (sym (stay p a e) i) 15) ∙ here) lt other ((λ i. pointer_of (sym (stay q c f) i) w) ∙ there)

    pub holds_with : Holds (set_at page anode anodes) blocks new after
    holds_with = record {
      anode = λ p a. anode_is p a (cases_eq p page);
      counts = λ b lt. moves b lt ∙ (λ i. sym (rest_stays b) i + own_of blocks new after page b) ∙ sym (all_split blocks new after page is b);
      tail = tail;
      once = λ p b a lt. once_is p b a lt (cases_eq p page);
      apart = λ p q w b a c low here lt other there. apart_is p q w b a c low here lt other there (cases_eq p page) (cases_eq q page);
      tidy = λ p a. tidy_is p a (cases_eq p page);
      bare = λ p a. bare_is p a (cases_eq p page);
      slots = λ p q b a c off same lt. slots_is p q b a c off same lt (cases_eq p page) (cases_eq q page);
    }

  -- its own pointers, where the counts say that its indirect block isn't shared
  pub own_new : (b : ℕ) → (is_pointer blocks (pointer_of (node_of blocks after (new page)) 15) && nat_lt 1 (number_at 2 (count_place (pointer_of (node_of blocks after (new page)) 15 - 1)) (new (count_page (pointer_of (node_of blocks after (new page)) 15 - 1))))) ≡ false
      → ((x : ℕ) → x < blocks → number_at 2 (count_place x) (new (count_page x)) ≡ rest_of blocks old before page x + names (node_of blocks after (new page)) x)
      → own_of blocks new after page b ≡ names (node_of blocks after (new page)) b
  own_new b alone counts = by (is_pointer blocks (pointer_of (node_of blocks after (new page)) 15)) refl
    where
      by : (a : Bool) → is_pointer blocks (pointer_of (node_of blocks after (new page)) 15) ≡ a → own_of blocks new after page b ≡ names (node_of blocks after (new page)) b
      by false e = own_invalid blocks new after page is b e
      by true e = at (with_others blocks new after page m) refl
        where
          m : ℕ
          m = pointer_of (node_of blocks after (new page)) 15 - 1

          there : pointer_of (node_of blocks after (new page)) 15 ≡ m + 1
          there = let facts = pointer_facts blocks (pointer_of (node_of blocks after (new page)) 15) e in let some = facts.0 in omega (arith, some)

          low : m < blocks
          low = let facts = pointer_facts blocks (pointer_of (node_of blocks after (new page)) 15) e in let some = facts.0 in let within = facts.1 in omega (arith, some, within)

          at : (a : Bool) → with_others blocks new after page m ≡ a → own_of blocks new after page b ≡ names (node_of blocks after (new page)) b
          at false off = own_alone blocks new after page is m b there low off
          at true on =
              let found = other_page blocks old before page m (sym (others_stay m) ∙ on) in
              let f = rest_names blocks old before page found.0 m found.1 found.2 in
              let g = named_some (node_of blocks before (old found.0)) 15 m (omega arith) found.3 in
              let h = named_some (node_of blocks after (new page)) 15 m (omega arith) there in
              let c = counts m low in
              let two : 1 < number_at 2 (count_place m) (new (count_page m)) = omega (arith, f, g, h, c) in
              let yes : nat_lt 1 (number_at 2 (count_place m) (new (count_page m))) ≡ true = grind (arith, nat_tests, two) in
              absurd (let all : true ≡ false = (λ i. sym e i && sym yes i) ∙ alone in grind (arith, all))
