-- Anodes before and after a change.
use Rattle.std.proofs.Common.{◌≡◌, ◌≢◌, ◌<◌, ◌≤◌, ◌⊎◌, ℕ, ◌+◌, ◌-◌, ◌*◌, ◌/◌, ◌%◌, List, [], length, get_or, refl, sym, ◌∙◌, ap, subst, inl, inr, arith}
use Rattle.std.specs.Prelude.{Bool, true, false, ◌==◌, ◌&&◌, if◌then◌else◌, nat_lt, nat_le, max, min}
use Rattle.std.proofs.lemmas.Bool.{cases_eq}
use Rattle.std.proofs.lemmas.Bool.Decides.{nat_tests}
use Rattle.base_types.specs.Image.{byte_at, bytes_from}
use Rattle.base_types.specs.View.{View}
use Rattle.base_outside.proofs.Image.{bytes_from-same}
use Rattle.disk_layout.specs.Numbers.{number_at}
use Rattle.disk_layout.proofs.Bytes.{number-same}
use Rattle.disk_log.specs.State.{State}
use Rattle.disk_anode.specs.Node.{pointer_of, pointer_at, byte_under, cell, names, node_in, HasLength, SameFacts}
use Rattle.disk_anode.specs.Anode.{Anode, anode_of, byte_length, bytes_of, length_for, text_at, content_at, over, written, IsTidy, IsTrimmed, with_list}
use Rattle.disk_anode.specs.Changes.{IsSpare, is_shared, IsLoose, WritesLoose, Turns, Laid, Saved, Turned, WroteLoose, Replaced, Renews}
use Rattle.disk_anode.specs.declared.node.Node.{Node}
use Rattle.disk_anode.proofs.Renewing.{renews_on, renews_as, ranged_on}
use Rattle.disk_anode.proofs.Counting.{same_many}
use Rattle.disk_anode.proofs.Pointers.{pointer_front, pointer_back, number_apart}
use Rattle.base_outside.proofs.Runs.{wider_changes}
use Rattle.disk_anode.proofs.Laid.{over_inside, over_outside, content_high, pointer_in}

-- the pointers stay where the length changes
pub length_pointers : (n : ℕ) (old new : Node) → HasLength n old new → (w : ℕ) → pointer_of new w ≡ pointer_of old w
length_pointers n old new has w = by (nat_lt w 16) refl
  where
    by : (front : Bool) → nat_lt w 16 ≡ front → pointer_of new w ≡ pointer_of old w
    by true e =
        let low : w < 16 = grind (arith, nat_tests) in
        pointer_front new w low ∙ number_apart 8 (12 + 4 * w) old.page new.page (inr (omega arith)) has.torn ∙ sym (pointer_front old w low)
    by false e =
        let high : 16 ≤ w = grind (arith, nat_tests) in
        pointer_back new w high ∙ (let m = has.map in λ i. number_at 4 (4 * (w - 16)) (m i)) ∙ sym (pointer_back old w high)

pub names_same : (old new : Node) → ((w : ℕ) → pointer_of new w ≡ pointer_of old w) → (b : ℕ) → names new b ≡ names old b
unfolding names
names_same old new same b = same_many (λ w. pointer_of new w == b + 1) (λ w. pointer_of old w == b + 1) 68 (λ w lt. (let e = same w in λ i. e i == b + 1))

pub cell_moved : (image : List ℕ) (old new : Node) → new.blocks ≡ old.blocks → ((w : ℕ) → pointer_of new w ≡ pointer_of old w) → (w k : ℕ) → cell image new w k ≡ cell image old w k
unfolding cell
cell_moved image old new blocks same w k = (let e = same w in λ i. byte_under (blocks i) image (e i) k)

-- what stays of a page
pub record SameBeside (old new : List ℕ) : Type 0 where
  pub low : (k : ℕ) → k < 8 → byte_at new k ≡ byte_at old k
  pub high : (k : ℕ) → 76 ≤ k → byte_at new k ≡ byte_at old k

text_same : (old new : List ℕ) (at : ℕ) → 76 ≤ at → SameBeside old new → text_at new at ≡ text_at old at
text_same old new at le same =
    (let e = same.high at le in λ i. bytes_from new (at + 1) (e i))
    ∙ bytes_from-same new old (at + 1) (byte_at old at) (λ k low high. same.high k (omega arith))

pub anode_as : (before after : List ℕ) (old new : Node) (n : ℕ) (content : ℕ → ℕ) → SameBeside old.page new.page → number_at 4 8 new.page ≡ n
    → ((v k : ℕ) → v < 3 → k < 1024 → cell after new v k ≡ cell before old v k)
    → ((k : ℕ) → content_at after new (byte_length (byte_at old.page 0) n) k ≡ content k)
    → anode_of after new ≡ record (anode_of before old) { length = n; content = content }
anode_as before after old new n content same is lists bytes =
    let kind = same.low 0 (omega arith) in
    let unique = number-same 4 4 4 new.page old.page (λ j lt. same.low (4 + j) (omega arith)) in
    let owner = text_same old.page new.page 76 (omega arith) same in
    let group = text_same old.page new.page 137 (omega arith) same in
    λ i. record {
      kind = kind i;
      unique = unique i;
      length = is i;
      owner = owner i;
      group = group i;
      lists = λ which k. list which k (nat_lt which 3) refl (nat_lt k 1024) refl i;
      content = λ k. ((λ j. content_at after new (byte_length (kind j) (is j)) k) ∙ bytes k) i;
    }
  where
    list : (which k : ℕ) → (a : Bool) → nat_lt which 3 ≡ a → (b : Bool) → nat_lt k 1024 ≡ b → (if a && b then cell after new which k else 0) ≡ (if a && b then cell before old which k else 0)
    list which k true a true b = let low : which < 3 = grind (arith, nat_tests) in let lt : k < 1024 = grind (arith, nat_tests) in lists which k low lt
    list which k true a false b = refl
    list which k false a b e = refl

-- content by cells
pub content_by : (image : List ℕ) (node : Node) (n : ℕ) (bytes : ℕ → ℕ) → n ≤ 65536 → ((i k : ℕ) → i < 64 → k < 1024 → cell image node (pointer_at i) k ≡ bytes (1024 * i + k))
    → (k : ℕ) → content_at image node n k ≡ (if nat_lt k n then bytes k else 0)
content_by image node n bytes le cells k = by (nat_lt k n) refl
  where
    by : (inside : Bool) → nat_lt k n ≡ inside → (if inside then cell image node (pointer_at (k / 1024)) (k % 1024) else 0) ≡ (if inside then bytes k else 0)
    by true e = let low : k < n = grind (arith, nat_tests) in let whole : 1024 * (k / 1024) + k % 1024 ≡ k = omega arith in cells (k / 1024) (k % 1024) (omega arith) (omega arith) ∙ ap bytes whole
    by false e = refl

-- a length in bytes is 65,536 at most
pub length_most : (kind n : ℕ) → byte_length kind n ≤ 65536
length_most kind n = by (kind == 1)
  where
    by : (dir : Bool) → min (if dir then 72 * n else n) 65536 ≤ 65536
    by true = omega arith
    by false = omega arith

-- the same anode, whose pointers may be others
pub anode_kept : (before after : List ℕ) (old new : Node) → SameFacts old new → ((v k : ℕ) → v < 3 → k < 1024 → cell after new v k ≡ cell before old v k)
    → ((i k : ℕ) → i < 64 → 1024 * i < bytes_of old → k < 1024 → cell after new (pointer_at i) k ≡ cell before old (pointer_at i) k) → anode_of after new ≡ anode_of before old
anode_kept before after old new facts lists bytes =
    anode_as before after old new (number_at 4 8 old.page) (λ k. content_at before old (bytes_of old) k)
    (record { low = λ k lt. facts.rest k (inl (omega arith)); high = λ k le. facts.rest k (inr le) })
    (number-same 4 8 8 new.page old.page (λ j lt. facts.rest (8 + j) (inl (omega arith)))) lists (λ k. by k (nat_lt k (bytes_of old)) refl (length_most (byte_at old.page 0) (number_at 4 8 old.page)))
  where
    by : (k : ℕ) → (inside : Bool) → nat_lt k (bytes_of old) ≡ inside → bytes_of old ≤ 65536
        → (if inside then cell after new (pointer_at (k / 1024)) (k % 1024) else 0) ≡ (if inside then cell before old (pointer_at (k / 1024)) (k % 1024) else 0)
    by k true e most = let lt : k < bytes_of old = grind (arith, nat_tests) in bytes (k / 1024) (k % 1024) (omega arith) (omega arith) (omega arith)
    by k false e most = refl

-- lengths
reached : (kind n end : ℕ) → end ≤ 65536 → end ≤ byte_length kind (max n (length_for kind end))
reached kind n end le = by (kind == 1)
  where
    by : (dir : Bool) → end ≤ min (if dir then 72 * max n (if dir then (end + 71) / 72 else end) else max n (if dir then (end + 71) / 72 else end)) 65536
    by true = omega arith
    by false = omega arith

no_shorter : (kind n m : ℕ) → byte_length kind n ≤ byte_length kind (max n m)
no_shorter kind n m = by (kind == 1)
  where
    by : (dir : Bool) → min (if dir then 72 * n else n) 65536 ≤ min (if dir then 72 * max n m else max n m) 65536
    by true = omega arith
    by false = omega arith

no_longer : (kind n end : ℕ) → end ≤ byte_length kind n → byte_length kind (max n (length_for kind end)) ≤ byte_length kind n
no_longer kind n end le = by (kind == 1) le
  where
    by : (dir : Bool) → end ≤ min (if dir then 72 * n else n) 65536
        → min (if dir then 72 * max n (if dir then (end + 71) / 72 else end) else max n (if dir then (end + 71) / 72 else end)) 65536 ≤ min (if dir then 72 * n else n) 65536
    by true below = omega arith
    by false below = omega arith

-- what a length does to content
content_cut : (image : List ℕ) (node : Node) (m n k : ℕ) → (m ≤ n) ⊎ (k < n) → (n ≤ m) ⊎ (k < m) → content_at image node m k ≡ content_at image node n k
content_cut image node m n k one two = by (nat_lt k m) refl (nat_lt k n) refl one two
  where
    by : (a : Bool) → nat_lt k m ≡ a → (b : Bool) → nat_lt k n ≡ b → (m ≤ n) ⊎ (k < n) → (n ≤ m) ⊎ (k < m)
        → (if a then cell image node (pointer_at (k / 1024)) (k % 1024) else 0) ≡ (if b then cell image node (pointer_at (k / 1024)) (k % 1024) else 0)
    by true e true f first second = refl
    by false e false f first second = refl
    by true e false f (inl le) second = let a : k < m = grind (arith, nat_tests) in let b : n ≤ k = grind (arith, nat_tests) in absurd (omega arith)
    by true e false f (inr lt) second = let b : n ≤ k = grind (arith, nat_tests) in absurd (omega arith)
    by false e true f first (inl le) = let a : m ≤ k = grind (arith, nat_tests) in let b : k < n = grind (arith, nat_tests) in absurd (omega arith)
    by false e true f first (inr lt) = let a : m ≤ k = grind (arith, nat_tests) in absurd (omega arith)

-- a piece over bytes of which those before `kept` stay, up to a new length
pub over_cut : (image : List ℕ) (node : Node) (bytes kept last from : ℕ) (piece : List ℕ) → from + length piece ≤ last → bytes ≤ last
    → (kept ≡ bytes) ⊎ ((kept ≡ 65536) × (last ≤ bytes)) → last ≤ 65536
    → (k : ℕ) → (if nat_lt k last then over from piece (λ m. content_at image node kept m) k else 0) ≡ over from piece (λ m. content_at image node bytes m) k
over_cut image node bytes kept last from piece within le how most k = by (nat_lt k last) refl (nat_le from k) refl (nat_lt k (from + length piece)) refl
  where
    plain : k < last → (kept ≡ bytes) ⊎ ((kept ≡ 65536) × (last ≤ bytes)) → content_at image node kept k ≡ content_at image node bytes k
    plain lt (inl e) = λ i. content_at image node (e i) k
    plain lt (inr (e, high)) = content_cut image node kept bytes k (inr (omega arith)) (inr (omega (arith, e)))

    past : last ≤ k → 0 ≡ content_at image node bytes k
    past high = sym (content_high image node bytes k (omega arith))

    by : (c : Bool) → nat_lt k last ≡ c → (a : Bool) → nat_le from k ≡ a → (b : Bool) → nat_lt k (from + length piece) ≡ b
        → (if c then (if a && b then get_or piece (k - from) 0 else content_at image node kept k) else 0) ≡ (if a && b then get_or piece (k - from) 0 else content_at image node bytes k)
    by true c true a true b = refl
    by true c true a false b = let lt : k < last = grind (arith, nat_tests) in plain lt how
    by true c false a b e = let lt : k < last = grind (arith, nat_tests) in plain lt how
    by false c true a true b = let high : last ≤ k = grind (arith, nat_tests) in let low : k < from + length piece = grind (arith, nat_tests) in absurd (omega arith)
    by false c true a false b = let high : last ≤ k = grind (arith, nat_tests) in past high
    by false c false a b e = let high : last ≤ k = grind (arith, nat_tests) in past high

-- a length that was set, over the bytes before it
pub cut_over : (image : List ℕ) (node : Node) (bytes kept last : ℕ) → kept ≡ min last bytes
    → (k : ℕ) → (if nat_lt k last then over 0 [] (λ m. content_at image node kept m) k else 0) ≡ (if nat_lt k last then content_at image node bytes k else 0)
cut_over image node bytes kept last e k = by (nat_lt k last) refl
  where
    by : (c : Bool) → nat_lt k last ≡ c → (if c then over 0 [] (λ m. content_at image node kept m) k else 0) ≡ (if c then content_at image node bytes k else 0)
    by true c = let lt : k < last = grind (arith, nat_tests) in over_outside 0 [] (λ m. content_at image node kept m) k (inr (omega arith)) ∙ bounded (nat_lt k bytes) refl lt
      where
        bounded : (b : Bool) → nat_lt k bytes ≡ b → k < last → content_at image node kept k ≡ content_at image node bytes k
        bounded true b lt = let low : k < bytes = grind (arith, nat_tests) in content_cut image node kept bytes k (inr low) (inr (omega (arith, e)))
        bounded false b lt = let high : bytes ≤ k = grind (arith, nat_tests) in content_cut image node kept bytes k (inl (omega (arith, e))) (inl (omega (arith, e)))
    by false c = refl

-- the whole: bytes laid anew, a length, and the anode put in its page
module _ (page n kept from : ℕ) (piece : List ℕ) (node laid sized stored : Node) (old mid new : State) (before middle after : List ℕ) (blocks : mid.superblock.blocks ≡ old.superblock.blocks)
    (done : Laid kept from piece node old before laid mid middle) (facts : SameFacts node laid) (has : HasLength n laid sized) (saved : Saved page sized mid middle stored new after) (facts_2 : SameFacts sized stored) (there : node.blocks ≡ old.superblock.blocks) where
  same_names : (b : ℕ) → names sized b ≡ names laid b
  same_names = names_same laid sized (length_pointers n laid sized has)

  renews_stored : Renews (names node) (names stored) old before
  renews_stored = renews_on (names node) (names laid) (names stored) old mid before middle blocks done.moves.counts done.renews
      (renews_as (names sized) (names stored) (names laid) (names stored) mid middle (λ b. sym (same_names b)) (λ b. refl) saved.renews)

  pub turns_on : Turns page (names node) (names (node_in new after page)) old before new after
  turns_on = subst (λ (x : Node). Turns page (names node) (names x) old before new after) (sym saved.there) (record {
    counts = λ b lt. (let e = done.moves.counts b lt in let f = saved.turns.counts b (omega (arith, blocks, lt)) in let h = same_names b in omega (arith, e, f, h));
    settled = λ b lt. saved.turns.settled b (omega (arith, blocks, lt)) ∙ done.moves.settled b lt;
    tail = λ b spare. saved.turns.tail b (subst (λ (m : ℕ). IsSpare m b) (sym blocks) spare) ∙ done.moves.tail b spare;
    pages = λ p low apart. saved.turns.pages p low apart ∙ done.moves.pages p low;
  })

  cell_on : (v k : ℕ) → v < 68 → v ≢ 15 → k < 1024 → cell after stored v k ≡ cell middle laid v k
  cell_on v k below apart lt = saved.cells v k below apart lt ∙ cell_moved middle laid sized has.blocks (length_pointers n laid sized has) v k

  beside_on : SameBeside node.page stored.page
  beside_on = record {
    low = λ k lt. facts_2.rest k (inl (omega arith)) ∙ has.torn.before k lt ∙ facts.rest k (inl (omega arith));
    high = λ k le. facts_2.rest k (inr le) ∙ has.torn.after k (omega arith) ∙ facts.rest k (inr le);
  }

  length_on : number_at 4 8 stored.page ≡ n
  length_on = number-same 4 8 8 stored.page sized.page (λ j lt. facts_2.rest (8 + j) (inl (omega arith))) ∙ has.length

  bytes_on : bytes_of stored ≡ byte_length (byte_at node.page 0) n
  bytes_on = (let e = beside_on.low 0 (omega arith) in λ i. byte_length (e i) (length_on i))

  cells_on : (k : ℕ) → k < 65536 → cell after stored (pointer_at (k / 1024)) (k % 1024) ≡ over from piece (λ m. content_at before node kept m) k
  cells_on k lt =
      let low : k / 1024 < 64 = omega arith in
      let p = pointer_in (k / 1024) low in
      let whole : 1024 * (k / 1024) + k % 1024 ≡ k = omega arith in
      cell_on (pointer_at (k / 1024)) (k % 1024) p.1 p.2 (omega arith) ∙ done.cells (k / 1024) (k % 1024) low (omega arith) ∙ ap (over from piece (λ m. content_at before node kept m)) whole

  pointer_on : (v : ℕ) → v < 68 → v ≢ 15 → pointer_of stored v ≡ pointer_of laid v
  pointer_on v below apart = saved.pointers v below apart ∙ length_pointers n laid sized has v

  tidy_on : ((k : ℕ) → byte_length (byte_at node.page 0) n ≤ k → k < 65536 → 1024 * (k / 1024) < byte_length (byte_at node.page 0) n → byte_at node.page 0 ≡ 1 → IsTidy before node → over from piece (λ m. content_at before node kept m) k ≡ 0)
      → IsTidy before node → IsTidy after stored
  tidy_on past tidy = record {
    first = λ k some low. beside_on.low k (omega arith) ∙ tidy.first k some low;
    owner = λ k le lt. (let e = beside_on.high 76 (omega arith) in beside_on.high k (omega arith) ∙ tidy.owner k (omega (arith, e, le)) lt);
    group = λ k le lt. (let e = beside_on.high 137 (omega arith) in beside_on.high k (omega arith) ∙ tidy.group k (omega (arith, e, le)) lt);
    behind = λ k le lt. facts_2.behind k le ∙ (let e = has.map in λ i. byte_at (e i) k) ∙ facts.behind k le ∙ tidy.behind k le lt;
    past = λ dir k le lt same. cells_on k lt ∙ past k (omega (arith, bytes_on, le)) lt (omega (arith, bytes_on, same)) (sym (beside_on.low 0 (omega arith)) ∙ dir) tidy;
    range = ranged_on node stored old before there (facts_2.blocks ∙ has.blocks ∙ facts.blocks) renews_stored tidy.range;
    lists = λ w lt zero. pointer_on w (omega arith) (λ e. absurd (omega (arith, e, lt))) ∙ done.own w lt ∙ tidy.lists w lt
        (λ k low. sym (cell_on w k (omega arith) (λ e. absurd (omega (arith, e, lt))) low ∙ done.lists w k lt low) ∙ zero k low);
  }

  pub turned_on : (update : Anode → Anode) (content : ℕ → ℕ) → record (anode_of before node) { length = n; content = content } ≡ update (anode_of before node)
      → ((k : ℕ) → (if nat_lt k (byte_length (byte_at node.page 0) n) then over from piece (λ m. content_at before node kept m) k else 0) ≡ content k)
      → ((k : ℕ) → byte_length (byte_at node.page 0) n ≤ k → k < 65536 → 1024 * (k / 1024) < byte_length (byte_at node.page 0) n → byte_at node.page 0 ≡ 1 → IsTidy before node → over from piece (λ m. content_at before node kept m) k ≡ 0)
      → ((i : ℕ) → i < 64 → byte_length (byte_at node.page 0) n ≤ 1024 * i → IsTrimmed node → pointer_of laid (pointer_at i) ≡ 0)
      → Turned page update node old before new after
  turned_on update content is same past gone = record {
    turns = turns_on;
    renews = subst (λ (x : Node). Renews (names node) (names x) old before) (sym saved.there)
        renews_stored;
    anode = (λ i. anode_of after (saved.there i))
        ∙ anode_as before after node stored n content beside_on length_on (λ v k below lt. cell_on v k (omega arith) (λ e. absurd (omega (arith, e, below))) lt ∙ done.lists v k below lt)
        (λ k. content_by after stored (byte_length (byte_at node.page 0) n) (over from piece (λ m. content_at before node kept m)) (length_most (byte_at node.page 0) n)
        (λ i j lt low. (let p = pointer_in i lt in cell_on (pointer_at i) j p.1 p.2 low) ∙ done.cells i j lt low) k ∙ same k)
        ∙ is;
    tidy = λ tidy. subst (λ (x : Node). IsTidy after x) (sym saved.there) (tidy_on past tidy);
    trimmed = λ trimmed. subst IsTrimmed (sym saved.there) (λ i lt le. (let p = pointer_in i lt in pointer_on (pointer_at i) p.1 p.2 ∙ gone i lt (omega (arith, bytes_on, le)) trimmed));
    alone = subst (λ (x : Node). is_shared new after x ≡ false) (sym saved.there) saved.alone;
  }

-- past a length that was set
pub cut_past : (image : List ℕ) (node : Node) (kept last k : ℕ) → kept ≤ last → last ≤ k → over 0 [] (λ m. content_at image node kept m) k ≡ 0
cut_past image node kept last k le high = over_outside 0 [] (λ m. content_at image node kept m) k (inr (omega arith)) ∙ content_high image node kept k (omega arith)

-- a piece that ends the bytes
pub ended_far : (kind n end : ℕ) → n ≡ length_for kind end → end ≤ 65536 → end ≤ byte_length kind n
ended_far kind n end is le = subst (λ (x : ℕ). end ≤ byte_length kind x) (sym is) (by (kind == 1))
  where
    by : (dir : Bool) → end ≤ min (if dir then 72 * (if dir then (end + 71) / 72 else end) else (if dir then (end + 71) / 72 else end)) 65536
    by true = omega arith
    by false = omega arith

pub ended_past : (image : List ℕ) (node : Node) (kept from : ℕ) (piece : List ℕ) (k : ℕ) → kept ≤ from → from + length piece ≤ k → over from piece (λ m. content_at image node kept m) k ≡ 0
ended_past image node kept from piece k le high = over_outside from piece (λ m. content_at image node kept m) k (inr high) ∙ content_high image node kept k (omega arith)

pub ended_cut : (image : List ℕ) (node : Node) (bytes kept last from : ℕ) (piece : List ℕ) → kept ≡ min bytes from → from + length piece ≤ last
    → (k : ℕ) → (if nat_lt k last then over from piece (λ m. content_at image node kept m) k else 0) ≡ (if nat_lt k (from + length piece) then over from piece (λ m. content_at image node bytes m) k else 0)
ended_cut image node bytes kept last from piece e far k = by (nat_lt k last) refl (nat_lt k (from + length piece)) refl
  where
    within : k < from + length piece → (low : Bool) → nat_le from k ≡ low → over from piece (λ m. content_at image node kept m) k ≡ over from piece (λ m. content_at image node bytes m) k
    within lt true f =
        let le : from ≤ k = grind (arith, nat_tests) in
        over_inside from piece (λ m. content_at image node kept m) k le lt ∙ sym (over_inside from piece (λ m. content_at image node bytes m) k le lt)
    within lt false f =
        let low : k < from = grind (arith, nat_tests) in
        over_outside from piece (λ m. content_at image node kept m) k (inl low) ∙ same low (nat_lt k bytes) refl ∙ sym (over_outside from piece (λ m. content_at image node bytes m) k (inl low))
      where
        same : k < from → (b : Bool) → nat_lt k bytes ≡ b → content_at image node kept k ≡ content_at image node bytes k
        same low true b = let lt_2 : k < bytes = grind (arith, nat_tests) in content_cut image node kept bytes k (inr lt_2) (inr (omega (arith, e)))
        same low false b = let high : bytes ≤ k = grind (arith, nat_tests) in content_cut image node kept bytes k (inl (omega (arith, e))) (inl (omega (arith, e)))

    by : (a : Bool) → nat_lt k last ≡ a → (b : Bool) → nat_lt k (from + length piece) ≡ b
        → (if a then over from piece (λ m. content_at image node kept m) k else 0) ≡ (if b then over from piece (λ m. content_at image node bytes m) k else 0)
    by true a true b = let lt : k < from + length piece = grind (arith, nat_tests) in within lt (nat_le from k) refl
    by true a false b = let high : from + length piece ≤ k = grind (arith, nat_tests) in ended_past image node kept from piece k (omega (arith, e)) high
    by false a true b = let high : last ≤ k = grind (arith, nat_tests) in let lt : k < from + length piece = grind (arith, nat_tests) in absurd (omega arith)
    by false a false b = refl

-- a length that a piece needs
module _ (node laid : Node) (facts : SameFacts node laid) (end : ℕ) where
  abbrev pub length_needed : ℕ
  length_needed = max (number_at 4 8 laid.page) (length_for (byte_at laid.page 0) end)

  length_same : length_needed ≡ max (number_at 4 8 node.page) (length_for (byte_at node.page 0) end)
  length_same =
      let a = number-same 4 8 8 laid.page node.page (λ j lt. facts.rest (8 + j) (inl (omega arith))) in
      let b = facts.rest 0 (inl (omega arith)) in
      λ i. max (a i) (length_for (b i) end)

  pub written_is : (before : List ℕ) (from : ℕ) (piece : List ℕ) → end ≡ from + length piece → 0 < length piece
      → record (anode_of before node) { length = length_needed; content = over from piece (λ k. content_at before node (bytes_of node) k) } ≡ written from piece (anode_of before node)
  written_is before from piece is some =
      let none : (length piece == 0) ≡ false = grind (arith, nat_tests) in
      let e : end ≡ (if length piece == 0 then 0 else from + length piece) = is ∙ (λ i. if sym none i then 0 else from + length piece) in
      let f = length_same ∙ (λ i. max (number_at 4 8 node.page) (length_for (byte_at node.page 0) (e i))) in
      λ i. record (anode_of before node) { length = f i; content = over from piece (λ k. content_at before node (bytes_of node) k) }

  pub written_cut : (before : List ℕ) (from kept : ℕ) (piece : List ℕ) → end ≡ from + length piece → end ≤ 65536 → (kept ≡ bytes_of node) ⊎ ((kept ≡ 65536) × (end ≤ bytes_of node))
      → (k : ℕ) → (if nat_lt k (byte_length (byte_at node.page 0) length_needed) then over from piece (λ m. content_at before node kept m) k else 0) ≡ over from piece (λ m. content_at before node (bytes_of node) m) k
  written_cut before from kept piece is le how k =
      let kind = byte_at node.page 0 in
      let n = number_at 4 8 node.page in
      (λ i. if nat_lt k (byte_length kind (length_same i)) then over from piece (λ m. content_at before node kept m) k else 0)
      ∙ over_cut before node (bytes_of node) kept (byte_length kind (max n (length_for kind end))) from piece (subst (λ (x : ℕ). x ≤ byte_length kind (max n (length_for kind end))) is (reached kind n end le))
      (no_shorter kind n (length_for kind end)) (by how) (length_most kind (max n (length_for kind end))) k
    where
      by : (kept ≡ bytes_of node) ⊎ ((kept ≡ 65536) × (end ≤ bytes_of node)) → (kept ≡ bytes_of node) ⊎ ((kept ≡ 65536) × (byte_length (byte_at node.page 0) (max (number_at 4 8 node.page) (length_for (byte_at node.page 0) end)) ≤ bytes_of node))
      by (inl e) = inl e
      by (inr (e, low)) = inr (e, no_longer (byte_at node.page 0) (number_at 4 8 node.page) end low)

  pub written_past : (before : List ℕ) (from kept : ℕ) (piece : List ℕ) → end ≡ from + length piece → end ≤ 65536 → (kept ≡ bytes_of node) ⊎ ((kept ≡ 65536) × (end ≤ bytes_of node))
      → (k : ℕ) → byte_length (byte_at node.page 0) length_needed ≤ k → k < 65536 → 1024 * (k / 1024) < byte_length (byte_at node.page 0) length_needed → byte_at node.page 0 ≡ 1 → IsTidy before node → over from piece (λ m. content_at before node kept m) k ≡ 0
  written_past before from kept piece is le how k high lt block dir tidy =
      let kind = byte_at node.page 0 in
      let n = number_at 4 8 node.page in
      let same : byte_length kind length_needed ≡ byte_length kind (max n (length_for kind end)) = (λ i. byte_length kind (length_same i)) in
      let far = reached kind n end le in
      let more = no_shorter kind n (length_for kind end) in
      over_outside from piece (λ m. content_at before node kept m) k (inr (omega (arith, is, far, same, high))) ∙ by how same more
    where
      by : (kept ≡ bytes_of node) ⊎ ((kept ≡ 65536) × (end ≤ bytes_of node)) → byte_length (byte_at node.page 0) length_needed ≡ byte_length (byte_at node.page 0) (max (number_at 4 8 node.page) (length_for (byte_at node.page 0) end))
          → bytes_of node ≤ byte_length (byte_at node.page 0) (max (number_at 4 8 node.page) (length_for (byte_at node.page 0) end)) → content_at before node kept k ≡ 0
      by (inl e) same more = content_high before node kept k (omega (arith, e, same, more, high))
      by (inr (e, low)) same more =
          let less = no_longer (byte_at node.page 0) (number_at 4 8 node.page) end low in
          let size : bytes_of node ≡ byte_length (byte_at node.page 0) length_needed = omega (arith, same, more, less) in
          let test : nat_lt k kept ≡ true = (let below : k < kept = omega (arith, e, lt) in grind (arith, nat_tests)) in
          (λ j. if test j then cell before node (pointer_at (k / 1024)) (k % 1024) else 0) ∙ tidy.past dir k (omega (arith, size, high)) lt (omega (arith, size, block))

  -- and no pointer is past it, where none was
  pub written_gone : (before : List ℕ) (old mid : State) (middle : List ℕ) (from kept : ℕ) (piece : List ℕ) → end ≡ from + length piece → end ≤ 65536 → (kept ≡ bytes_of node) ⊎ ((kept ≡ 65536) × (end ≤ bytes_of node))
      → Laid kept from piece node old before laid mid middle → (i : ℕ) → i < 64 → byte_length (byte_at node.page 0) length_needed ≤ 1024 * i → IsTrimmed node → pointer_of laid (pointer_at i) ≡ 0
  written_gone before old mid middle from kept piece is le how done i lt high trimmed =
      let kind = byte_at node.page 0 in
      let n = number_at 4 8 node.page in
      let same : byte_length kind length_needed ≡ byte_length kind (max n (length_for kind end)) = (λ j. byte_length kind (length_same j)) in
      let far = reached kind n end le in
      let more = no_shorter kind n (length_for kind end) in
      by how same far more
    where
      by : (kept ≡ bytes_of node) ⊎ ((kept ≡ 65536) × (end ≤ bytes_of node)) → byte_length (byte_at node.page 0) length_needed ≡ byte_length (byte_at node.page 0) (max (number_at 4 8 node.page) (length_for (byte_at node.page 0) end))
          → end ≤ byte_length (byte_at node.page 0) (max (number_at 4 8 node.page) (length_for (byte_at node.page 0) end))
          → bytes_of node ≤ byte_length (byte_at node.page 0) (max (number_at 4 8 node.page) (length_for (byte_at node.page 0) end)) → pointer_of laid (pointer_at i) ≡ 0
      by (inl e) same far more = done.past i lt (omega (arith, e, same, more, high)) (omega (arith, is, same, far, high))
      by (inr (e, low)) same far more = done.same i lt (omega (arith, e, lt)) (omega (arith, is, same, far, high)) ∙ trimmed i lt (omega (arith, same, more, high))

-- a list that was written
module _ (page which : ℕ) (bytes : List ℕ) (node changed stored : Node) (old mid new : State) (before middle after : List ℕ) (low : which < 3) (blocks : mid.superblock.blocks ≡ old.superblock.blocks)
    (replaced : Replaced which (λ k. get_or bytes k 0) node old before changed mid middle) (facts : SameFacts node changed) (others : (v : ℕ) → v < 68 → v ≢ which → pointer_of changed v ≡ pointer_of node v)
    (saved : Saved page changed mid middle stored new after) (facts_2 : SameFacts changed stored) (there : node.blocks ≡ old.superblock.blocks)
    (none : ((k : ℕ) → k < 1024 → get_or bytes k 0 ≡ 0) → pointer_of changed which ≡ 0) where
  list_beside : SameBeside node.page stored.page
  list_beside = record {
    low = λ k lt. facts_2.rest k (inl (omega arith)) ∙ facts.rest k (inl (omega arith));
    high = λ k le. facts_2.rest k (inr le) ∙ facts.rest k (inr le);
  }

  list_length : number_at 4 8 stored.page ≡ number_at 4 8 node.page
  list_length = number-same 4 8 8 stored.page node.page (λ j lt. facts_2.rest (8 + j) (inl (omega arith)) ∙ facts.rest (8 + j) (inl (omega arith)))

  list_cell : (v k : ℕ) → v < 68 → v ≢ 15 → k < 1024 → cell after stored v k ≡ (if v == which then get_or bytes k 0 else cell before node v k)
  list_cell v k below apart lt = saved.cells v k below apart lt ∙ replaced.cells v k below lt

  list_other : (v k : ℕ) → v < 68 → v ≢ 15 → v ≢ which → k < 1024 → cell after stored v k ≡ cell before node v k
  list_other v k below apart other lt = (let e : (v == which) ≡ false = grind (arith, nat_tests) in list_cell v k below apart lt ∙ (λ i. if e i then get_or bytes k 0 else cell before node v k))

  list_bytes : (i k : ℕ) → i < 64 → k < 1024 → cell after stored (pointer_at i) k ≡ cell before node (pointer_at ((1024 * i + k) / 1024)) ((1024 * i + k) % 1024)
  list_bytes i k lt below =
      let p = pointer_in i lt in
      let first = p.0 in
      let a : i ≡ (1024 * i + k) / 1024 = omega arith in
      let b : k ≡ (1024 * i + k) % 1024 = omega arith in
      list_other (pointer_at i) k p.1 p.2 (λ e. absurd (omega (arith, e, first, low))) below ∙ (λ j. cell before node (pointer_at (a j)) (b j))

  list_size : bytes_of stored ≡ bytes_of node
  list_size = (let e = list_beside.low 0 (omega arith) in λ i. byte_length (e i) (list_length i))

  list_past : IsTidy before node → byte_at stored.page 0 ≡ 1 → (k : ℕ) → bytes_of stored ≤ k → k < 65536 → 1024 * (k / 1024) < bytes_of stored → cell after stored (pointer_at (k / 1024)) (k % 1024) ≡ 0
  list_past tidy dir k le lt same =
      let up : k / 1024 < 64 = omega arith in
      let p = pointer_in (k / 1024) up in
      let first = p.0 in
      list_other (pointer_at (k / 1024)) (k % 1024) p.1 p.2 (λ e. absurd (omega (arith, e, first, low))) (omega arith) ∙ tidy.past (sym (list_beside.low 0 (omega arith)) ∙ dir) k (omega (arith, list_size, le)) lt (omega (arith, list_size, same))

  list_trimmed : IsTrimmed node → IsTrimmed stored
  list_trimmed trimmed i lt le =
      let p = pointer_in i lt in
      let first = p.0 in
      saved.pointers (pointer_at i) p.1 p.2 ∙ others (pointer_at i) p.1 (λ e. absurd (omega (arith, e, first, low))) ∙ trimmed i lt (omega (arith, list_size, le))

  list_here : (w k : ℕ) → (a : Bool) → nat_lt w 3 ≡ a → (b : Bool) → nat_lt k 1024 ≡ b → (mine : Bool) → (w == which) ≡ mine
      → (if a && b then cell after stored w k else 0) ≡ (if mine then (if b then get_or bytes k 0 else 0) else (if a && b then cell before node w k else 0))
  list_here w k true a true b true e =
      let up : w < 3 = grind (arith, nat_tests) in let lt : k < 1024 = grind (arith, nat_tests) in
      list_cell w k (omega arith) (λ is. absurd (omega (arith, is, up))) lt ∙ (λ i. if e i then get_or bytes k 0 else cell before node w k)
  list_here w k true a true b false e =
      let up : w < 3 = grind (arith, nat_tests) in let lt : k < 1024 = grind (arith, nat_tests) in
      list_cell w k (omega arith) (λ is. absurd (omega (arith, is, up))) lt ∙ (λ i. if e i then get_or bytes k 0 else cell before node w k)
  list_here w k true a false b true e = refl
  list_here w k true a false b false e = refl
  list_here w k false a b c true e = let is : w ≡ which = grind (arith, nat_tests) in let high : 3 ≤ w = grind (arith, nat_tests) in absurd (omega arith)
  list_here w k false a b c false e = refl

  list_zero : IsTidy before node → (w : ℕ) → w < 3 → ((k : ℕ) → k < 1024 → cell after stored w k ≡ 0) → (w ≡ which) ⊎ (w ≢ which) → pointer_of changed w ≡ 0
  list_zero tidy w lt zero (inr other) =
      others w (omega arith) other ∙ tidy.lists w lt (λ k below. sym (list_other w k (omega arith) (λ e. absurd (omega (arith, e, lt))) other below) ∙ zero k below)
  list_zero tidy w lt zero (inl here) = (λ i. pointer_of changed (here i)) ∙ none (λ k below. sym (mine k below) ∙ (λ i. cell after stored (sym here i) k) ∙ zero k below)
    where
      mine : (k : ℕ) → k < 1024 → cell after stored which k ≡ get_or bytes k 0
      mine k below = (let e : (which == which) ≡ true = grind (arith, nat_tests) in
          list_cell which k (omega arith) (λ is. absurd (omega (arith, is, low))) below ∙ (λ i. if e i then get_or bytes k 0 else cell before node which k))

  pub list_turned : Turned page (with_list which bytes) node old before new after
  list_turned =
      let renews_stored = renews_on (names node) (names changed) (names stored) old mid before middle blocks replaced.moves.counts replaced.renews saved.renews in
      let kind = list_beside.low 0 (omega arith) in
      let unique = number-same 4 4 4 stored.page node.page (λ j lt. list_beside.low (4 + j) (omega arith)) in
      let owner = text_same node.page stored.page 76 (omega arith) list_beside in
      let group = text_same node.page stored.page 137 (omega arith) list_beside in
      let content = content_by after stored (bytes_of node) (λ k. cell before node (pointer_at (k / 1024)) (k % 1024)) (length_most (byte_at node.page 0) (number_at 4 8 node.page)) list_bytes in
      record {
        turns = subst (λ (x : Node). Turns page (names node) (names x) old before new after) (sym saved.there) (record {
          counts = λ b lt. (let e = replaced.moves.counts b lt in let f = saved.turns.counts b (omega (arith, blocks, lt)) in omega (arith, e, f));
          settled = λ b lt. saved.turns.settled b (omega (arith, blocks, lt)) ∙ replaced.moves.settled b lt;
          tail = λ b spare. saved.turns.tail b (subst (λ (m : ℕ). IsSpare m b) (sym blocks) spare) ∙ replaced.moves.tail b spare;
          pages = λ p up apart. saved.turns.pages p up apart ∙ replaced.moves.pages p up;
        });
        renews = subst (λ (x : Node). Renews (names node) (names x) old before) (sym saved.there)
            renews_stored;
        anode = (λ i. anode_of after (saved.there i)) ∙ (λ i. record {
          kind = kind i;
          unique = unique i;
          length = list_length i;
          owner = owner i;
          group = group i;
          lists = λ w k. list_here w k (nat_lt w 3) refl (nat_lt k 1024) refl (w == which) refl i;
          content = λ k. ((λ j. content_at after stored (list_size j) k) ∙ content k) i;
        });
        tidy = λ tidy. subst (λ (x : Node). IsTidy after x) (sym saved.there) (record {
          first = λ k some up. list_beside.low k (omega arith) ∙ tidy.first k some up;
          owner = λ k le lt. (let e = list_beside.high 76 (omega arith) in list_beside.high k (omega arith) ∙ tidy.owner k (omega (arith, e, le)) lt);
          group = λ k le lt. (let e = list_beside.high 137 (omega arith) in list_beside.high k (omega arith) ∙ tidy.group k (omega (arith, e, le)) lt);
          behind = λ k le lt. facts_2.behind k le ∙ facts.behind k le ∙ tidy.behind k le lt;
          past = list_past tidy;
          range = ranged_on node stored old before there (facts_2.blocks ∙ facts.blocks) renews_stored tidy.range;
          lists = λ w lt zero. saved.pointers w (omega arith) (λ e. absurd (omega (arith, e, lt))) ∙ list_zero tidy w lt zero (cases_eq w which);
        });
        trimmed = λ trimmed. subst IsTrimmed (sym saved.there) (list_trimmed trimmed);
        alone = subst (λ (x : Node). is_shared new after x ≡ false) (sym saved.there) saved.alone;
      }

-- blocks that are loose for fewer pointers
pub wrote_wider : (named wider : ℕ → ℕ) (state : State) (old new : View) → ((b : ℕ) → named b ≤ wider b) → WroteLoose named state old new → WroteLoose wider state old new
wrote_wider named wider state old new le wrote =
    let loose : (b : ℕ) → IsLoose named state old.image b → IsLoose wider state old.image b = λ b loose. record { there = loose.there; now = (let e = loose.now in let f = le b in omega (arith, e, f)); settled = loose.settled } in
    let writes : (c d : List ℕ) → WritesLoose named state old.image c d → WritesLoose wider state old.image c d = λ c d writes. record { front = writes.front; blocks = λ b lt not. writes.blocks b lt (λ is. not (loose b is)) } in
    record { reads = writes old.image new.image wrote.reads; crash = wider_changes wrote.crash writes }
