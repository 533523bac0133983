-- An anode that was put in its page.
use Rattle.std.proofs.Common.{◌≡◌, ◌≢◌, ◌<◌, ℕ, ◌+◌, ◌-◌, List, [], length, get_or, refl, sym, ◌∙◌, ap, subst, arith}
use Rattle.std.specs.Prelude.{Bool, true, false, ◌==◌, ◌&&◌, ◌||◌, if◌then◌else◌, nat_lt, nat_le, replicate}
use Rattle.std.proofs.lemmas.Bool.Decides.{nat_tests}
use Rattle.std.proofs.lemmas.List.{get_or-replicate, length-replicate}
use Rattle.base_types.specs.Image.{byte_at, bytes_from}
use Rattle.base_outside.proofs.Image.{bytes_from-is}
use Rattle.disk_layout.specs.Numbers.{number_at}
use Rattle.disk_layout.specs.Places.{block_start, pages_of}
use Rattle.disk_log.specs.Puts.{page_of}
use Rattle.disk_log.specs.State.{State, MayPut, with_put, put_of}
use Rattle.disk_space.specs.Counts.{count_page, count_now, count_settled}
use Rattle.disk_anode.specs.Room.{are_counts, with_counts, MayPutAll, PutsPages}
use Rattle.disk_anode.specs.Node.{pointer_of, is_pointer, byte_under, map_under, node_of, node_in, cell}
use Rattle.disk_anode.specs.Changes.{is_shared, Replaced, Saved}
use Rattle.disk_anode.specs.declared.node.Node.{Node}
use Rattle.disk_anode.proofs.Putting.{may_one, puts_one}
use Rattle.disk_anode.proofs.Moving.{now_same, settled_put, puts_then, puts_wider}
use Rattle.disk_anode.proofs.Pointers.{pointer_front}

-- the page of an anode beside those of counts
pub counts_in : (page p : ℕ) → are_counts p ≡ true → with_counts page p ≡ true
counts_in page p is = by (p == page)
  where
    by : (here : Bool) → (here || nat_le 1058 p) ≡ true
    by true = refl
    by false = is

pub page_in : (page : ℕ) → with_counts page page ≡ true
page_in page = let e : (page == page) ≡ true = grind (arith, nat_tests) in λ i. e i || nat_le 1058 page

-- a put of the page after puts of counts
pub may_page : (page slot slot_2 : ℕ) (old mid : State) → slot_2 ≡ slot → old.half.pages ≡ pages_of old.superblock.blocks → page < 1058 → MayPutAll (with_counts page) old slot → PutsPages are_counts slot old mid → MayPut mid slot_2 page
may_page page slot slot_2 old mid same many low may puts =
    let rest = puts.rest in
    let there : mid.half.pages ≡ pages_of old.superblock.blocks = (λ i. (rest i).half.pages) ∙ many in
    subst (λ (s : ℕ). MayPut mid s page) (sym same) (may_one (with_counts page) mid slot page (puts.may (with_counts page) (λ p is. counts_in page p is) may) (page_in page) (omega (arith, there, low)))

pub puts_page : (page slot slot_2 : ℕ) (old mid new : State) (was bytes : List ℕ) → slot_2 ≡ slot → old.half.pages ≡ pages_of old.superblock.blocks → page < 1058 → MayPutAll (with_counts page) old slot → PutsPages are_counts slot old mid
    → new ≡ with_put mid (put_of slot_2 page was bytes) → PutsPages (with_counts page) slot old new
puts_page page slot slot_2 old mid new was bytes same many low may puts is =
    let rest = puts.rest in
    let there : mid.half.pages ≡ pages_of old.superblock.blocks = (λ i. (rest i).half.pages) ∙ many in
    let still = puts.may (with_counts page) (λ p test. counts_in page p test) may in
    puts_then (with_counts page) slot old mid new (puts_wider are_counts (with_counts page) slot old mid (λ p test. counts_in page p test) puts)
    (puts_one (with_counts page) mid new (put_of slot page was bytes) (is ∙ (λ i. with_put mid (put_of (same i) page was bytes))) (page_in page) (omega (arith, there, low)) (still.own page (omega (arith, there, low)) (page_in page)))

-- bytes that are those under a pointer
pub map_is : (blocks : ℕ) (image map : List ℕ) (pointer : ℕ) → length map ≡ 1024 → ((k : ℕ) → k < 1024 → byte_under blocks image pointer k ≡ get_or map k 0) → map_under blocks image pointer ≡ map
map_is blocks image map pointer size same = by (is_pointer blocks pointer) same
  where
    none : (l : List ℕ) → length l ≡ 1024 → ((k : ℕ) → k < 1024 → get_or l k 0 ≡ 0) → bytes_from [] 0 1024 ≡ l
    none l long zero = (λ i. bytes_from [] 0 (sym long i)) ∙ bytes_from-is [] l 0 (λ j lt. sym (zero j (omega (arith, long, lt))))

    by : (is : Bool) → ((k : ℕ) → k < 1024 → (if is then byte_at image (block_start (pages_of blocks) (pointer - 1) + k) else 0) ≡ get_or map k 0)
        → (if is then bytes_from image (block_start (pages_of blocks) (pointer - 1)) 1024 else replicate 1024 0) ≡ map
    by true here = (λ i. bytes_from image (block_start (pages_of blocks) (pointer - 1)) (sym size i)) ∙ bytes_from-is image map (block_start (pages_of blocks) (pointer - 1)) (λ j lt. here j (omega (arith, size, lt)))
    by false here = sym (none (replicate 1024 0) (length-replicate {A = ℕ} 1024 0) (λ k lt. get_or-replicate 1024 k 0 0 lt)) ∙ none map size (λ k lt. sym (here k lt))

under_cell : (image : List ℕ) (node : Node) (k : ℕ) → byte_under node.blocks image (number_at 4 72 node.page) k ≡ cell image node 15 k
unfolding cell
under_cell image node k = λ i. byte_under node.blocks image (sym (pointer_front node 15 (omega arith)) i) k

-- it is read there
pub node_there : (state : State) (image : List ℕ) (page : ℕ) (node : Node) → node.blocks ≡ state.superblock.blocks → page_of state.entries state.puts image page ≡ node.page → length node.map ≡ 1024
    → ((k : ℕ) → k < 1024 → cell image node 15 k ≡ get_or node.map k 0) → node_in state image page ≡ node
node_there state image page node blocks is size same =
    (λ i. node_of (sym blocks i) image (is i))
    ∙ (let e = map_is node.blocks image node.map (number_at 4 72 node.page) size (λ k lt. under_cell image node k ∙ same k lt) in λ i. record { blocks = node.blocks; page = node.page; map = e i })

-- the put of its page
pub saved : (page slot : ℕ) (node : Node) (old : State) (before : List ℕ) (changed : Node) (mid : State) (middle : List ℕ) (new : State) (after was : List ℕ) → page < 1058
    → node.blocks ≡ old.superblock.blocks → mid.superblock.blocks ≡ old.superblock.blocks → changed.blocks ≡ node.blocks → changed.map ≡ node.map → length node.map ≡ 1024
    → ((v : ℕ) → v < 68 → v ≢ 15 → pointer_of changed v ≡ pointer_of node v) → is_shared mid middle changed ≡ false → Replaced 15 (λ k. get_or node.map k 0) node old before changed mid middle → new ≡ with_put mid (put_of slot page was changed.page)
    → ((image : List ℕ) (p : ℕ) → page_of new.entries new.puts image p ≡ (if page == p then changed.page else page_of mid.entries mid.puts image p)) → after ≡ middle
    → Saved page node old before changed new after
saved page slot node old before changed mid middle new after was low blocks same_mid same_node same_map size others alone replaced is pages quiet = record {
  turns = record {
    counts = λ b lt. (let e = replaced.moves.counts b lt in let f = ap (λ (l : List ℕ). count_now new l b) quiet ∙ now_same mid new middle middle b (beside (count_page b) (omega arith)) in omega (arith, e, f));
    settled = λ b lt. ap (λ (l : List ℕ). count_settled new l b) quiet ∙ settled_put mid new slot page was changed.page middle b is ∙ replaced.moves.settled b lt;
    tail = λ b spare. ap (λ (l : List ℕ). count_now new l b) quiet ∙ now_same mid new middle middle b (beside (count_page b) (omega arith)) ∙ replaced.moves.tail b spare;
    pages = λ p lt apart. ap (λ (l : List ℕ). page_of new.entries new.puts l p) quiet ∙ beside p (λ e. apart (sym e)) ∙ replaced.moves.pages p lt;
  };
  renews = replaced.renews;
  there = node_there new after page changed blocks_new (here after) (ap length same_map ∙ size) (λ k lt. ap (λ (l : List ℕ). cell l changed 15 k) quiet ∙ replaced.cells 15 k (omega arith) lt ∙ (λ i. get_or (sym same_map i) k 0));
  cells = λ v k below apart lt. ap (λ (l : List ℕ). cell l changed v k) quiet ∙ replaced.cells v k below lt ∙ (let e : (v == 15) ≡ false = grind (arith, nat_tests) in λ i. if e i then get_or node.map k 0 else cell before node v k);
  pointers = others;
  alone = (λ i. is_pointer changed.blocks (pointer_of changed 15) && nat_lt 1 (same_count (pointer_of changed 15 - 1) i)) ∙ alone;
}
  where
    beside : (p : ℕ) → page ≢ p → page_of new.entries new.puts middle p ≡ page_of mid.entries mid.puts middle p
    beside p apart = (let e : (page == p) ≡ false = grind (arith, nat_tests) in pages middle p ∙ (λ i. if e i then changed.page else page_of mid.entries mid.puts middle p))

    same_count : (b : ℕ) → count_now new after b ≡ count_now mid middle b
    same_count b = ap (λ (l : List ℕ). count_now new l b) quiet ∙ now_same mid new middle middle b (beside (count_page b) (omega arith))

    here : (image : List ℕ) → page_of new.entries new.puts image page ≡ changed.page
    here image = (let e : (page == page) ≡ true = grind (arith, nat_tests) in pages image page ∙ (λ i. if e i then changed.page else page_of mid.entries mid.puts image page))

    blocks_new : changed.blocks ≡ new.superblock.blocks
    blocks_new = same_node ∙ blocks ∙ sym same_mid ∙ (λ i. (sym is i).superblock.blocks)
