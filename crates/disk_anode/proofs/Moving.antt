-- Counts and blocks as a run changes them.
use Rattle.std.proofs.Common.{◌≡◌, ◌≢◌, ◌<◌, ◌≤◌, ◌⊎◌, ℕ, ◌+◌, ◌*◌, List, refl, sym, ◌∙◌, ap, subst, inl, inr, arith, get_or}
use Rattle.std.specs.Prelude.{Bool, true, false, nat_lt, drop, take}
use Rattle.std.proofs.lemmas.Bool.Decides.{nat_tests}
use Rattle.std.proofs.lemmas.Bool.{cases_eq}
use Rattle.base_types.specs.Image.{byte_at, Torn}
use Rattle.base_types.specs.View.{View}
use Rattle.base_types.specs.Crash.{IsQuiet, ChangesBy}
use Rattle.base_outside.proofs.Runs.{then_changes, wider_changes, quiet_changes}
use Rattle.disk_layout.specs.Places.{in_place, block_start, pages_of, SameButBlocks}
use Rattle.disk_layout.specs.Numbers.{number_at}
use Rattle.disk_layout.proofs.Pages.{redone_at}
use Rattle.disk_layout.proofs.Left.{page_same}
use Rattle.disk_layout.specs.declared.entry.Entry.{Entry}
use Rattle.disk_log.specs.Puts.{page_of, settled_byte, or_of}
use Rattle.disk_log.specs.State.{State, with_put, put_of}
use Rattle.disk_space.specs.Counts.{count_page, count_place, count_now, count_settled, HasPut, SetsCount}
use Rattle.disk_space.proofs.Words.{page_there}
use Rattle.disk_anode.specs.Room.{one, are_counts, MayPutAll, PutsPages}
use Rattle.disk_anode.specs.Changes.{IsSpare, IsLoose, SameBlock, WritesLoose, WroteLoose, Moves}
use Rattle.disk_anode.proofs.Putting.{puts_one}

-- puts of pages, one after another
pub puts_none : (pages : ℕ → Bool) (slot : ℕ) (old new : State) → new ≡ old → PutsPages pages slot old new
puts_none pages slot old new e = subst (λ (s : State). PutsPages pages slot old s) (sym e) (record { rest = refl; others = refl; may = λ wider holds may. may })

pub puts_then : (pages : ℕ → Bool) (slot : ℕ) (old mid new : State) → PutsPages pages slot old mid → PutsPages pages slot mid new → PutsPages pages slot old new
puts_then pages slot old mid new first second = record {
  rest = second.rest ∙ (let e = first.rest in λ i. record (e i) { puts = new.puts });
  others = second.others ∙ first.others;
  may = λ wider holds may. second.may wider holds (first.may wider holds may);
}

pub puts_wider : (pages wider : ℕ → Bool) (slot : ℕ) (old new : State) → ((p : ℕ) → pages p ≡ true → wider p ≡ true) → PutsPages pages slot old new → PutsPages wider slot old new
puts_wider pages wider slot old new more puts = record { rest = puts.rest; others = puts.others; may = λ all holds may. puts.may all (λ p is. holds p (more p is)) may }

pub counts_test_of : (page : ℕ) → 1058 ≤ page → are_counts page ≡ true
counts_test_of page le = grind (arith, nat_tests)

pub counts_test : (block : ℕ) → are_counts (count_page block) ≡ true
counts_test block = let le : 1058 ≤ count_page block = omega arith in grind (arith, nat_tests)

-- the page of a block's count
pub puts_count : (block slot : ℕ) (old new : State) → old.half.pages ≡ pages_of old.superblock.blocks → block < old.superblock.blocks → MayPutAll are_counts old slot → HasPut slot block old new → PutsPages are_counts slot old new
puts_count block slot old new many lt may put =
    let there = page_there block old.superblock.blocks lt in
    puts_one are_counts old new (put_of slot (count_page block) put.0 put.1) put.2 (counts_test block) (omega (arith, many, there)) (may.own (count_page block) (omega (arith, many, there)) (counts_test block))

-- counts that are settled depend on entries alone
pub settled_put : (state new : State) (slot p : ℕ) (before after image : List ℕ) (block : ℕ) → new ≡ with_put state (put_of slot p before after) → count_settled new image block ≡ count_settled state image block
unfolding count_settled
settled_put state new slot p before after image block e =
    λ i. 256 * settled_byte (e i).entries (e i).forced image (count_page block) (count_place block) + settled_byte (e i).entries (e i).forced image (count_page block) (count_place block + 1)

byte_beside : (pages : ℕ) (entries : List Entry) (forced : ℕ) (old new : List ℕ) (p k : ℕ) → SameButBlocks pages old new → p < pages → settled_byte entries forced new p k ≡ settled_byte entries forced old p k
unfolding settled_byte
byte_beside pages entries forced old new p k same lt =
    let e = redone_at (take forced entries) (in_place new) (in_place old) p (page_same pages p old new lt (λ j from below. same j below)) in
    λ i. or_of (drop forced entries) p k (get_or (e i) k 0)

pub settled_beside : (state : State) (old new : List ℕ) (block : ℕ) → block < state.superblock.blocks → SameButBlocks (pages_of state.superblock.blocks) old new → count_settled state new block ≡ count_settled state old block
unfolding count_settled
settled_beside state old new block lt same =
    let there = page_there block state.superblock.blocks lt in
    let a = byte_beside (pages_of state.superblock.blocks) state.entries state.forced old new (count_page block) (count_place block) same there in
    let b = byte_beside (pages_of state.superblock.blocks) state.entries state.forced old new (count_page block) (count_place block + 1) same there in
    λ i. 256 * a i + b i

pub now_same : (old new : State) (before after : List ℕ) (block : ℕ) → page_of new.entries new.puts after (count_page block) ≡ page_of old.entries old.puts before (count_page block) → count_now new after block ≡ count_now old before block
unfolding count_now
now_same old new before after block same = ap (number_at 2 (count_place block)) same

-- one after another
pub moves_then : (dropped set dropped_2 set_2 : ℕ → ℕ) (old mid new : State) (first second last : List ℕ) → mid.superblock.blocks ≡ old.superblock.blocks
    → Moves dropped set old first mid second → Moves dropped_2 set_2 mid second new last → Moves (λ b. dropped b + dropped_2 b) (λ b. set b + set_2 b) old first new last
moves_then dropped set dropped_2 set_2 old mid new first second last blocks one two = record {
  counts = λ b lt. (let e = one.counts b lt in let f = two.counts b (omega (arith, blocks)) in omega (arith, e, f));
  settled = λ b lt. two.settled b (omega (arith, blocks)) ∙ one.settled b lt;
  tail = λ b spare. two.tail b (subst (λ (m : ℕ). IsSpare m b) (sym blocks) spare) ∙ one.tail b spare;
  pages = λ p lt. two.pages p lt ∙ one.pages p lt;
}

-- the same, said of other pointers
pub moves_as : (dropped set dropped_2 set_2 : ℕ → ℕ) (old new : State) (before after : List ℕ) → ((b : ℕ) → b < old.superblock.blocks → set_2 b + dropped b ≡ dropped_2 b + set b)
    → Moves dropped set old before new after → Moves dropped_2 set_2 old before new after
moves_as dropped set dropped_2 set_2 old new before after same moves = record {
  counts = λ b lt. (let e = moves.counts b lt in let f = same b lt in omega (arith, e, f));
  settled = moves.settled;
  tail = moves.tail;
  pages = moves.pages;
}

-- a count that was set
pub moves_set : (block n slot : ℕ) (dropped set : ℕ → ℕ) (old new : State) (image : List ℕ) → HasPut slot block old new → SetsCount block n old new image → block < old.superblock.blocks
    → n + dropped block ≡ count_now old image block + set block → ((b : ℕ) → b ≢ block → dropped b ≡ set b) → Moves dropped set old image new image
moves_set block n slot dropped set old new image put sets low here others = record {
  counts = λ b lt. by b (cases_eq b block);
  settled = λ b lt. settled_put old new slot (count_page block) put.0 put.1 image b put.2;
  tail = λ b spare. sets.others b (λ e. (let high = spare.0 in absurd (omega (arith, e, high, low))));
  pages = sets.pages;
}
  where
    by : (b : ℕ) → (b ≡ block) ⊎ (b ≢ block) → count_now new image b + dropped b ≡ count_now old image b + set b
    by b (inl e) = subst (λ (x : ℕ). count_now new image x + dropped x ≡ count_now old image x + set x) (sym e) (let f = sets.count in omega (arith, f, here))
    by b (inr apart) = let e = sets.others b apart in let f = others b apart in omega (arith, e, f)

-- loose blocks
pub loose_same : (named : ℕ → ℕ) (state : State) (image a : List ℕ) → WritesLoose named state image a a
loose_same named state image a = record { front = λ at lt. refl; blocks = λ b lt not k below. refl }

pub loose_then : (named : ℕ → ℕ) (state : State) (image a b c : List ℕ) → WritesLoose named state image a b → WritesLoose named state image b c → WritesLoose named state image a c
loose_then named state image a b c one two = record {
  front = λ at lt. two.front at lt ∙ one.front at lt;
  blocks = λ block lt not k below. two.blocks block lt not k below ∙ one.blocks block lt not k below;
}

-- blocks that are loose later were so before
pub loose_wider : (named named_2 : ℕ → ℕ) (state other : State) (image image_2 a b : List ℕ) → other.superblock.blocks ≡ state.superblock.blocks → ((block : ℕ) → IsLoose named_2 other image_2 block → IsLoose named state image block)
    → WritesLoose named_2 other image_2 a b → WritesLoose named state image a b
loose_wider named named_2 state other image image_2 a b blocks wider writes = record {
  front = subst (λ (n : ℕ). SameButBlocks (pages_of n) a b) blocks writes.front;
  blocks = λ block lt not. subst (λ (n : ℕ). SameBlock n a b block) blocks (writes.blocks block (omega (arith, blocks)) (λ loose. not (wider block loose)));
}

pub loose_before : (named named_2 : ℕ → ℕ) (old new : State) (before after : List ℕ) → new.superblock.blocks ≡ old.superblock.blocks → Moves named named_2 old before new after → (block : ℕ) → IsLoose named_2 new after block → IsLoose named old before block
loose_before named named_2 old new before after blocks moves block loose =
    let there = loose.there in let now = loose.now in let lt : block < old.superblock.blocks = omega (arith, blocks, there) in
    let e = moves.counts block lt in
    record { there = lt; now = omega (arith, e, now); settled = sym (moves.settled block lt) ∙ loose.settled }

-- runs that wrote loose blocks
pub wrote_quiet : (named : ℕ → ℕ) (state : State) (old new : View) → IsQuiet old new → WroteLoose named state old new
wrote_quiet named state old new quiet = record {
  reads = subst (λ (l : List ℕ). WritesLoose named state old.image old.image l) (sym quiet.image) (loose_same named state old.image old.image);
  crash = quiet_changes (WritesLoose named state old.image) (λ c. loose_same named state old.image c) quiet;
}

pub wrote_then : (named : ℕ → ℕ) (state : State) (first second last : View) → WroteLoose named state first second → WritesLoose named state first.image second.image last.image → ChangesBy (WritesLoose named state first.image) second last → WroteLoose named state first last
wrote_then named state first second last one reads crash = record {
  reads = loose_then named state first.image first.image second.image last.image one.reads reads;
  crash = then_changes (WritesLoose named state first.image) (λ a b c. loose_then named state first.image a b c) one.crash crash;
}

pub wrote_more : (named named_2 : ℕ → ℕ) (old mid : State) (first second last : View) → mid.superblock.blocks ≡ old.superblock.blocks → Moves named named_2 old first.image mid second.image
    → WroteLoose named old first second → WroteLoose named_2 mid second last → WroteLoose named old first last
wrote_more named named_2 old mid first second last blocks moves one two =
    let wider = loose_wider named named_2 old mid first.image second.image in
    let before = loose_before named named_2 old mid first.image second.image blocks moves in
    wrote_then named old first second last one (wider second.image last.image blocks before two.reads) (wider_changes two.crash (λ c d. wider c d blocks before))

pub then_quiet : (named : ℕ → ℕ) (state : State) (first second last : View) → WroteLoose named state first second → IsQuiet second last → WroteLoose named state first last
then_quiet named state first second last one quiet =
    wrote_then named state first second last one
    (subst (λ (l : List ℕ). WritesLoose named state first.image second.image l) (sym quiet.image) (loose_same named state first.image second.image))
    (quiet_changes (WritesLoose named state first.image) (λ c. loose_same named state first.image c) quiet)

-- beside a block that was written
pub beside_block : (pages block other k : ℕ) (c d : List ℕ) → Torn (block_start pages block) 1024 c d → k < 1024 → other ≢ block → byte_at d (block_start pages other + k) ≡ byte_at c (block_start pages other + k)
beside_block pages block other k c d torn below apart = by (nat_lt other block) refl
  where
    by : (lower : Bool) → nat_lt other block ≡ lower → byte_at d (block_start pages other + k) ≡ byte_at c (block_start pages other + k)
    by true e = let low : other < block = grind (arith, nat_tests) in torn.before _ (omega arith)
    by false e = let high : block < other = grind (arith, nat_tests) in torn.after _ (omega arith)

-- a write of a loose block
pub loose_torn : (named : ℕ → ℕ) (state : State) (image : List ℕ) (block : ℕ) → IsLoose named state image block → (c d : List ℕ) → Torn (block_start (pages_of state.superblock.blocks) block) 1024 c d → WritesLoose named state image c d
loose_torn named state image block loose c d torn = record {
  front = λ at lt. torn.before at (omega arith);
  blocks = λ other lt not k below. by other k below (cases_eq other block) not;
}
  where
    by : (other k : ℕ) → k < 1024 → (other ≡ block) ⊎ (other ≢ block) → (IsLoose named state image other → ⊥) → byte_at d (block_start (pages_of state.superblock.blocks) other + k) ≡ byte_at c (block_start (pages_of state.superblock.blocks) other + k)
    by other k below (inl e) not = absurd (not (subst (λ (x : ℕ). IsLoose named state image x) (sym e) loose))
    by other k below (inr apart) not = beside_block (pages_of state.superblock.blocks) block other k c d torn below apart

-- after a run that changed nothing
pub wrote_after : (named other : ℕ → ℕ) (old mid : State) (first second last : View) → named ≡ other → mid ≡ old → IsQuiet first second → WroteLoose named mid second last → WroteLoose other old first last
wrote_after named other old mid first second last same state quiet wrote =
    let moves : Moves other other old first.image mid second.image = subst (λ (s : State). Moves other other old first.image s second.image) (sym state) (subst (λ (l : List ℕ). Moves other other old first.image old l) (sym quiet.image)
    (record { counts = λ b lt. refl; settled = λ b lt. refl; tail = λ b spare. refl; pages = λ p lt. refl })) in
    wrote_more other other old mid first second last (λ i. (state i).superblock.blocks) moves (wrote_quiet other old first second quiet) (subst (λ (f : ℕ → ℕ). WroteLoose f mid second last) same wrote)
