-- From a call on an anode to a change of its slot.
use Rattle.std.proofs.Common.{◌≡◌, ◌≤◌, ◌<◌, ℕ, ◌+◌, ◌*◌, List, refl, sym, ◌∙◌, subst, arith}
use Rattle.std.specs.Prelude.{Bool, true, false, ◌==◌, ◌&&◌, ◌||◌, not, min, nat_le, nat_lt, Result, Ok, Err, OnOk, IfErr}
use Rattle.std.proofs.lemmas.Bool.Decides.{nat_tests}
use Rattle.std.proofs.lemmas.Result.{on_ok_weaker}
use Rattle.base_types.specs.View.{View}
use Rattle.base_types.specs.Crash.{IsQuiet}
use Rattle.tree_objects.specs.declared.content.Anode.{Anode}
use Rattle.base_outside.proofs.Runs.{wider_changes}
use Rattle.disk_log.specs.Log.{disk_of, state_of, slot_of, IsSoundLog}
use Rattle.disk_log.specs.Puts.{page_of}
use Rattle.disk_log.specs.State.{State}
use Rattle.disk_log.specs.declared.kept.Tx.{Tx}
use Rattle.disk_log.specs.declared.log.Log.{Log}
use Rattle.disk_space.specs.Counts.{count_now, count_settled}
use Rattle.disk_anode.specs.Changes.{IsLoose, WritesLoose, WroteLoose, AreCounted, AreFew}
use Rattle.disk_anode.specs.Faults.{IsNodeFault}
use Rattle.disk_anode.specs.Node.{names, node_in}
use Rattle.disk_anode.specs.Room.{with_counts, is_page, free_blocks, MayPutAll, PutsPages}
use Rattle.disk_anode.specs.declared.fault.NodeFault.{NodeFault}
use Rattle.disk_anode.specs.declared.fault.NodeFault.TheVariants.{Failed, Memory}
use Rattle.disk_anode.proofs.Putting.{may_fewer}
use Rattle.disk_anode.proofs.Moving.{puts_wider, puts_then, loose_wider, wrote_then, wrote_quiet, settled_beside}
use Rattle.disk_objects.proofs.Calls.{counted_all}
use Rattle.disk_objects.proofs.Few.{few_all}
use Rattle.disk_objects.specs.Objects.{page_for, kept_anodes, KeepsNow, HeldNow}
use Rattle.disk_objects.proofs.Places.{page_is, page_low}
use Rattle.disk_objects.proofs.Keeping.{held_of}
use Rattle.disk_fileset.specs.Slots.{slot_pages, SamePages, WroteUnused, Held, MayTurn, Turned, ChangesSlot}

-- two facts of a value
pub on_ok_two : {T E A B C : Type 0} (r : Result T E) → (A → B → C) → OnOk r A → OnOk r B → OnOk r C
on_ok_two (Ok value) f a b = f a b
on_ok_two (Err error) f a b = tt

-- the page of an anode among those of its slot
or_true : (a b : Bool) → (a || b) ≡ true → (a ≡ false → b ≡ true)
or_true true b is off = absurd (grind (arith, off))
or_true false b is off = is

pub page_among : (slot n page p : ℕ) → page ≡ page_for slot n → 1 ≤ n → n ≤ 64 → with_counts page p ≡ true → slot_pages slot p ≡ true
page_among slot n page p at some few is = by (p == page) refl
  where
    by : (a : Bool) → (p == page) ≡ a → slot_pages slot p ≡ true
    by true e =
        let here : p ≡ page = grind (arith, nat_tests, e) in
        let a : nat_le (4 + 66 * slot) p ≡ true = (let le : 4 + 66 * slot ≤ p = omega (arith, here, at, some) in grind (arith, nat_tests, le)) in
        let b : nat_lt p (68 + 66 * slot) ≡ true = (let lt : p < 68 + 66 * slot = omega (arith, here, at, few) in grind (arith, nat_tests, lt)) in
        λ i. (a i && b i) || nat_le 1058 p
    by false e =
        let counts : nat_le 1058 p ≡ true = or_true (p == page) (nat_le 1058 p) is e in
        by_or (nat_le (4 + 66 * slot) p && nat_lt p (68 + 66 * slot)) counts
      where
        by_or : (a : Bool) → nat_le 1058 p ≡ true → (a || nat_le 1058 p) ≡ true
        by_or true on = refl
        by_or false on = on

not_true : (a : Bool) → not a ≡ true → a ≡ false
not_true true e = absurd (grind (arith, e))
not_true false e = refl

beside : (slot n page p : ℕ) → page ≡ page_for slot n → 1 ≤ n → n ≤ 64 → not (slot_pages slot p) ≡ true → not (p == page) ≡ true
beside slot n page p at some few off = by (p == page) refl
  where
    by : (a : Bool) → (p == page) ≡ a → not a ≡ true
    by false e = refl
    by true e =
        let on : with_counts page p ≡ true = (λ i. e i || nat_le 1058 p) in
        let among = page_among slot n page p at some few on in
        let none = not_true (slot_pages slot p) off in
        let both : true ≡ false = sym among ∙ none in
        absurd (grind (arith, both))

-- the pages beside that of an anode
pub others_same : {T E : Type 0} (result : Result T E) (page : ℕ) (old new : State) (before after : List ℕ)
    → OnOk result ((p : ℕ) → p < 1058 → (p ≡ page → ⊥) → page_of new.entries new.puts after p ≡ page_of old.entries old.puts before p)
    → OnOk result (SamePages (λ p. not (p == page)) old before new after)
others_same result page old new before after same = on_ok_weaker result
    (λ (f : (p : ℕ) → p < 1058 → (p ≡ page → ⊥) → page_of new.entries new.puts after p ≡ page_of old.entries old.puts before p) p lt off.
    f p lt (λ e. (let none = not_true (p == page) off in absurd (grind (arith, nat_tests, e, none))))) same

-- what a call on an anode asks
module _ (slot n page : ℕ) (low : slot < 16) (some : 1 ≤ n) (few : n ≤ 64) (at : page ≡ page_for slot n) where
  pub may_in : (state : State) (tx : ℕ) → MayPutAll (slot_pages slot) state tx → MayPutAll (with_counts page) state tx
  may_in state tx may = may_fewer (with_counts page) (slot_pages slot) state tx (λ p is. page_among slot n page p at some few is) may

  pub low_in : page < 1058
  low_in = let there = page_low slot n low few in omega (arith, at, there)

  pub counted_in : (slots : ℕ → List Anode) (state : State) (image : List ℕ) → KeepsNow slots state image → AreCounted (names (node_in state image page)) state image
  counted_in slots state image keeps = subst (λ (p : ℕ). AreCounted (names (node_in state image p)) state image) (sym at)
      (counted_all (kept_anodes slots) state image keeps.held (page_for slot n) (page_is slot n low some few))

  pub few_in : (slots : ℕ → List Anode) (state : State) (image : List ℕ) → KeepsNow slots state image → AreFew (names (node_in state image page)) state image
  few_in slots state image keeps = subst (λ (p : ℕ). AreFew (names (node_in state image p)) state image) (sym at)
      (few_all (kept_anodes slots) state image keeps.held (page_for slot n) (page_is slot n low some few))

  pub counted_held : (slots : ℕ → List Anode) (state : State) (image : List ℕ) → HeldNow slots state image → AreCounted (names (node_in state image page)) state image
  counted_held slots state image held = subst (λ (p : ℕ). AreCounted (names (node_in state image p)) state image) (sym at)
      (counted_all (kept_anodes slots) state image held.held (page_for slot n) (page_is slot n low some few))

  pub few_held : (slots : ℕ → List Anode) (state : State) (image : List ℕ) → HeldNow slots state image → AreFew (names (node_in state image page)) state image
  few_held slots state image held = subst (λ (p : ℕ). AreFew (names (node_in state image p)) state image) (sym at)
      (few_all (kept_anodes slots) state image held.held (page_for slot n) (page_is slot n low some few))

  page_itself : (p : ℕ) → is_page page p ≡ true → with_counts page p ≡ true
  page_itself p is = λ i. is i || nat_le 1058 p

  pub may_page : (state : State) (tx : ℕ) → MayPutAll (slot_pages slot) state tx → MayPutAll (is_page page) state tx
  may_page state tx may = may_fewer (is_page page) (with_counts page) state tx page_itself (may_in state tx may)

-- blocks that no crash needs
pub wrote_unused : (named : ℕ → ℕ) (state : State) (old new : View) → WroteLoose named state old new → WroteUnused state old new
wrote_unused named state old new wrote =
    let counts : ℕ → ℕ = λ b. count_now state old.image b in
    let loose : (b : ℕ) → IsLoose named state old.image b → IsLoose counts state old.image b = λ b loose. record { there = loose.there; now = omega arith; settled = loose.settled } in
    let writes : (c d : List ℕ) → WritesLoose named state old.image c d → WritesLoose counts state old.image c d = λ c d writes. record { front = writes.front; blocks = λ b lt not. writes.blocks b lt (λ is. not (loose b is)) } in
    record { reads = writes old.image new.image wrote.reads; crash = wider_changes wrote.crash writes }

-- and what it keeps
pub changes_in : {D T : Type 0} (tells : Type 0) (view : D → View) (slot n page blocks : ℕ) (result : Result T NodeFault) (old new : Log D) (tx changed : Tx) (named : ℕ → ℕ)
    → 1 ≤ n → n ≤ 64 → page ≡ page_for slot n → IsSoundLog tells view new → changed ≡ tx → PutsPages (with_counts page) (slot_of tx) (state_of old) (state_of new)
    → (tells → OnOk result (SamePages (λ p. not (p == page)) (state_of old) (view (disk_of old)).image (state_of new) (view (disk_of new)).image))
    → (tells → OnOk result (free_blocks (state_of old) (view (disk_of old)).image ≤ free_blocks (state_of new) (view (disk_of new)).image + blocks))
    → (tells → WroteLoose named (state_of old) (view (disk_of old)) (view (disk_of new)))
    → (view (disk_of old)).faults ≤ (view (disk_of new)).faults
    → IfErr result (λ fault. IsNodeFault fault (view (disk_of old)) (view (disk_of new)))
    → ChangesSlot tells view slot blocks result old new tx changed
changes_in tells view slot n page blocks result old new tx changed named some few at sound same puts pages room wrote counted only = record {
  sound = sound;
  same = same;
  puts = puts_wider (with_counts page) (slot_pages slot) (slot_of tx) (state_of old) (state_of new) (λ p is. page_among slot n page p at some few is) puts;
  pages = λ told. on_ok_weaker result (λ (others : SamePages (λ p. not (p == page)) (state_of old) (view (disk_of old)).image (state_of new) (view (disk_of new)).image) p lt off. others p lt (beside slot n page p at some few off)) (pages told);
  room = room;
  wrote = λ told. wrote_unused named (state_of old) (view (disk_of old)) (view (disk_of new)) (wrote told);
  counted = counted;
  only = only;
}

-- room that is enough for more
pub more_room : {T E : Type 0} (result : Result T E) (a b m n : ℕ) → m ≤ n → OnOk result (a ≤ b + m) → OnOk result (a ≤ b + n)
more_room (Ok value) a b m n few le = omega (arith, few, le)
more_room (Err error) a b m n few le = tt

-- no block less
pub no_more : {T E : Type 0} (result : Result T E) (a b : ℕ) → OnOk result (a ≤ b) → OnOk result (a ≤ b + 0)
no_more (Ok value) a b le = omega (arith, le)
no_more (Err error) a b le = tt

-- one block less at most
pub past_more : {T E : Type 0} (result : Result T E) (a b past : ℕ) → OnOk result (a ≤ b + min 1 past) → OnOk result (a ≤ b + 1)
past_more (Ok value) a b past le = omega (arith, le)
past_more (Err error) a b past le = tt

-- and what a call keeps that makes an anode
pub changes_made : {D T : Type 0} (tells : Type 0) (view : D → View) (slot n page : ℕ) (result : Result T NodeFault) (old new : Log D) (tx changed : Tx)
    → 1 ≤ n → n ≤ 64 → page ≡ page_for slot n → IsSoundLog tells view new → changed ≡ tx → PutsPages (is_page page) (slot_of tx) (state_of old) (state_of new)
    → (tells → OnOk result (SamePages (λ p. not (p == page)) (state_of old) (view (disk_of old)).image (state_of new) (view (disk_of new)).image))
    → (tells → OnOk result (free_blocks (state_of old) (view (disk_of old)).image ≤ free_blocks (state_of new) (view (disk_of new)).image))
    → IsQuiet (view (disk_of old)) (view (disk_of new))
    → (view (disk_of old)).faults ≤ (view (disk_of new)).faults
    → IfErr result (λ fault. IsNodeFault fault (view (disk_of old)) (view (disk_of new)))
    → ChangesSlot tells view slot 0 result old new tx changed
changes_made tells view slot n page result old new tx changed some few at sound same puts pages room quiet counted only =
    changes_in tells view slot n page 0 result old new tx changed (λ block. count_now (state_of old) (view (disk_of old)).image block) some few at sound same
    (puts_wider (is_page page) (with_counts page) (slot_of tx) (state_of old) (state_of new) (λ p is i. is i || nat_le 1058 p) puts)
    pages (λ told. no_more result _ _ (room told))
    (λ told. wrote_quiet (λ block. count_now (state_of old) (view (disk_of old)).image block) (state_of old) (view (disk_of old)) (view (disk_of new)) quiet)
    counted only

-- one change after another
unused_before : (old mid : State) (first second : View) → mid ≡ record old { puts = mid.puts } → WritesLoose (λ b. count_now old first.image b) old first.image first.image second.image
    → (b : ℕ) → IsLoose (λ (x : ℕ). count_now mid second.image x) mid second.image b → IsLoose (λ (x : ℕ). count_now old first.image x) old first.image b
unfolding count_settled
unused_before old mid first second rest writes b loose =
    let there = loose.there in
    let blocks : mid.superblock.blocks ≡ old.superblock.blocks = (λ i. (rest i).superblock.blocks) in
    let lt : b < old.superblock.blocks = omega (arith, blocks, there) in
    let now : count_settled (record old { puts = mid.puts }) second.image b ≡ 0 = (λ i. count_settled (sym rest i) second.image b) ∙ loose.settled in
    record { there = lt; now = omega arith; settled = sym (settled_beside old first.image second.image b lt writes.front) ∙ now }

pub unused_then : (old mid : State) (first second last : View) → mid ≡ record old { puts = mid.puts } → WroteUnused old first second → WroteUnused mid second last → WroteUnused old first last
unused_then old mid first second last rest one two =
    let counts : ℕ → ℕ = λ b. count_now old first.image b in
    let counts_2 : ℕ → ℕ = λ b. count_now mid second.image b in
    let blocks : mid.superblock.blocks ≡ old.superblock.blocks = (λ i. (rest i).superblock.blocks) in
    let before = unused_before old mid first second rest one.reads in
    wrote_then counts old first second last one
    (loose_wider counts counts_2 old mid first.image second.image second.image last.image blocks before two.reads)
    (wider_changes two.crash (λ c d. loose_wider counts counts_2 old mid first.image second.image c d blocks before))

-- whose fault an error is that came later
blame_later : (fault : NodeFault) (first second last : View) → first.faults ≤ second.faults → IsNodeFault fault second last → IsNodeFault fault first last
blame_later Failed first second last le blame = ((let rose = blame.0 in omega (arith, le, rose)), blame.1)
blame_later Memory first second last le blame = tt

pub blame_result : {T : Type 0} (result : Result T NodeFault) (first second last : View) → first.faults ≤ second.faults
    → IfErr result (λ fault. IsNodeFault fault second last) → IfErr result (λ fault. IsNodeFault fault first last)
blame_result (Ok value) first second last le blame = tt
blame_result (Err fault) first second last le blame = blame_later fault first second last le blame

more_free : {T : Type 0} (result : Result T NodeFault) (a b c first second last : ℕ) → a + b ≤ c → first ≤ second + a → OnOk result (second ≤ last + b) → OnOk result (first ≤ last + c)
more_free (Ok value) a b c first second last le one two = omega (arith, le, one, two)
more_free (Err fault) a b c first second last le one two = tt

module _ {D T : Type 0} (tells : Type 0) (view : D → View) (slot a b c : ℕ) (le : a + b ≤ c) (value : T) (old mid : Log D) (tx tx_2 : Tx)
    (one : ChangesSlot tells view slot a (Ok value) old mid tx tx_2) where
  pub may_after : (holds : (ℕ → List Anode) → State → List ℕ → Type 0) (condition first second : (ℕ → List Anode) → Type 0) (change : (ℕ → List Anode) → ℕ → List Anode)
      → MayTurn holds tells view condition slot c old tx → Turned holds tells view first change (Ok value) old mid
      → ((slots : ℕ → List Anode) → Held holds view slots old → condition slots → first slots × second (change slots))
      → MayTurn holds tells view second slot b mid tx_2
  may_after holds condition first second change may turns meets = record {
    sound = one.sound;
    may = subst (λ (x : Tx). MayPutAll (slot_pages slot) (state_of mid) (slot_of x)) (sym one.same) (one.puts.may (slot_pages slot) (λ p is. is) may.may);
    held = λ told. (let held = may.held told in let both = meets held.0 held.1 held.2 in (change held.0, turns told held.0 held.1 both.0, both.1));
    room = λ told. (let e = may.room told in let f = one.room told in omega (arith, e, f, le));
  }

  pub changes_then : {U : Type 0} (result : Result U NodeFault) (new : Log D) (tx_3 : Tx) → ChangesSlot tells view slot b result mid new tx_2 tx_3 → ChangesSlot tells view slot c result old new tx tx_3
  changes_then result new tx_3 two = record {
    sound = two.sound;
    same = two.same ∙ one.same;
    puts = puts_then (slot_pages slot) (slot_of tx) (state_of old) (state_of mid) (state_of new) one.puts
        (subst (λ (x : Tx). PutsPages (slot_pages slot) (slot_of x) (state_of mid) (state_of new)) one.same two.puts);
    pages = λ told. on_ok_weaker result (λ (f : SamePages (λ p. not (slot_pages slot p)) (state_of mid) (view (disk_of mid)).image (state_of new) (view (disk_of new)).image) p lt off. f p lt off ∙ one.pages told p lt off) (two.pages told);
    room = λ told. more_free result a b c _ _ _ le (one.room told) (two.room told);
    wrote = λ told. unused_then (state_of old) (state_of mid) (view (disk_of old)) (view (disk_of mid)) (view (disk_of new)) one.puts.rest (one.wrote told) (two.wrote told);
    counted = (let e = one.counted in let f = two.counted in omega (arith, e, f));
    only = blame_result result (view (disk_of old)) (view (disk_of mid)) (view (disk_of new)) one.counted two.only;
  }

-- a change that failed
pub changes_failed : {D T U : Type 0} (tells : Type 0) (view : D → View) (slot a c : ℕ) (fault : NodeFault) (old new : Log D) (tx changed : Tx)
    → ChangesSlot {T = T} tells view slot a (Err fault) old new tx changed → ChangesSlot {T = U} tells view slot c (Err fault) old new tx changed
changes_failed tells view slot a c fault old new tx changed failed = record {
  sound = failed.sound;
  same = failed.same;
  puts = failed.puts;
  pages = λ told. tt;
  room = λ told. tt;
  wrote = failed.wrote;
  counted = failed.counted;
  only = failed.only;
}

-- or that took fewer blocks
pub changes_fewer : {D T : Type 0} (tells : Type 0) (view : D → View) (slot a c : ℕ) (result : Result T NodeFault) (old new : Log D) (tx changed : Tx) → a ≤ c
    → ChangesSlot tells view slot a result old new tx changed → ChangesSlot tells view slot c result old new tx changed
changes_fewer tells view slot a c result old new tx changed le one = record {
  sound = one.sound;
  same = one.same;
  puts = one.puts;
  pages = one.pages;
  room = λ told. more_room result _ _ a c le (one.room told);
  wrote = one.wrote;
  counted = one.counted;
  only = one.only;
}

-- a condition that is weaker, and less room
pub may_less : {D : Type 0} (holds : (ℕ → List Anode) → State → List ℕ → Type 0) (tells : Type 0) (view : D → View) (condition weaker : (ℕ → List Anode) → Type 0) (slot a b : ℕ) (log : Log D) (tx : Tx)
    → a ≤ b → ((slots : ℕ → List Anode) → condition slots → weaker slots) → MayTurn holds tells view condition slot b log tx → MayTurn holds tells view weaker slot a log tx
may_less holds tells view condition weaker slot a b log tx le less may = record {
  sound = may.sound;
  may = may.may;
  held = λ told. (let held = may.held told in (held.0, held.1, less held.0 held.2));
  room = λ told. (let e = may.room told in omega (arith, e, le));
}

-- what is held changes twice
pub turned_then : {D U : Type 0} (holds : (ℕ → List Anode) → State → List ℕ → Type 0) (tells : Type 0) (view : D → View) (condition first second : (ℕ → List Anode) → Type 0)
    (change change_2 : (ℕ → List Anode) → ℕ → List Anode) (result : Result U NodeFault) (old mid new : Log D)
    → ((slots : ℕ → List Anode) → Held holds view slots old → condition slots → first slots × second (change slots))
    → (tells → (slots : ℕ → List Anode) → Held holds view slots old → first slots → Held holds view (change slots) mid)
    → Turned holds tells view second change_2 result mid new
    → Turned holds tells view condition (λ slots. change_2 (change slots)) result old new
turned_then holds tells view condition first second change change_2 result old mid new meets one two = λ told slots held is.
    (let both = meets slots held is in two told (change slots) (one told slots held both.0) both.1)

-- and is said otherwise
pub turned_as : {D T : Type 0} (holds : (ℕ → List Anode) → State → List ℕ → Type 0) (tells : Type 0) (view : D → View) (condition : (ℕ → List Anode) → Type 0)
    (change change_2 : (ℕ → List Anode) → ℕ → List Anode) (result : Result T NodeFault) (old new : Log D)
    → ((slots : ℕ → List Anode) → condition slots → change slots ≡ change_2 slots)
    → Turned holds tells view condition change result old new → Turned holds tells view condition change_2 result old new
turned_as holds tells view condition change change_2 result old new same one = λ told slots held is.
    on_ok_weaker result (λ (h : holds (change slots) (state_of new) (view (disk_of new)).image). subst (λ (s : ℕ → List Anode). holds s (state_of new) (view (disk_of new)).image) (same slots is) h) (one told slots held is)

-- what is said of objects holds of anodes that are being made
pub may_held : {D : Type 0} (tells : Type 0) (view : D → View) (condition : (ℕ → List Anode) → Type 0) (slot blocks : ℕ) (log : Log D) (tx : Tx)
    → MayTurn KeepsNow tells view condition slot blocks log tx → MayTurn HeldNow tells view condition slot blocks log tx
may_held tells view condition slot blocks log tx may = record {
  sound = may.sound;
  may = may.may;
  held = λ told. (let held = may.held told in (held.0, held_of held.0 (state_of log) (view (disk_of log)).image held.1, held.2));
  room = may.room;
}

-- a change that answers something else
pub changes_value : {D T U : Type 0} (tells : Type 0) (view : D → View) (slot blocks : ℕ) (value : T) (other : U) (old new : Log D) (tx changed : Tx)
    → ChangesSlot {T = T} tells view slot blocks (Ok value) old new tx changed → ChangesSlot {T = U} tells view slot blocks (Ok other) old new tx changed
changes_value tells view slot blocks value other old new tx changed one = record {
  sound = one.sound;
  same = one.same;
  puts = one.puts;
  pages = one.pages;
  room = one.room;
  wrote = one.wrote;
  counted = one.counted;
  only = tt;
}

-- an answer that is another one
pub changes_as : {D T : Type 0} (tells : Type 0) (view : D → View) (slot blocks : ℕ) (result other : Result T NodeFault) (old new : Log D) (tx changed : Tx) → result ≡ other
    → ChangesSlot tells view slot blocks other old new tx changed → ChangesSlot tells view slot blocks result old new tx changed
changes_as {T = T} tells view slot blocks result other old new tx changed same one =
    subst (λ (r : Result T NodeFault). ChangesSlot tells view slot blocks r old new tx changed) (sym same) one
