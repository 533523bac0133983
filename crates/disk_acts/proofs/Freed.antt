-- Blocks that are free stay free as a transaction begins and ends.
use Rattle.std.proofs.Common.{◌≡◌, ◌≤◌, ℕ, ◌+◌, List, [], ◌∷◌, ◌++◌, length, take, drop, refl, sym, ◌∙◌, ap, subst, arith, get_or}
use Rattle.std.specs.Prelude.{Bool, true, false, ◌==◌, ◌&&◌, if◌then◌else◌, bit_or}
use Rattle.std.proofs.lemmas.Bool.Decides.{nat_tests}
use Rattle.std.proofs.lemmas.List.{take-append-le, drop-append-le}
use Rattle.base_types.specs.View.{View}
use Rattle.base_outside.proofs.Runs.{wider_changes}
use Rattle.disk_layout.specs.declared.entry.Entry.{Entry}
use Rattle.disk_layout.specs.declared.entry.Entry.TheVariants.{Update, End}
use Rattle.disk_layout.specs.Numbers.{number_at}
use Rattle.disk_layout.specs.Places.{in_place}
use Rattle.disk_layout.specs.Pages.{redone}
use Rattle.disk_log.specs.Puts.{overlaid, page_of, IsAbsent, AreApart, updates_of, run_of, or_of, settled_byte}
use Rattle.disk_log.specs.State.{State, begun, ended}
use Rattle.disk_log.specs.declared.put.Put.{Put}
use Rattle.disk_space.specs.Counts.{count_page, count_place, count_now, count_settled}
use Rattle.disk_anode.specs.Room.{how_many, free_blocks}
use Rattle.disk_anode.specs.Changes.{IsLoose, WritesLoose}
use Rattle.disk_anode.proofs.Counting.{many_le}
use Rattle.disk_anode.proofs.Moving.{loose_wider}
use Rattle.disk_objects.proofs.Staging.{two_bytes}
use Rattle.disk_fileset.specs.Slots.{WroteUnused}

-- what is settled, behind more entries
or_append : (xs ys : List Entry) (p k byte : ℕ) → or_of (xs ++ ys) p k byte ≡ or_of ys p k (or_of xs p k byte)
or_append [] ys p k byte = refl
or_append (Update t page old new ∷ xs) ys p k byte = or_append xs ys p k (if page == p then bit_or byte (get_or new k 0) else byte)
or_append (End t ∷ xs) ys p k byte = or_append xs ys p k byte

other_page : (a p : ℕ) → (a ≡ p → ⊥) → (a == p) ≡ false
other_page a p apart = grind (arith, nat_tests, apart)

or_absent : (slot name : ℕ) (puts : List Put) (p k byte : ℕ) → IsAbsent p puts → or_of (updates_of slot name puts) p k byte ≡ byte
or_absent slot name [] p k byte absent = refl
or_absent slot name (put ∷ puts) p k byte absent = by (put.slot == slot) (or_absent slot name puts p k byte absent.1)
  where
    other : (put.page == p) ≡ false
    other = other_page put.page p absent.0

    by : (mine : Bool) → or_of (updates_of slot name puts) p k byte ≡ byte
        → or_of (if mine then Update name put.page put.old put.new ∷ updates_of slot name puts else updates_of slot name puts) p k byte ≡ byte
    by true rest = (λ i. or_of (updates_of slot name puts) p k (if other i then bit_or byte (get_or put.new k 0) else byte)) ∙ rest
    by false rest = rest

both_none : (a b : ℕ) → a ≡ 0 → b ≡ 0 → bit_or a b ≡ 0
both_none a b e f = λ i. bit_or (e i) (f i)

or_updates : (n slot name : ℕ) (puts : List Put) (pages : ℕ → List ℕ) (p k byte : ℕ) → AreApart n puts → byte ≡ 0 → get_or (overlaid puts pages p) k 0 ≡ 0
    → or_of (updates_of slot name puts) p k byte ≡ 0
or_updates n slot name [] pages p k byte apart none now = none
or_updates n slot name (put ∷ puts) pages p k byte apart none now = by (put.slot == slot) (put.page == p) refl now (λ rest. or_updates n slot name puts pages p k byte apart.2 none rest)
  where
    absent : (put.page == p) ≡ true → IsAbsent p puts
    absent e = let same : put.page ≡ p = grind (arith, nat_tests, e) in subst (λ (q : ℕ). IsAbsent q puts) same apart.1

    by : (mine here : Bool) → (put.page == p) ≡ here → get_or (if here then put.new else overlaid puts pages p) k 0 ≡ 0
        → (get_or (overlaid puts pages p) k 0 ≡ 0 → or_of (updates_of slot name puts) p k byte ≡ 0)
        → or_of (if mine then Update name put.page put.old put.new ∷ updates_of slot name puts else updates_of slot name puts) p k byte ≡ 0
    by true true e zero rest =
        (λ i. or_of (updates_of slot name puts) p k (if e i then bit_or byte (get_or put.new k 0) else byte))
        ∙ or_absent slot name puts p k (bit_or byte (get_or put.new k 0)) (absent e) ∙ both_none byte (get_or put.new k 0) none zero
    by true false e zero rest = (λ i. or_of (updates_of slot name puts) p k (if e i then bit_or byte (get_or put.new k 0) else byte)) ∙ rest zero
    by false true e zero rest = or_absent slot name puts p k byte (absent e) ∙ none
    by false false e zero rest = rest zero

or_run : (slot name : ℕ) (puts : List Put) (p k byte : ℕ) → or_of (run_of slot name puts) p k byte ≡ or_of (updates_of slot name puts) p k byte
or_run slot name puts p k byte = or_append (updates_of slot name puts) (End name ∷ []) p k byte

-- a byte that is zero, and was settled so, is settled so behind the end of a transaction
byte_ended : (state : State) (image : List ℕ) (slot p k : ℕ) → state.forced ≤ length state.entries → AreApart state.half.pages state.puts
    → settled_byte state.entries state.forced image p k ≡ 0 → get_or (page_of state.entries state.puts image p) k 0 ≡ 0
    → settled_byte (ended state slot).entries (ended state slot).forced image p k ≡ 0
unfolding settled_byte page_of
byte_ended state image slot p k le apart none now =
    let run = run_of slot (length state.entries) state.puts in
    let held = take-append-le state.forced state.entries run le in
    let news = drop-append-le state.forced state.entries run le in
    let first : ℕ = get_or (redone (take state.forced state.entries) (in_place image) p) k 0 in
    (λ i. or_of (news i) p k (get_or (redone (held i) (in_place image) p) k 0))
    ∙ or_append (drop state.forced state.entries) run p k first
    ∙ or_run slot (length state.entries) state.puts p k (or_of (drop state.forced state.entries) p k first)
    ∙ or_updates state.half.pages slot (length state.entries) state.puts (λ (q : ℕ). redone state.entries (in_place image) q) p k (or_of (drop state.forced state.entries) p k first) apart none now

-- so is a count
count_ended : (state : State) (image : List ℕ) (slot block : ℕ) → state.forced ≤ length state.entries → AreApart state.half.pages state.puts
    → count_now state image block ≡ 0 → count_settled state image block ≡ 0 → count_settled (ended state slot) image block ≡ 0
unfolding count_now count_settled
count_ended state image slot block le apart now none =
    let p = count_page block in
    let k = count_place block in
    let e = two_bytes k (page_of state.entries state.puts image p) in
    let first : settled_byte state.entries state.forced image p k ≡ 0 = omega (arith, none) in
    let second : settled_byte state.entries state.forced image p (k + 1) ≡ 0 = omega (arith, none) in
    let a = byte_ended state image slot p k le apart first (omega (arith, e, now)) in
    let b = byte_ended state image slot p (k + 1) le apart second (omega (arith, e, now)) in
    omega (arith, a, b)

free_where : (old new : State) (image : List ℕ) → new.superblock.blocks ≡ old.superblock.blocks
    → ((b : ℕ) → count_now old image b ≡ 0 → count_now new image b ≡ 0)
    → ((b : ℕ) → count_now old image b ≡ 0 → count_settled old image b ≡ 0 → count_settled new image b ≡ 0)
    → free_blocks old image ≤ free_blocks new image
free_where old new image blocks now settled =
    subst (λ (n : ℕ). free_blocks old image ≤ how_many (λ b. (count_now new image b == 0) && (count_settled new image b == 0)) n) (sym blocks)
    (many_le (λ b. (count_now old image b == 0) && (count_settled old image b == 0)) (λ b. (count_now new image b == 0) && (count_settled new image b == 0)) old.superblock.blocks
    (λ b lt is. by b (now b) (settled b) (count_now old image b == 0) refl (count_settled old image b == 0) refl is))
  where
    by : (b : ℕ) → (count_now old image b ≡ 0 → count_now new image b ≡ 0) → (count_now old image b ≡ 0 → count_settled old image b ≡ 0 → count_settled new image b ≡ 0)
        → (c : Bool) → (count_now old image b == 0) ≡ c → (d : Bool) → (count_settled old image b == 0) ≡ d → (c && d) ≡ true
        → ((count_now new image b == 0) && (count_settled new image b == 0)) ≡ true
    by b now settled true e true f is =
        let first : count_now old image b ≡ 0 = grind (arith, nat_tests) in
        let second : count_settled old image b ≡ 0 = grind (arith, nat_tests) in
        let third : count_now new image b ≡ 0 = now first in
        let fourth : count_settled new image b ≡ 0 = settled first second in
        let g : (count_now new image b == 0) ≡ true = grind (arith, nat_tests) in
        let h : (count_settled new image b == 0) ≡ true = grind (arith, nat_tests) in
        λ i. g i && h i
    by b now settled true e false f is = absurd (grind (arith, is))
    by b now settled false e d f is = absurd (grind (arith, is))

-- the blocks that are free, as a transaction ends
now_ended : (state : State) (image : List ℕ) (slot block : ℕ)
    → page_of (ended state slot).entries (ended state slot).puts image (count_page block) ≡ page_of state.entries state.puts image (count_page block)
    → count_now (ended state slot) image block ≡ count_now state image block
unfolding count_now
now_ended state image slot block page = ap (λ (l : List ℕ). number_at 2 (count_place block) l) page

pub free_ended : (state : State) (image : List ℕ) (slot : ℕ) → state.forced ≤ length state.entries → AreApart state.half.pages state.puts
    → ((p : ℕ) → page_of (ended state slot).entries (ended state slot).puts image p ≡ page_of state.entries state.puts image p)
    → free_blocks state image ≤ free_blocks (ended state slot) image
free_ended state image slot le apart pages =
    free_where state (ended state slot) image refl (λ b none. now_ended state image slot b (pages (count_page b)) ∙ none)
    (λ b now none. count_ended state image slot b le apart now none)

-- and as one begins
pub free_begun : (state : State) (image : List ℕ) (slot needed : ℕ) → free_blocks (begun state slot needed) image ≡ free_blocks state image
unfolding count_now count_settled
free_begun state image slot needed = refl

loose_begun : (state : State) (image : List ℕ) (slot needed block : ℕ) → IsLoose (λ b. count_now (begun state slot needed) image b) (begun state slot needed) image block
    → IsLoose (λ b. count_now state image b) state image block
unfolding count_now count_settled
loose_begun state image slot needed block loose = record { there = loose.there; now = loose.now; settled = loose.settled }

pub unused_begun : (state : State) (slot needed : ℕ) (old new : View) → WroteUnused (begun state slot needed) old new → WroteUnused state old new
unused_begun state slot needed old new wrote =
    let wider : (a b : List ℕ) → WritesLoose (λ x. count_now (begun state slot needed) old.image x) (begun state slot needed) old.image a b → WritesLoose (λ x. count_now state old.image x) state old.image a b =
    λ a b. loose_wider (λ x. count_now state old.image x) (λ x. count_now (begun state slot needed) old.image x) state (begun state slot needed) old.image old.image a b refl (loose_begun state old.image slot needed) in
    record { reads = wider old.image new.image wrote.reads; crash = wider_changes wrote.crash wider }
