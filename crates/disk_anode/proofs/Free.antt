-- How many blocks are free.
use Rattle.std.proofs.Common.{◌≡◌, ◌≢◌, ◌<◌, ◌≤◌, ℕ, ◌+◌, ◌-◌, ◌/◌, List, refl, sym, ◌∙◌, subst, ap, arith}
use Rattle.std.specs.Prelude.{if◌then◌else◌, Bool, true, false, ◌==◌, ◌&&◌, nat_lt, min}
use Rattle.std.proofs.lemmas.Bool.Decides.{nat_tests}
use Rattle.base_types.specs.View.{View}
use Rattle.disk_log.specs.Puts.{page_of}
use Rattle.disk_log.specs.State.{State, with_put, put_of}
use Rattle.disk_anode.proofs.Moving.{now_same, settled_put}
use Rattle.disk_space.specs.Counts.{count_page, count_now, count_settled, AreUsed}
use Rattle.disk_space.specs.Faults.{IsTakeFault}
use Rattle.disk_space.specs.declared.fault.SpaceFault.{SpaceFault}
use Rattle.disk_space.specs.declared.fault.SpaceFault.TheVariants.{Failed, Full, Memory}
use Rattle.disk_anode.specs.Room.{one, how_many, free_blocks, blocks_written}
use Rattle.disk_anode.specs.Node.{no_names}
use Rattle.disk_anode.specs.Changes.{Moves, IsTaken}
use Rattle.disk_anode.proofs.Counting.{many_but, many_le, none_many}
use Rattle.disk_anode.proofs.Cells.{one_other}

-- no block is free
pub none_free : (state : State) (image : List ℕ) → AreUsed state image 0 state.superblock.blocks → free_blocks state image ≡ 0
none_free state image used = none_many (λ b. (count_now state image b == 0) && (count_settled state image b == 0)) state.superblock.blocks (λ b lt. by b lt (count_now state image b == 0) refl (count_settled state image b == 0) refl)
  where
    by : (b : ℕ) → b < state.superblock.blocks → (now : Bool) → (count_now state image b == 0) ≡ now → (settled : Bool) → (count_settled state image b == 0) ≡ settled → (now && settled) ≡ false
    by b lt true e true f =
        let now : count_now state image b ≡ 0 = grind (arith, nat_tests) in let settled : count_settled state image b ≡ 0 = grind (arith, nat_tests) in
        absurd (used b (omega arith) lt (record { there = lt; now = now; settled = settled }))
    by b lt true e false f = refl
    by b lt false e settled f = refl

-- where no block that had no pointer has one, none that was free isn't
pub free_left : (old new : State) (before after : List ℕ) → new.superblock.blocks ≡ old.superblock.blocks → ((b : ℕ) → b < old.superblock.blocks → count_now old before b ≡ 0 → count_now new after b ≡ 0)
    → ((b : ℕ) → b < old.superblock.blocks → count_settled new after b ≡ count_settled old before b) → free_blocks old before ≤ free_blocks new after
free_left old new before after blocks counts_2 settled_2 =
    subst (λ (n : ℕ). free_blocks old before ≤ how_many (λ b. (count_now new after b == 0) && (count_settled new after b == 0)) n) (sym blocks)
    (many_le (λ b. (count_now old before b == 0) && (count_settled old before b == 0)) (λ b. (count_now new after b == 0) && (count_settled new after b == 0)) old.superblock.blocks
    (λ b lt is. by b (counts_2 b lt) (settled_2 b lt) (count_now old before b == 0) refl is))
  where
    by : (b : ℕ) → (count_now old before b ≡ 0 → count_now new after b ≡ 0) → count_settled new after b ≡ count_settled old before b → (now : Bool) → (count_now old before b == 0) ≡ now
        → (now && (count_settled old before b == 0)) ≡ true → ((count_now new after b == 0) && (count_settled new after b == 0)) ≡ true
    by b counts settled true e is =
        let was : count_now old before b ≡ 0 = grind (arith, nat_tests) in
        let none : count_now new after b ≡ 0 = counts was in
        let test : (count_now new after b == 0) ≡ true = grind (arith, nat_tests) in
        (λ i. test i && (settled i == 0)) ∙ is
    by b counts settled false e is = absurd (grind (arith, is))

pub free_kept : (dropped : ℕ → ℕ) (old new : State) (before after : List ℕ) → new.superblock.blocks ≡ old.superblock.blocks → Moves dropped no_names old before new after → free_blocks old before ≤ free_blocks new after
free_kept dropped old new before after blocks moves = free_left old new before after blocks (λ b lt was. let e = moves.counts b lt in omega (arith, e, was)) moves.settled

-- one block less is free where one was taken
pub free_taken : (block : ℕ) (bytes : List ℕ) (old new : State) (before after : List ℕ) → new.superblock.blocks ≡ old.superblock.blocks → IsTaken block bytes old before new after → free_blocks old before ≤ free_blocks new after + 1
free_taken block bytes old new before after blocks taken =
    subst (λ (n : ℕ). free_blocks old before ≤ how_many (λ b. (count_now new after b == 0) && (count_settled new after b == 0)) n + 1) (sym blocks) (by ((count_now old before block == 0) && (count_settled old before block == 0)) ((count_now new after block == 0) && (count_settled new after block == 0))
    (many_but (λ b. (count_now old before b == 0) && (count_settled old before b == 0)) (λ b. (count_now new after b == 0) && (count_settled new after b == 0)) block old.superblock.blocks taken.free.there (λ b lt apart. (let e = same b lt apart in let f = taken.moves.settled b lt in λ i. (sym e i == 0) && (sym f i == 0)))))
  where
    same : (b : ℕ) → b < old.superblock.blocks → b ≢ block → count_now new after b ≡ count_now old before b
    same b lt apart = (let e = taken.moves.counts b lt in let f = one_other (block + 1) (b + 1) (λ is. apart (omega arith)) in omega (arith, e, f))

    by : (a b : Bool) → how_many (λ b. (count_now new after b == 0) && (count_settled new after b == 0)) old.superblock.blocks + one a ≡ how_many (λ b. (count_now old before b == 0) && (count_settled old before b == 0)) old.superblock.blocks + one b → how_many (λ b. (count_now old before b == 0) && (count_settled old before b == 0)) old.superblock.blocks ≤ how_many (λ b. (count_now new after b == 0) && (count_settled new after b == 0)) old.superblock.blocks + 1
    by true true e = omega arith
    by true false e = omega arith
    by false true e = omega arith
    by false false e = omega arith

-- whose fault an error is
pub other_fault : {A B : Type 0} → (A → B) → (fault : SpaceFault) (old new : View) → IsTakeFault A fault old new → IsTakeFault B fault old new
other_fault more Failed old new is = is
other_fault more Memory old new is = is
other_fault more Full old new is = more is

-- the blocks that are written rise with those that are laid
pub written_more : (kept from n i j : ℕ) → i ≤ j → blocks_written kept from n i ≤ blocks_written kept from n j
written_more kept from n i j le = by (nat_lt (kept / 1024) i) refl (nat_lt (kept / 1024) j) refl
  where
    by : (a : Bool) → nat_lt (kept / 1024) i ≡ a → (b : Bool) → nat_lt (kept / 1024) j ≡ b → min i ((from + n + 1023) / 1024) - from / 1024 + one a ≤ min j ((from + n + 1023) / 1024) - from / 1024 + one b
    by true e true f = omega arith
    by true e false f = let low : kept / 1024 < i = grind (arith, nat_tests) in let high : j ≤ kept / 1024 = grind (arith, nat_tests) in absurd (omega arith)
    by false e true f = omega arith
    by false e false f = omega arith

pub written_most : (kept from n : ℕ) → blocks_written kept from n 64 ≤ (from + n + 1023) / 1024 - from / 1024 + 1
written_most kept from n = by (nat_lt (kept / 1024) 64)
  where
    by : (a : Bool) → min 64 ((from + n + 1023) / 1024) - from / 1024 + one a ≤ (from + n + 1023) / 1024 - from / 1024 + 1
    by true = omega arith
    by false = omega arith

-- a put of a page below those of counts leaves the counts
pub free_put : (page slot : ℕ) (bytes was : List ℕ) (mid new : State) (middle after : List ℕ) → page < 1058 → new ≡ with_put mid (put_of slot page was bytes)
    → ((image : List ℕ) (p : ℕ) → page_of new.entries new.puts image p ≡ (if page == p then bytes else page_of mid.entries mid.puts image p)) → after ≡ middle → free_blocks mid middle ≤ free_blocks new after
free_put page slot bytes was mid new middle after low is pages quiet =
    free_left mid new middle after (λ i. (is i).superblock.blocks) (λ b lt was. now b ∙ was) (λ b lt. ap (λ (l : List ℕ). count_settled new l b) quiet ∙ settled_put mid new slot page was bytes middle b is)
  where
    now : (b : ℕ) → count_now new after b ≡ count_now mid middle b
    now b = (let apart : (page == count_page b) ≡ false = (let high : page < count_page b = omega arith in grind (arith, nat_tests)) in
        ap (λ (l : List ℕ). count_now new l b) quiet ∙ now_same mid new middle middle b (pages middle (count_page b) ∙ (λ i. if apart i then bytes else page_of mid.entries mid.puts middle (count_page b))))
