-- A slot that is being made of another one.
use Rattle.std.proofs.Common.{◌≡◌, ◌≢◌, ◌<◌, ◌≤◌, ◌⊎◌, ℕ, zero, suc, ◌+◌, ◌-◌, ◌/◌, ◌%◌, List, refl, sym, ◌∙◌, subst, inl, inr, arith}
use Rattle.std.specs.Prelude.{true, is_none, Result, OnOk}
use Rattle.std.proofs.lemmas.Bool.{cases_eq}
use Rattle.base_types.specs.View.{View}
use Rattle.base_types.specs.Lists.{changed_at}
use Rattle.tree_objects.specs.declared.content.Anode.{Anode}
use Rattle.disk_log.specs.Log.{disk_of, state_of}
use Rattle.disk_log.specs.State.{State}
use Rattle.disk_log.specs.declared.kept.Tx.{Tx}
use Rattle.disk_log.specs.declared.log.Log.{Log}
use Rattle.disk_space.specs.Counts.{count_now}
use Rattle.disk_anode.specs.Anode.{anode_in, bytes_of, byte_length, IsTrimmed}
use Rattle.disk_anode.specs.Changes.{WritesLoose, Made, OwnsMap, SharesBlocks}
use Rattle.disk_anode.specs.Node.{pointer_of, names, no_names, node_in}
use Rattle.disk_anode.specs.declared.fault.NodeFault.{NodeFault}
use Rattle.disk_anode.proofs.Cells.{named_some}
use Rattle.disk_anode.proofs.Plain.{names_none, trimmed_none}
use Rattle.disk_objects.specs.Holds.{is_anode, slot_at, HoldsNow, NamesApart}
use Rattle.disk_objects.proofs.Calls.{counted_all, copied_fewer, copied_map, made_beside, names_within}
use Rattle.disk_objects.proofs.Turning.{names_some}
use Rattle.disk_objects.specs.Objects.{page_for, anode_at, kept_anodes, with_anode, KeepsNow, AreTrimmed}
use Rattle.disk_objects.proofs.Contents.{vacant_kind}
use Rattle.disk_objects.proofs.Places.{page_is, anode_here, kept_here, at_other, slot_here}
use Rattle.disk_fileset.specs.Slots.{IsVacant, AllVacant, IsCopy, CopiesNow, MayTurn}
use Rattle.disk_fileset.proofs.Changing.{on_ok_two}

-- a slot without objects names no blocks
pub copies_none : (from to : ℕ) (slots : ℕ → List Anode) (state : State) (image : List ℕ) → KeepsNow slots state image → AllVacant to slots → CopiesNow from to slots state image
copies_none from to slots state image keeps vacant = record { keeps = keeps; copies = λ anode some few. inl (vacant anode some few) }

pub may_copy : {D : Type 0} (from to : ℕ) (tells : Type 0) (view : D → View) (blocks : ℕ) (log : Log D) (tx : Tx)
    → MayTurn KeepsNow tells view (AllVacant to) to blocks log tx → MayTurn (CopiesNow from to) tells view (AllVacant to) to blocks log tx
may_copy from to tells view blocks log tx may = record {
  sound = may.sound;
  may = may.may;
  held = λ told. (let held = may.held told in (held.0, copies_none from to held.0 (state_of log) (view (disk_of log)).image held.1 held.2, held.2));
  room = may.room;
}

-- the slot of a page, and another anode of it
slot_is : (slot n : ℕ) → 1 ≤ n → n ≤ 64 → slot_at (page_for slot n) ≡ slot
slot_is slot n some few = omega arith

other_place : (to n q : ℕ) → 1 ≤ n → n ≤ 64 → is_anode q ≡ true → q ≢ page_for to n → slot_at (page_for to n) ≡ slot_at q
    → (m : ℕ) × (1 ≤ m) × (m ≤ 64) × (m ≢ n) × (q ≡ page_for to m)
other_place to n q some few is apart same =
    let at = anode_here q is in
    let there : (q - 2) / 66 ≡ to = sym same ∙ slot_is to n some few in
    let here : q ≡ page_for to ((q - 2) % 66 - 1) = at.3 ∙ (λ i. page_for (there i) ((q - 2) % 66 - 1)) in
    ((q - 2) % 66 - 1, at.1, at.2, (λ e. apart (here ∙ (λ i. page_for to (e i)))), here)

-- a pointer of nodes that are the same
fewer_as : (a b c d : ℕ) → a ≡ c → b ≡ d → (a ≡ 0) ⊎ (a ≡ b) → (c ≡ 0) ⊎ (c ≡ d)
fewer_as a b c d e f (inl empty) = inl (sym e ∙ empty)
fewer_as a b c d e f (inr same) = inr (sym e ∙ same ∙ f)

module _ (from to n : ℕ) (from_low : from < 16) (low : to < 16) (apart : from ≢ to) (some : 1 ≤ n) (few : n ≤ 64) (slots : ℕ → List Anode) (old : State) (before : List ℕ) (copies : CopiesNow from to slots old before) where
  held : HoldsNow (kept_anodes slots) old before
  held = copies.keeps.held

  -- no other anode of the slot names a block of the next one
  pub clear_in : NamesApart (page_for to n) (node_in old before (page_for from n)) old before
  clear_in q b is other same lt =
      let at = other_place to n q some few is other same in
      let rest = by at.0 at.1 at.2 at.3 (copies.copies at.0 at.1 at.2) in
      let e : names (node_in old before q) b ≡ names (node_in old before (page_for to at.0)) b = (let here = at.4 in λ i. names (node_in old before (here i)) b) in
      omega (arith, rest, e)
    where
      by : (m : ℕ) → 1 ≤ m → m ≤ 64 → m ≢ n → IsVacant to m slots ⊎ IsCopy (page_for from m) (page_for to m) old before
          → names (node_in old before (page_for from n)) b + names (node_in old before (page_for to m)) b ≤ 1
      by m one most off (inl vacant) =
          let none = held.bare (page_for to m) (page_is to m low one most) ((λ i. (kept_here slots to m low one most i).kind) ∙ vacant_kind (anode_at (slots to) m) vacant) in
          let empty = names_none (node_in old before (page_for to m)) none b in
          let once = held.once (page_for from n) b (page_is from n from_low some few) lt in
          omega (arith, empty, once)
      by m one most off (inr copy) = at copy.map
        where
          within : (pointer_of (node_in old before (page_for to m)) 15 ≡ b + 1 → pointer_of (node_in old before (page_for from m)) 15 ≡ b + 1) → names (node_in old before (page_for from n)) b + names (node_in old before (page_for to m)) b ≤ 1
          within map =
              let e = names_within (node_in old before (page_for from m)) (node_in old before (page_for to m)) copy.pointers b map in
              let once = held.slots (page_for from n) (page_for from m) b (page_is from n from_low some few) (page_is from m from_low one most) (λ is. off (omega (arith, is)))
              (slot_is from n some few ∙ sym (slot_is from m one most)) lt in
              omega (arith, e, once)

          alone : pointer_of (node_in old before (page_for to m)) 15 ≡ b + 1
              → ((other block : ℕ) → is_anode other ≡ true → other ≢ page_for to m → block < old.superblock.blocks → pointer_of (node_in old before (page_for to m)) 15 ≡ block + 1 → pointer_of (node_in old before other) 15 ≢ block + 1)
              → (count : ℕ) → names (node_in old before (page_for from n)) b ≡ count → names (node_in old before (page_for from n)) b + names (node_in old before (page_for to m)) b ≤ 1
          alone here own zero e = let once = held.once (page_for to m) b (page_is to m low one most) lt in omega (arith, e, once)
          alone here own (suc count) e = absurd (neither (cases_eq found.0 15))
            where
              found : (w : ℕ) × (w < 68) × (pointer_of (node_in old before (page_for from n)) w ≡ b + 1)
              found = names_some (node_in old before (page_for from n)) b (omega (arith, e))

              beside_it : page_for from n ≢ page_for to m
              beside_it is = apart (omega (arith, is, one, most, some, few))

              neither : (found.0 ≡ 15) ⊎ (found.0 ≢ 15) → ⊥
              neither (inl is) = own (page_for from n) b (page_is from n from_low some few) beside_it lt here ((λ i. pointer_of (node_in old before (page_for from n)) (sym is i)) ∙ found.2)
              neither (inr other) = held.apart (page_for to m) (page_for from n) found.0 b (page_is to m low one most) (page_is from n from_low some few) lt here found.1 other found.2

          at : (pointer_of (node_in old before (page_for to m)) 15 ≡ pointer_of (node_in old before (page_for from m)) 15)
              ⊎ ((other block : ℕ) → is_anode other ≡ true → other ≢ page_for to m → block < old.superblock.blocks → pointer_of (node_in old before (page_for to m)) 15 ≡ block + 1 → pointer_of (node_in old before other) 15 ≢ block + 1)
              → names (node_in old before (page_for from n)) b + names (node_in old before (page_for to m)) b ≤ 1
          at (inl same_map) = within (λ here. sym same_map ∙ here)
          at (inr own) = which (cases_eq (pointer_of (node_in old before (page_for to m)) 15) (b + 1))
            where
              which : (pointer_of (node_in old before (page_for to m)) 15 ≡ b + 1) ⊎ (pointer_of (node_in old before (page_for to m)) 15 ≢ b + 1) → names (node_in old before (page_for from n)) b + names (node_in old before (page_for to m)) b ≤ 1
              which (inl here) = alone here own (names (node_in old before (page_for from n)) b) refl
              which (inr not_here) = within (λ here. absurd (not_here here))

  -- and then it is a copy, too
  module _ (page source : ℕ) (at : page ≡ page_for to n) (of : source ≡ page_for from n) (new : State) (after : List ℕ) (rest : new ≡ record old { puts = new.puts }) (change : Anode → Anode)
      (made : Made page (anode_in old before source) old before new after) (shares : SharesBlocks page (node_in old before source) old before new after) (writes : WritesLoose no_names old before before after) where
    made_there : Made (page_for to n) (anode_in old before (page_for from n)) old before new after
    made_there = subst (λ (p : ℕ). Made (page_for to n) (anode_in old before p) old before new after) of (subst (λ (p : ℕ). Made p (anode_in old before source) old before new after) at made)

    shares_there : SharesBlocks (page_for to n) (node_in old before (page_for from n)) old before new after
    shares_there = subst (λ (p : ℕ). SharesBlocks (page_for to n) (node_in old before p) old before new after) of (subst (λ (p : ℕ). SharesBlocks p (node_in old before source) old before new after) at shares)

    beside : (q : ℕ) → is_anode q ≡ true → q ≢ page_for to n → node_in new after q ≡ node_in old before q
    beside q is off = made_beside (kept_anodes slots) (page_for to n) q (anode_in old before (page_for from n)) old new before after is off held rest made_there writes

    source_stays : (m : ℕ) → 1 ≤ m → m ≤ 64 → node_in new after (page_for from m) ≡ node_in old before (page_for from m)
    source_stays m one most = beside (page_for from m) (page_is from m from_low one most) (λ e. apart (omega (arith, e, one, most, some, few)))

    low_before : (block : ℕ) → block < new.superblock.blocks → block < old.superblock.blocks
    low_before block lt = let same : new.superblock.blocks ≡ old.superblock.blocks = (λ i. (rest i).superblock.blocks) in omega (arith, lt, same)

    -- an indirect block that was free was no other anode's
    free_map : (q block : ℕ) → is_anode q ≡ true → block < old.superblock.blocks → count_now old before block ≡ 0 → pointer_of (node_in old before q) 15 ≢ block + 1
    free_map q block is lt none there =
        let e = counted_all (kept_anodes slots) old before held q is block lt in
        let f = named_some (node_in old before q) 15 block (omega arith) there in
        omega (arith, none, e, f)

    copied : IsCopy (page_for from n) (page_for to n) new after
    copied = record {
      trimmed = λ i lt le. shares_there.past i lt (omega (arith, le, size));
      pointers = λ w lt off. fewer_as (pointer_of (node_in new after (page_for to n)) w) (pointer_of (node_in old before (page_for from n)) w) (pointer_of (node_in new after (page_for to n)) w) (pointer_of (node_in new after (page_for from n)) w)
          refl (λ i. pointer_of (sym (source_stays n some few) i) w) (copied_fewer (page_for to n) (node_in old before (page_for from n)) old new before after shares_there w lt off);
      map = by (copied_map (page_for to n) (node_in old before (page_for from n)) old new before after shares_there);
    }
      where
        size : bytes_of (node_in new after (page_for to n)) ≡ bytes_of (node_in old before (page_for from n))
        size = let e = made_there.anode_is in λ i. byte_length (e i).kind (e i).length

        by : (pointer_of (node_in new after (page_for to n)) 15 ≡ pointer_of (node_in old before (page_for from n)) 15) ⊎ OwnsMap (page_for to n) old before new after
            → (pointer_of (node_in new after (page_for to n)) 15 ≡ pointer_of (node_in new after (page_for from n)) 15)
            ⊎ ((other block : ℕ) → is_anode other ≡ true → other ≢ page_for to n → block < new.superblock.blocks → pointer_of (node_in new after (page_for to n)) 15 ≡ block + 1 → pointer_of (node_in new after other) 15 ≢ block + 1)
        by (inl same) = inl (same ∙ (λ i. pointer_of (sym (source_stays n some few) i) 15))
        by (inr owns) = inr (λ other block is off lt here there. free_map other block is (low_before block lt) (owns.free block (low_before block lt) here) ((λ i. pointer_of (sym (beside other is off) i) 15) ∙ there))

    -- and the others are still
    still : (m : ℕ) → 1 ≤ m → m ≤ 64 → m ≢ n → IsCopy (page_for from m) (page_for to m) old before → IsCopy (page_for from m) (page_for to m) new after
    still m one most off copy = record {
      trimmed = subst IsTrimmed (sym here) copy.trimmed;
      pointers = λ w lt other. fewer_as (pointer_of (node_in old before (page_for to m)) w) (pointer_of (node_in old before (page_for from m)) w) (pointer_of (node_in new after (page_for to m)) w) (pointer_of (node_in new after (page_for from m)) w)
          (λ i. pointer_of (sym here i) w) (λ i. pointer_of (sym (source_stays m one most) i) w) (copy.pointers w lt other);
      map = by copy.map;
    }
      where
        here : node_in new after (page_for to m) ≡ node_in old before (page_for to m)
        here = beside (page_for to m) (page_is to m low one most) (λ e. off (omega (arith, e)))

        there : (other block : ℕ) → is_anode other ≡ true → other ≢ page_for to m → block < old.superblock.blocks → pointer_of (node_in old before (page_for to m)) 15 ≡ block + 1
            → ((q b : ℕ) → is_anode q ≡ true → q ≢ page_for to m → b < old.superblock.blocks → pointer_of (node_in old before (page_for to m)) 15 ≡ b + 1 → pointer_of (node_in old before q) 15 ≢ b + 1)
            → (other ≡ page_for to n) ⊎ (other ≢ page_for to n) → pointer_of (node_in new after other) 15 ≡ block + 1 → ⊥
        there other block is beside_it lt mine own (inr else) names_it = own other block is beside_it lt mine ((λ i. pointer_of (sym (beside other is else) i) 15) ∙ names_it)
        there other block is beside_it lt mine own (inl that) names_it = by_copy (copied_map (page_for to n) (node_in old before (page_for from n)) old new before after shares_there)
          where
            new_names : pointer_of (node_in new after (page_for to n)) 15 ≡ block + 1
            new_names = (λ i. pointer_of (node_in new after (sym that i)) 15) ∙ names_it

            by_copy : (pointer_of (node_in new after (page_for to n)) 15 ≡ pointer_of (node_in old before (page_for from n)) 15) ⊎ OwnsMap (page_for to n) old before new after → ⊥
            by_copy (inl same) = own (page_for from n) block (page_is from n from_low some few) (λ e. apart (omega (arith, e, one, most, some, few))) lt mine (sym same ∙ new_names)
            by_copy (inr owns) = free_map (page_for to m) block (page_is to m low one most) lt (owns.free block lt new_names) mine

        by : (pointer_of (node_in old before (page_for to m)) 15 ≡ pointer_of (node_in old before (page_for from m)) 15)
            ⊎ ((other block : ℕ) → is_anode other ≡ true → other ≢ page_for to m → block < old.superblock.blocks → pointer_of (node_in old before (page_for to m)) 15 ≡ block + 1 → pointer_of (node_in old before other) 15 ≢ block + 1)
            → (pointer_of (node_in new after (page_for to m)) 15 ≡ pointer_of (node_in new after (page_for from m)) 15)
            ⊎ ((other block : ℕ) → is_anode other ≡ true → other ≢ page_for to m → block < new.superblock.blocks → pointer_of (node_in new after (page_for to m)) 15 ≡ block + 1 → pointer_of (node_in new after other) 15 ≢ block + 1)
        by (inl same) = inl ((λ i. pointer_of (here i) 15) ∙ same ∙ (λ i. pointer_of (sym (source_stays m one most) i) 15))
        by (inr own) = inr (λ other block is beside_it lt mine names_it. there other block is beside_it (low_before block lt) ((λ i. pointer_of (sym here i) 15) ∙ mine) own (cases_eq other (page_for to n)) names_it)

    copy_at : (m : ℕ) → 1 ≤ m → m ≤ 64 → (m ≡ n) ⊎ (m ≢ n) → IsVacant to m (with_anode to n change slots) ⊎ IsCopy (page_for from m) (page_for to m) new after
    copy_at m one most (inl e) = inr (subst (λ (x : ℕ). IsCopy (page_for from x) (page_for to x) new after) (sym e) copied)
    copy_at m one most (inr off) = by (copies.copies m one most)
      where
        anode_stays : anode_at (with_anode to n change slots to) m ≡ anode_at (slots to) m
        anode_stays = (λ i. anode_at (slot_here slots to to (changed_at (slots to) (n - 1) change) refl i) m) ∙ at_other (slots to) n m change (λ e. off (omega (arith, e, one, some)))

        by : IsVacant to m slots ⊎ IsCopy (page_for from m) (page_for to m) old before → IsVacant to m (with_anode to n change slots) ⊎ IsCopy (page_for from m) (page_for to m) new after
        by (inl vacant) = inl (subst (λ (a : Anode). is_none a.object ≡ true) (sym anode_stays) vacant)
        by (inr copy) = inr (still m one most off copy)

    pub copies_next : KeepsNow (with_anode to n change slots) new after → CopiesNow from to (with_anode to n change slots) new after
    copies_next keeps = record { keeps = keeps; copies = λ m one most. copy_at m one most (cases_eq m n) }

  pub copies_turned : {T : Type 0} (result : Result T NodeFault) (page source : ℕ) → page ≡ page_for to n → source ≡ page_for from n → (new : State) (after : List ℕ) → new ≡ record old { puts = new.puts } → (change : Anode → Anode)
      → WritesLoose no_names old before before after → OnOk result (KeepsNow (with_anode to n change slots) new after)
      → OnOk result (Made page (anode_in old before source) old before new after) → OnOk result (SharesBlocks page (node_in old before source) old before new after)
      → OnOk result (CopiesNow from to (with_anode to n change slots) new after)
  copies_turned result page source at of new after rest change writes keeps made shares = on_ok_two result
      (λ (k : KeepsNow (with_anode to n change slots) new after) (both : Made page (anode_in old before source) old before new after × SharesBlocks page (node_in old before source) old before new after).
      copies_next page source at of new after rest change both.0 both.1 writes k)
      keeps (on_ok_two result (λ (m : Made page (anode_in old before source) old before new after) (s : SharesBlocks page (node_in old before source) old before new after). (m, s)) made shares)

-- a slot that was made of another one has no pointers past a length
pub copies_trimmed : (from to : ℕ) → to < 16 → (slots : ℕ → List Anode) (state : State) (image : List ℕ) → CopiesNow from to slots state image → AreTrimmed to state image
copies_trimmed from to low slots state image copies m one most = by (copies.copies m one most)
  where
    by : IsVacant to m slots ⊎ IsCopy (page_for from m) (page_for to m) state image → IsTrimmed (node_in state image (page_for to m))
    by (inr copy) = copy.trimmed
    by (inl vacant) = trimmed_none (node_in state image (page_for to m)) (copies.keeps.held.bare (page_for to m) (page_is to m low one most)
        ((λ i. (kept_here slots to m low one most i).kind) ∙ vacant_kind (anode_at (slots to) m) vacant))
