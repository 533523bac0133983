-- Anodes that were taken up with all their pointers their own, and changed.
use Rattle.std.proofs.Common.{◌≡◌, ◌≢◌, ◌<◌, ◌≤◌, ◌⊎◌, ℕ, ◌+◌, ◌/◌, ◌%◌, List, refl, sym, ◌∙◌, ap, subst, inl, inr, arith}
use Rattle.std.specs.Prelude.{[]}
use Rattle.base_types.specs.View.{View}
use Rattle.base_types.specs.Crash.{IsQuiet}
use Rattle.disk_layout.specs.Numbers.{number_at}
use Rattle.disk_layout.proofs.Bytes.{number-same}
use Rattle.disk_log.specs.State.{State}
use Rattle.disk_anode.specs.Node.{pointer_at, cell, names, node_in}
use Rattle.disk_anode.specs.Anode.{Anode, anode_of, byte_length, bytes_of, freed, IsTidy, IsTrimmed, IsBare}
use Rattle.disk_anode.specs.Room.{are_counts, with_counts, MayPutAll, PutsPages}
use Rattle.disk_space.specs.Counts.{count_now}
use Rattle.disk_anode.specs.Changes.{IsSpare, WroteLoose, AreCounted, own_names, left_names, Moves, Owned, Turned, Changed}
use Rattle.disk_anode.specs.declared.node.Node.{Node}
use Rattle.disk_anode.proofs.Cells.{cell_same}
use Rattle.disk_anode.proofs.Laid.{pointer_in}
use Rattle.disk_anode.proofs.Plain.{names_none, trimmed_none}
use Rattle.disk_anode.proofs.Sharing.{counted_own, turns_own}
use Rattle.disk_anode.proofs.Anodes.{anode_kept}
use Rattle.disk_anode.proofs.Saving.{counts_in}
use Rattle.disk_anode.proofs.Moving.{puts_then, puts_wider, wrote_more, wrote_quiet}
use Rattle.disk_anode.proofs.Renewing.{ranged_fewer}

module _ (page : ℕ) (update : Anode → Anode) (node : Node) (old mid new : State) (before middle after : List ℕ) (blocks : mid.superblock.blocks ≡ old.superblock.blocks) (quiet : middle ≡ before)
    (owned : Owned (node_in old before page) node) (moves : Moves (own_names old before (node_in old before page)) (names node) old before mid middle) (turned : Turned page update node mid middle new after)
    (left : (b : ℕ) → names node b ≤ left_names old before (node_in old before page) b) where
  stored : Node
  stored = node_in old before page

  cell_owned : (w k : ℕ) → w < 68 → w ≢ 15 → k < 1024 → cell middle node w k ≡ cell before (node_in old before page) w k
  cell_owned w k below apart lt = ap (λ (l : List ℕ). cell l node w k) quiet ∙ cell_same before before (node_in old before page) node w k owned.facts.blocks (owned.pointers w below apart) lt (λ is j low. refl)

  anode_owned : anode_of middle node ≡ anode_of before (node_in old before page)
  anode_owned = anode_kept before middle (node_in old before page) node owned.facts (λ v k below lt. cell_owned v k (omega arith) (λ e. absurd (omega (arith, e, below))) lt)
      (λ i k lt inside low. let p = pointer_in i lt in cell_owned (pointer_at i) k p.1 p.2 low)

  bytes_owned : bytes_of node ≡ bytes_of (node_in old before page)
  bytes_owned =
      let kind = owned.facts.rest 0 (inl (omega arith)) in
      let size = number-same 4 8 8 node.page (node_in old before page).page (λ j lt. owned.facts.rest (8 + j) (inl (omega arith))) in
      λ i. byte_length (kind i) (size i)

  tidy_owned : IsTidy before (node_in old before page) → IsTidy middle node
  tidy_owned tidy = record {
    first = λ k some low. owned.facts.rest k (inl (omega arith)) ∙ tidy.first k some low;
    owner = λ k le lt. (let e = owned.facts.rest 76 (inr (omega arith)) in owned.facts.rest k (inr (omega (arith, le))) ∙ tidy.owner k (omega (arith, e, le)) lt);
    group = λ k le lt. (let e = owned.facts.rest 137 (inr (omega arith)) in owned.facts.rest k (inr (omega (arith, le))) ∙ tidy.group k (omega (arith, e, le)) lt);
    behind = λ k le lt. owned.facts.behind k le ∙ tidy.behind k le lt;
    past = λ dir k le lt same. (let p = pointer_in (k / 1024) (omega arith) in cell_owned (pointer_at (k / 1024)) (k % 1024) p.1 p.2 (omega arith) ∙ tidy.past (sym (owned.facts.rest 0 (inl (omega arith))) ∙ dir) k (omega (arith, bytes_owned, le)) lt (omega (arith, bytes_owned, same)));
    range = ranged_fewer (node_in old before page) node owned.facts.blocks (λ b le. (let e = left b in omega (arith, e))) tidy.range;
    lists = λ w lt zero. owned.pointers w (omega arith) (λ e. absurd (omega (arith, e, lt)))
        ∙ tidy.lists w lt (λ k low. sym (cell_owned w k (omega arith) (λ e. absurd (omega (arith, e, lt))) low) ∙ zero k low);
  }

  trimmed_owned : IsTrimmed (node_in old before page) → IsTrimmed node
  trimmed_owned trimmed i lt le = let p = pointer_in i lt in owned.pointers (pointer_at i) p.1 p.2 ∙ trimmed i lt (omega (arith, bytes_owned, le))

  renewed_on : (b : ℕ) → b < old.superblock.blocks → (names (node_in new after page) b ≤ names node b) ⊎ ((b < mid.superblock.blocks) × (count_now mid middle b ≤ names node b) × (names (node_in new after page) b ≤ 1))
      → (names (node_in new after page) b ≤ left_names old before (node_in old before page) b)
      ⊎ ((count_now old before b ≤ own_names old before (node_in old before page) b) × (names (node_in new after page) b ≤ 1))
  renewed_on b lt (inl e) = inl (let f = left b in omega (arith, e, f))
  renewed_on b lt (inr e) = inr ((let m = moves.counts b lt in let f = e.1 in omega (arith, m, f)), e.2)

  pub changed_on : Changed page update old before new after
  changed_on = record {
    turns = turns_own page (own_names old before (node_in old before page)) (node_in new after page) old before new after turned.alone (record {
      counts = λ b lt. (let e = moves.counts b lt in let f = turned.turns.counts b (omega (arith, blocks, lt)) in omega (arith, e, f));
      settled = λ b lt. turned.turns.settled b (omega (arith, blocks, lt)) ∙ moves.settled b lt;
      tail = λ b spare. turned.turns.tail b (subst (λ (m : ℕ). IsSpare m b) (sym blocks) spare) ∙ moves.tail b spare;
      pages = λ p low apart. turned.turns.pages p low apart ∙ moves.pages p low;
    });
    anode = turned.anode ∙ ap update anode_owned;
    tidy = λ tidy. turned.tidy (tidy_owned tidy);
    trimmed = λ trimmed. turned.trimmed (trimmed_owned trimmed);
    renewed = inr (record { alone = turned.alone; pointers = λ b lt. renewed_on b lt (turned.renews b) });
  }

-- an anode that was freed
pub freed_changed : (page : ℕ) (node : Node) (old mid new : State) (before middle after : List ℕ) → mid ≡ old → middle ≡ before → node.page ≡ (node_in old before page).page
    → ((b : ℕ) → names node b ≡ own_names old before (node_in old before page) b) → Turned page freed node mid middle new after → IsBare after (node_in new after page) → Changed page freed old before new after
freed_changed page node old mid new before middle after same quiet is named turned bare = by
    (subst (λ (s : State). Turned page freed node s before new after) same (subst (λ (l : List ℕ). Turned page freed node mid l new after) quiet turned))
  where
    by : Turned page freed node old before new after → Changed page freed old before new after
    by turned_2 = record {
      turns = turns_own page (own_names old before (node_in old before page)) (node_in new after page) old before new after turned_2.alone (record {
        counts = λ b lt. (let e = turned_2.turns.counts b lt in let f = named b in omega (arith, e, f));
        settled = turned_2.turns.settled;
        tail = turned_2.turns.tail;
        pages = turned_2.turns.pages;
      });
      anode = turned_2.anode ∙ (λ i. record { kind = 0; unique = number_at 4 4 (is i); length = 0; owner = []; group = []; lists = λ which k. 0; content = λ k. 0 });
      tidy = λ tidy. bare.tidy;
      trimmed = λ trimmed. trimmed_none (node_in new after page) bare.none;
      renewed = inr (record { alone = turned_2.alone; pointers = λ b lt. inl (let e = names_none (node_in new after page) bare.none b in omega (arith, e)) });
    }

-- what an anode is taken up with, and then changed
pub may_after : (page slot slot_2 : ℕ) (old mid : State) → slot_2 ≡ slot → MayPutAll (with_counts page) old slot → PutsPages are_counts slot old mid → MayPutAll (with_counts page) mid slot_2
may_after page slot slot_2 old mid same may puts = subst (λ (s : ℕ). MayPutAll (with_counts page) mid s) (sym same) (puts.may (with_counts page) (λ p is. counts_in page p is) may)

pub puts_after : (page slot slot_2 : ℕ) (old mid new : State) → slot_2 ≡ slot → PutsPages are_counts slot old mid → PutsPages (with_counts page) slot_2 mid new → PutsPages (with_counts page) slot old new
puts_after page slot slot_2 old mid new same first second = puts_then (with_counts page) slot old mid new (puts_wider are_counts (with_counts page) slot old mid (λ p is. counts_in page p is) first)
    (subst (λ (s : ℕ). PutsPages (with_counts page) s mid new) same second)

pub wrote_own : (named named_2 : ℕ → ℕ) (old mid : State) (first second last : View) → mid.superblock.blocks ≡ old.superblock.blocks → Moves named named_2 old first.image mid second.image → IsQuiet first second
    → WroteLoose named_2 mid second last → WroteLoose named old first last
wrote_own named named_2 old mid first second last blocks moves quiet wrote = wrote_more named named_2 old mid first second last blocks moves (wrote_quiet named old first second quiet) wrote

-- an anode that was taken up with its own pointers alone
pub counted_names : (page : ℕ) (node : Node) (old mid : State) (before middle : List ℕ) → mid ≡ old → middle ≡ before → ((b : ℕ) → names node b ≡ own_names old before (node_in old before page) b)
    → AreCounted (names (node_in old before page)) old before → AreCounted (names node) mid middle
counted_names page node old mid before middle same quiet is counted = subst (λ (s : State). AreCounted (names node) s middle) (sym same) (subst (λ (l : List ℕ). AreCounted (names node) old l) (sym quiet)
    (λ b lt. (let e = is b in let f = counted_own old before (node_in old before page) counted b lt in omega (arith, e, f))))

pub wrote_names : (page : ℕ) (node : Node) (old mid : State) (first second last : View) → mid ≡ old → IsQuiet first second → ((b : ℕ) → names node b ≡ own_names old first.image (node_in old first.image page) b)
    → WroteLoose (names node) mid second last → WroteLoose (own_names old first.image (node_in old first.image page)) old first last
wrote_names page node old mid first second last same quiet is wrote = wrote_own (own_names old first.image (node_in old first.image page)) (names node) old mid first second last (λ i. (same i).superblock.blocks)
    (subst (λ (s : State). Moves (own_names old first.image (node_in old first.image page)) (names node) old first.image s second.image) (sym same)
    (subst (λ (l : List ℕ). Moves (own_names old first.image (node_in old first.image page)) (names node) old first.image old l) (sym quiet.image)
    (record { counts = λ b lt. (let e = is b in omega (arith, e)); settled = λ b lt. refl; tail = λ b spare. refl; pages = λ p lt. refl }))) quiet wrote
