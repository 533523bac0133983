-- Blocks of an anode's bytes that were laid anew.
use Rattle.std.proofs.Common.{◌≡◌, ◌≢◌, ◌<◌, ◌≤◌, ◌⊎◌, ℕ, ◌+◌, ◌-◌, ◌*◌, ◌/◌, ◌%◌, List, length, get_or, refl, sym, ◌∙◌, ap, subst, inl, inr, arith}
use Rattle.std.specs.Prelude.{Bool, true, false, ◌==◌, ◌&&◌, nat_lt, nat_le, if◌then◌else◌}
use Rattle.std.proofs.lemmas.Bool.Decides.{nat_tests}
use Rattle.std.proofs.lemmas.Bool.{cases_eq}
use Rattle.disk_log.specs.State.{State}
use Rattle.disk_anode.specs.Node.{pointer_of, pointer_at, cell, names}
use Rattle.disk_anode.specs.Anode.{content_at, over}
use Rattle.disk_anode.specs.Changes.{IsSpare, Moves, AreCounted, Renews, Replaced, Laid}
use Rattle.disk_anode.specs.declared.node.Node.{Node}
use Rattle.disk_anode.proofs.Renewing.{renews_on}

-- a byte under a piece
pub over_inside : (from : ℕ) (piece : List ℕ) (content : ℕ → ℕ) (k : ℕ) → from ≤ k → k < from + length piece → over from piece content k ≡ get_or piece (k - from) 0
over_inside from piece content k low high =
    let a : nat_le from k ≡ true = grind (arith, nat_tests) in
    let b : nat_lt k (from + length piece) ≡ true = grind (arith, nat_tests) in
    λ i. if a i && b i then get_or piece (k - from) 0 else content k

pub over_outside : (from : ℕ) (piece : List ℕ) (content : ℕ → ℕ) (k : ℕ) → (k < from) ⊎ (from + length piece ≤ k) → over from piece content k ≡ content k
over_outside from piece content k (inl low) =
    let a : nat_le from k ≡ false = grind (arith, nat_tests) in
    λ i. if a i && nat_lt k (from + length piece) then get_or piece (k - from) 0 else content k
over_outside from piece content k (inr high) = by (nat_le from k)
  where
    by : (low : Bool) → (if low && nat_lt k (from + length piece) then get_or piece (k - from) 0 else content k) ≡ content k
    by true = let b : nat_lt k (from + length piece) ≡ false = grind (arith, nat_tests) in λ i. if b i then get_or piece (k - from) 0 else content k
    by false = refl

-- a block with a piece laid over it
pub part_over : (at from k : ℕ) (piece read new : List ℕ) (content : ℕ → ℕ) → k < 1024 → get_or read k 0 ≡ content (at + k)
    → ((j : ℕ) → j < 1024 → from ≤ at + j → at + j < from + length piece → get_or new j 0 ≡ get_or piece (at + j - from) 0)
    → ((j : ℕ) → j < 1024 → (at + j < from) ⊎ (from + length piece ≤ at + j) → get_or new j 0 ≡ get_or read j 0)
    → get_or new k 0 ≡ over from piece content (at + k)
part_over at from k piece read new content lt is inside outside = by (nat_le from (at + k)) refl (nat_lt (at + k) (from + length piece)) refl
  where
    by : (low : Bool) → nat_le from (at + k) ≡ low → (high : Bool) → nat_lt (at + k) (from + length piece) ≡ high → get_or new k 0 ≡ over from piece content (at + k)
    by true a true b =
        let low : from ≤ at + k = grind (arith, nat_tests) in let high : at + k < from + length piece = grind (arith, nat_tests) in
        inside k lt low high ∙ sym (over_inside from piece content (at + k) low high)
    by true a false b = let high : from + length piece ≤ at + k = grind (arith, nat_tests) in outside k lt (inr high) ∙ is ∙ sym (over_outside from piece content (at + k) (inr high))
    by false a high b = let low : at + k < from = grind (arith, nat_tests) in outside k lt (inl low) ∙ is ∙ sym (over_outside from piece content (at + k) (inl low))

-- content before and past a length
pub content_low : (image : List ℕ) (node : Node) (n i k : ℕ) → k < 1024 → 1024 * i + k < n → content_at image node n (1024 * i + k) ≡ cell image node (pointer_at i) k
content_low image node n i k lt low =
    let e : nat_lt (1024 * i + k) n ≡ true = grind (arith, nat_tests) in
    let a : (1024 * i + k) / 1024 ≡ i = omega arith in
    let b : (1024 * i + k) % 1024 ≡ k = omega arith in
    λ j. if e j then cell image node (pointer_at (a j)) (b j) else 0

pub content_high : (image : List ℕ) (node : Node) (n k : ℕ) → n ≤ k → content_at image node n k ≡ 0
content_high image node n k high = let e : nat_lt k n ≡ false = grind (arith, nat_tests) in λ j. if e j then cell image node (pointer_at (k / 1024)) (k % 1024) else 0

-- replaced with the same bytes
pub replaced_as : (w : ℕ) (bytes other : ℕ → ℕ) (node : Node) (old : State) (before : List ℕ) (changed : Node) (new : State) (after : List ℕ) → ((k : ℕ) → k < 1024 → bytes k ≡ other k)
    → Replaced w bytes node old before changed new after → Replaced w other node old before changed new after
replaced_as w bytes other node old before changed new after same replaced = record {
  moves = replaced.moves;
  renews = replaced.renews;
  cells = λ v k below low. replaced.cells v k below low ∙ (λ i. if v == w then same k low i else cell before node v k);
}

-- a block that no byte of the piece is in, before the end: it stays
pub stays : (i kept from : ℕ) (piece : List ℕ) (node : Node) (state : State) (image : List ℕ) → ((k : ℕ) → k < 1024 → over from piece (λ m. content_at image node kept m) (1024 * i + k) ≡ cell image node (pointer_at i) k)
    → Replaced (pointer_at i) (λ k. over from piece (λ m. content_at image node kept m) (1024 * i + k)) node state image node state image
stays i kept from piece node state image same = record {
  moves = record { counts = λ b lt. refl; settled = λ b lt. refl; tail = λ b spare. refl; pages = λ p lt. refl };
  renews = λ b. inl (omega arith);
  cells = λ v k below low. by v k low (v == pointer_at i) refl;
}
  where
    by : (v k : ℕ) → k < 1024 → (mine : Bool) → (v == pointer_at i) ≡ mine → cell image node v k ≡ (if mine then over from piece (λ m. content_at image node kept m) (1024 * i + k) else cell image node v k)
    by v k low true e = let f : v ≡ pointer_at i = grind (arith, nat_tests) in ap (λ (x : ℕ). cell image node x k) f ∙ sym (same k low)
    by v k low false e = refl

-- a pointer of a block is neither one of a list nor that of the indirect block, and no other block's
pub pointer_in : (i : ℕ) → i < 64 → (3 ≤ pointer_at i) × (pointer_at i < 68) × (pointer_at i ≢ 15)
pointer_in i lt = by (nat_lt i 12) refl
  where
    by : (front : Bool) → nat_lt i 12 ≡ front → (3 ≤ (if front then i + 3 else i + 4)) × ((if front then i + 3 else i + 4) < 68) × ((if front then i + 3 else i + 4) ≢ 15)
    by true e = let low : i < 12 = grind (arith, nat_tests) in (omega arith, omega arith, omega arith)
    by false e = let high : 12 ≤ i = grind (arith, nat_tests) in (omega arith, omega arith, omega arith)

pub pointer_apart : (i j : ℕ) → i ≢ j → pointer_at i ≢ pointer_at j
pointer_apart i j apart = by (nat_lt i 12) refl (nat_lt j 12) refl
  where
    by : (a : Bool) → nat_lt i 12 ≡ a → (b : Bool) → nat_lt j 12 ≡ b → (if a then i + 3 else i + 4) ≢ (if b then j + 3 else j + 4)
    by true e true f = omega arith
    by true e false f = let low : i < 12 = grind (arith, nat_tests) in let high : 12 ≤ j = grind (arith, nat_tests) in omega arith
    by false e true f = let low : j < 12 = grind (arith, nat_tests) in let high : 12 ≤ i = grind (arith, nat_tests) in omega arith
    by false e false f = omega arith

-- Blocks below one are laid, and the other pointers have their bytes.
pub record LaidBelow (i kept from : ℕ) (piece : List ℕ) (node : Node) (old : State) (before : List ℕ) (changed : Node) (new : State) (after : List ℕ) : Type 0 where
  pub moves : Moves (names node) (names changed) old before new after
  pub renews : Renews (names node) (names changed) old before
  pub done : (j k : ℕ) → j < i → k < 1024 → cell after changed (pointer_at j) k ≡ over from piece (λ m. content_at before node kept m) (1024 * j + k)
  pub left : (v k : ℕ) → v < 68 → k < 1024 → ((j : ℕ) → j < i → v ≢ pointer_at j) → cell after changed v k ≡ cell before node v k
  pub past : (j : ℕ) → j < i → kept ≤ 1024 * j → from + length piece ≤ 1024 * j → pointer_of changed (pointer_at j) ≡ 0
  pub same : (j : ℕ) → j < i → 1024 * j + 1024 ≤ kept → from + length piece ≤ 1024 * j → pointer_of changed (pointer_at j) ≡ pointer_of node (pointer_at j)
  pub rest : (v : ℕ) → v < 68 → ((j : ℕ) → j < i → v ≢ pointer_at j) → pointer_of changed v ≡ pointer_of node v

pub laid_none : (kept from : ℕ) (piece : List ℕ) (node : Node) (old : State) (before : List ℕ) → LaidBelow 0 kept from piece node old before node old before
laid_none kept from piece node old before = record {
  moves = record { counts = λ b lt. refl; settled = λ b lt. refl; tail = λ b spare. refl; pages = λ p lt. refl };
  renews = λ b. inl (omega arith);
  done = λ j k none low. absurd (omega arith);
  left = λ v k below low apart. refl;
  past = λ j none le high. absurd (omega arith);
  same = λ j none le high. absurd (omega arith);
  rest = λ v below apart. refl;
}

pub moves_on : (named named_2 named_3 : ℕ → ℕ) (old mid new : State) (first second last : List ℕ) → mid.superblock.blocks ≡ old.superblock.blocks → Moves named named_2 old first mid second → Moves named_2 named_3 mid second new last → Moves named named_3 old first new last
moves_on named named_2 named_3 old mid new first second last blocks one two = record {
  counts = λ b lt. (let e = one.counts b lt in let f = two.counts b (omega (arith, blocks)) in omega (arith, e, f));
  settled = λ b lt. two.settled b (omega (arith, blocks)) ∙ one.settled b lt;
  tail = λ b spare. two.tail b (subst (λ (m : ℕ). IsSpare m b) (sym blocks) spare) ∙ one.tail b spare;
  pages = λ p lt. two.pages p lt ∙ one.pages p lt;
}

pub still_counted : (named named_2 : ℕ → ℕ) (old new : State) (before after : List ℕ) → new.superblock.blocks ≡ old.superblock.blocks → Moves named named_2 old before new after → AreCounted named old before → AreCounted named_2 new after
still_counted named named_2 old new before after blocks moves counted b lt = let e = moves.counts b (omega (arith, blocks, lt)) in let f = counted b (omega (arith, blocks, lt)) in omega (arith, e, f)

pub laid_more : (i kept from : ℕ) (piece : List ℕ) (node : Node) (old : State) (before : List ℕ) (changed : Node) (mid : State) (middle : List ℕ) (last : Node) (new : State) (after : List ℕ) → i < 64
    → mid.superblock.blocks ≡ old.superblock.blocks → LaidBelow i kept from piece node old before changed mid middle
    → Replaced (pointer_at i) (λ k. over from piece (λ m. content_at middle changed kept m) (1024 * i + k)) changed mid middle last new after
    → ((v : ℕ) → v < 68 → v ≢ pointer_at i → pointer_of last v ≡ pointer_of changed v)
    → (kept ≤ 1024 * i → from + length piece ≤ 1024 * i → pointer_of last (pointer_at i) ≡ 0)
    → (1024 * i + 1024 ≤ kept → from + length piece ≤ 1024 * i → pointer_of last (pointer_at i) ≡ pointer_of changed (pointer_at i))
    → LaidBelow (i + 1) kept from piece node old before last new after
laid_more i kept from piece node old before changed mid middle last new after lt blocks laid replaced others zero stay = record {
  moves = moves_on (names node) (names changed) (names last) old mid new before middle after blocks laid.moves replaced.moves;
  renews = renews_on (names node) (names changed) (names last) old mid before middle blocks laid.moves.counts laid.renews replaced.renews;
  done = λ j k below low. by j k low below (cases_eq j i);
  left = λ v k below low apart. other v k below low (apart i (omega arith)) ∙ laid.left v k below low (λ j lower. apart j (omega arith));
  past = λ j below le high. gone j below le high (cases_eq j i);
  same = λ j below le high. stays_as j below le high (cases_eq j i);
  rest = λ v below apart. others v below (apart i (omega arith)) ∙ laid.rest v below (λ j lower. apart j (omega arith));
}
  where
    gone : (j : ℕ) → j < i + 1 → kept ≤ 1024 * j → from + length piece ≤ 1024 * j → (j ≡ i) ⊎ (j ≢ i) → pointer_of last (pointer_at j) ≡ 0
    gone j below le high (inr apart) = others (pointer_at j) (pointer_in j (omega arith)).1 (pointer_apart j i apart) ∙ laid.past j (omega arith) le high
    gone j below le high (inl is) = ap (λ (x : ℕ). pointer_of last (pointer_at x)) is ∙ zero (omega arith) (omega arith)

    stays_as : (j : ℕ) → j < i + 1 → 1024 * j + 1024 ≤ kept → from + length piece ≤ 1024 * j → (j ≡ i) ⊎ (j ≢ i) → pointer_of last (pointer_at j) ≡ pointer_of node (pointer_at j)
    stays_as j below le high (inr apart) = others (pointer_at j) (pointer_in j (omega arith)).1 (pointer_apart j i apart) ∙ laid.same j (omega arith) le high
    stays_as j below le high (inl is) =
        ap (λ (x : ℕ). pointer_of last (pointer_at x)) is ∙ stay (omega arith) (omega arith) ∙ laid.rest (pointer_at i) (pointer_in i lt).1 (λ m lower. pointer_apart i m (omega arith)) ∙ ap (λ (x : ℕ). pointer_of node (pointer_at x)) (sym is)

    other : (v k : ℕ) → v < 68 → k < 1024 → v ≢ pointer_at i → cell after last v k ≡ cell middle changed v k
    other v k below low apart = (let e : (v == pointer_at i) ≡ false = grind (arith, nat_tests) in
        replaced.cells v k below low ∙ (λ j. if e j then over from piece (λ m. content_at middle changed kept m) (1024 * i + k) else cell middle changed v k))

    same : (k : ℕ) → k < 1024 → content_at middle changed kept (1024 * i + k) ≡ content_at before node kept (1024 * i + k)
    same k low = (let a : (1024 * i + k) / 1024 ≡ i = omega arith in let b : (1024 * i + k) % 1024 ≡ k = omega arith in
        let e = (λ j. cell middle changed (pointer_at (a j)) (b j)) ∙ laid.left (pointer_at i) k (pointer_in i lt).1 low (λ j lower. pointer_apart i j (omega arith)) ∙ (λ j. cell before node (pointer_at (sym a j)) (sym b j)) in
        λ j. if nat_lt (1024 * i + k) kept then e j else 0)

    by : (j k : ℕ) → k < 1024 → j < i + 1 → (j ≡ i) ⊎ (j ≢ i) → cell after last (pointer_at j) k ≡ over from piece (λ m. content_at before node kept m) (1024 * j + k)
    by j k low below (inr apart) = other (pointer_at j) k (pointer_in j (omega arith)).1 low (pointer_apart j i apart) ∙ laid.done j k (omega arith) low
    by j k low below (inl is) = subst (λ (x : ℕ). cell after last (pointer_at x) k ≡ over from piece (λ m. content_at before node kept m) (1024 * x + k)) (sym is) (here k low)
      where
        here : (m : ℕ) → m < 1024 → cell after last (pointer_at i) m ≡ over from piece (λ x. content_at before node kept x) (1024 * i + m)
        here m lower = (let e : (pointer_at i == pointer_at i) ≡ true = grind (arith, nat_tests) in
            replaced.cells (pointer_at i) m (pointer_in i lt).1 lower ∙ (λ j. if e j then over from piece (λ x. content_at middle changed kept x) (1024 * i + m) else cell middle changed (pointer_at i) m)
            ∙ (λ j. if nat_le from (1024 * i + m) && nat_lt (1024 * i + m) (from + length piece) then get_or piece (1024 * i + m - from) 0 else same m lower j))

pub laid_all : (kept from : ℕ) (piece : List ℕ) (node : Node) (old : State) (before : List ℕ) (changed : Node) (new : State) (after : List ℕ) → LaidBelow 64 kept from piece node old before changed new after → Laid kept from piece node old before changed new after
laid_all kept from piece node old before changed new after laid = record {
  moves = laid.moves;
  renews = laid.renews;
  cells = λ i k lt low. laid.done i k lt low;
  lists = λ v k below low. laid.left v k (omega arith) low (λ j lt. (let e = pointer_in j lt in let f = e.0 in λ is. absurd (omega (arith, f, is))));
  own = λ v below. laid.rest v (omega arith) (λ j lt. (let e = pointer_in j lt in let f = e.0 in λ is. absurd (omega (arith, f, is))));
  past = laid.past;
  same = λ i lt le high. laid.same i lt le high;
}
