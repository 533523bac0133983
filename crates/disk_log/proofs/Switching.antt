-- What each step to the other half leaves of a log.
use Rattle.std.proofs.Common.{◌≡◌, ◌≢◌, ◌<◌, ◌≤◌, ◌⊎◌, ℕ, ◌+◌, List, [], inl, inr, ⊎_elim, refl, sym, ◌∙◌, ap, arith}
use Rattle.std.specs.Prelude.{Bool, true, false, ◌==◌}
use Rattle.std.proofs.lemmas.Bool.Decides.{nat_tests}
use Rattle.base_types.specs.Image.{byte_at, Torn}
use Rattle.base_outside.proofs.Image.{bytes_from-same}
use Rattle.disk_layout.specs.declared.half.Half.{Half}
use Rattle.disk_layout.specs.declared.superblock.Superblock.{Superblock}
use Rattle.disk_layout.specs.Numbers.{number_at}
use Rattle.disk_layout.specs.Places.{entry_start, page_start, in_place, SameBlocks}
use Rattle.disk_layout.specs.Entry.{gate_at, entries, SameButGates}
use Rattle.disk_layout.specs.Half.{IsAhead, AreSides, IsLog}
use Rattle.disk_layout.specs.Pages.{pages_in, HasPages, IsBeside}
use Rattle.disk_layout.proofs.Bytes.{number-same}
use Rattle.disk_layout.proofs.Words.{superblock_same}
use Rattle.disk_layout.proofs.Switch.{ahead_used, ahead_pages, switched_pages}
use Rattle.disk_log.specs.Switch.{ClosesGates, IsReady, SameOutside, half_after}

pub then_outside : (start : ℕ) (a b c : List ℕ) → SameOutside start a b → SameOutside start b c → SameOutside start a c
then_outside start a b c one two at out = two at out ∙ one at out

pub torn_outside : (start at n : ℕ) (a b : List ℕ) → start ≤ at → at + n ≤ start + 3146240 → Torn at n a b → SameOutside start a b
torn_outside start at n a b from up_to torn k (inl lt) = torn.before k (omega arith)
torn_outside start at n a b from up_to torn k (inr le) = torn.after k (omega arith)

pub gates_outside : (start : ℕ) (a b : List ℕ) → SameButGates start 0 2048 a b → SameOutside start a b
gates_outside start a b same k (inl lt) = same.below k (omega arith)
gates_outside start a b same k (inr le) = same.above k (omega arith)

-- the gates of a half's entries are not its header
pub gates_ahead : (half : Half) (other : ℕ) (a b : List ℕ) → AreSides half.start other → SameButGates other 0 2048 a b → IsAhead half other a → IsAhead half other b
gates_ahead half other a b sides same ahead =
    let out = gates_outside other a b same in
    record {
      gate = (let e : half.start ≡ half.start + 0 = omega arith in ap (byte_at b) e) ∙ out (half.start + 0) (apart sides 0 (omega arith)) ∙ (let e : half.start + 0 ≡ half.start = omega arith in ap (byte_at a) e) ∙ ahead.gate;
      generation = number-same 8 (half.start + 8) (half.start + 8) b a (λ j lt. (let e : half.start + 8 + j ≡ half.start + (8 + j) = omega arith in ap (byte_at b) e) ∙ out (half.start + (8 + j)) (apart sides (8 + j) (omega arith)) ∙ (let e : half.start + (8 + j) ≡ half.start + 8 + j = omega arith in ap (byte_at a) e)) ∙ ahead.generation;
      ahead = ⊎_elim (λ shut. inl (λ is. shut (sym (same.below other (omega arith)) ∙ is)))
          (λ lower. inr (let e = number-same 8 (other + 8) (other + 8) b a (λ j lt. same.below (other + 8 + j) (omega arith)) in omega (arith, e, lower))) ahead.ahead;
    }
  where
    apart : AreSides half.start other → (k : ℕ) → k < 3146240 → (half.start + k < other) ⊎ (other + 3146240 ≤ half.start + k)
    apart (inl e) k lt = let f = e.0 in let g = e.1 in inl (omega arith)
    apart (inr e) k lt = let f = e.0 in let g = e.1 in inr (omega arith)

-- nor is the generation a gate
pub still_closed : (other : ℕ) (a b : List ℕ) → ClosesGates other 0 2048 a → Torn (other + 8) 8 a b → ClosesGates other 0 2048 b
still_closed other a b shut torn i from below is = shut i from below (sym (torn.after (entry_start other i) (omega arith)) ∙ is)

module _ (superblock : Superblock) (half : Half) (other : ℕ) (old : List ℕ) (sides : AreSides half.start other) (ready : IsReady superblock half other old) where
  low : (at : ℕ) → at < 512 → (at < other) ⊎ (other + 3146240 ≤ at)
  low at lt = ⊎_elim (λ e. inl (let f = e.1 in omega arith)) (λ e. inl (let f = e.1 in omega arith)) sides

  high : (at : ℕ) → 6292992 ≤ at → (at < other) ⊎ (other + 3146240 ≤ at)
  high at le = ⊎_elim (λ e. inr (let f = e.1 in omega arith)) (λ e. inr (let f = e.1 in omega arith)) sides

  mine : (at : ℕ) → half.start ≤ at → at < half.start + 3146240 → (at < other) ⊎ (other + 3146240 ≤ at)
  mine at from below = ⊎_elim (λ e. inl (let f = e.0 in let g = e.1 in omega arith)) (λ e. inr (let f = e.0 in let g = e.1 in omega arith)) sides

  beside : (c : List ℕ) → SameOutside other old c → IsBeside half (entries half old) old c
  beside c same = record {
    front = λ at lt. same at (low at lt);
    entries = λ at from below. same at (mine at (omega arith) (omega arith));
    pages = λ p lt out. bytes_from-same c old (page_start p) 512 (λ k from below. same k (high k (omega arith)));
    blocks = λ at from. same at (high at (omega arith));
  }

  -- while the half is ahead its log is the disk's
  pub on_the_way : (c : List ℕ) → SameOutside other old c → IsAhead half other c → HasPages superblock half.generation (pages_in half old) old c
  on_the_way c same ahead = ahead_pages superblock half other old c ready.many ready.front sides ahead (beside c same)

  swapped : AreSides other half.start
  swapped = ⊎_elim (λ e. inr (e.1, e.0)) (λ e. inl (e.1, e.0)) sides

  -- the other half is open, and its gates are closed
  module _ (closed : List ℕ) (outside : SameOutside other old closed) (ahead : IsAhead half other closed) (shut : ClosesGates other 0 2048 closed)
      (written : number_at 8 (other + 8) closed ≡ half.generation + 1) (c : List ℕ) (torn : Torn other 1 closed c) where
    out : SameOutside other old c
    out = then_outside other old closed c outside (torn_outside other other 1 closed c (omega arith) (omega arith) torn)

    own : (k : ℕ) → k < 3146240 → byte_at c (half.start + k) ≡ byte_at closed (half.start + k)
    own k lt = torn_outside other other 1 closed c (omega arith) (omega arith) torn (half.start + k) (mine (half.start + k) (omega arith) (omega arith))

    own_number : number_at 8 (half.start + 8) c ≡ half.generation
    own_number = number-same 8 (half.start + 8) (half.start + 8) c closed (λ j lt. (let e : half.start + 8 + j ≡ half.start + (8 + j) = omega arith in ap (byte_at c) e) ∙ own (8 + j) (omega arith) ∙ (let e : half.start + (8 + j) ≡ half.start + 8 + j = omega arith in ap (byte_at closed) e)) ∙ ahead.generation

    open_ahead : byte_at c other ≡ 1 → IsAhead (half_after half other) half.start c
    open_ahead is = record {
      gate = is;
      generation = number-same 8 (other + 8) (other + 8) c closed (λ j lt. torn.after (other + 8 + j) (omega arith)) ∙ written;
      ahead = inr (let e = own_number in omega arith);
    }

    gates_shut : (i : ℕ) → i < 2048 → gate_at other c i ≢ 1
    gates_shut i lt is = shut i (omega arith) (omega arith) (sym (torn.after (entry_start other i) (omega arith)) ∙ is)

    pub opened_log : byte_at c other ≡ 1 → IsLog (half_after half other) [] c
    opened_log is = record {
      place = ⊎_elim (λ e. inr e.1) (λ e. inl e.1) sides;
      used = ahead_used (half_after half other) half.start c swapped (open_ahead is);
      entries = record { stand = λ k lt. absurd (omega arith); opened = λ k lt. absurd (omega arith); closed = λ i from below. gates_shut i below };
    }

    opened_pages : byte_at c other ≡ 1 → HasPages superblock half.generation (pages_in half old) old c
    opened_pages is =
        let there = switched_pages superblock (half_after half other) half.start half.generation c (inr refl) ready.many (superblock_same superblock old c (λ at lt. out at (low at lt)) ready.front) swapped (open_ahead is) gates_shut in
        record {
          half = there.half;
          log = there.log;
          follows = there.follows;
          pages = λ p lt. there.pages p lt ∙ bytes_from-same c old (page_start p) 512 (λ k from below. out k (high k (omega arith))) ∙ sym (ready.placed p (let e = ready.many in omega arith));
          blocks = λ at from. out at (high at (omega arith));
        }

    closed_ahead : byte_at c other ≢ 1 → IsAhead half other c
    closed_ahead not_open = record {
      gate = (let e : half.start ≡ half.start + 0 = omega arith in ap (byte_at c) e) ∙ own 0 (omega arith) ∙ (let e : half.start + 0 ≡ half.start = omega arith in ap (byte_at closed) e) ∙ ahead.gate;
      generation = own_number;
      ahead = inl not_open;
    }

    pub at_opening : HasPages superblock half.generation (pages_in half old) old c
    at_opening = by (byte_at c other == 1) refl
      where
        by : (b : Bool) → (byte_at c other == 1) ≡ b → HasPages superblock half.generation (pages_in half old) old c
        by true is = opened_pages (grind (arith, nat_tests, is))
        by false is = on_the_way c out (closed_ahead (λ e. absurd (grind (arith, nat_tests, is, e))))

outside_high : (half : Half) (other at : ℕ) → AreSides half.start other → 6292992 ≤ at → (at < other) ⊎ (other + 3146240 ≤ at)
outside_high half other at (inl e) le = inr (let f = e.1 in omega arith)
outside_high half other at (inr e) le = inr (let f = e.1 in omega arith)

-- the pages and blocks stand behind both halves
pub place_outside : (half : Half) (other : ℕ) (a b : List ℕ) → AreSides half.start other → SameOutside other a b → (p : ℕ) → in_place b p ≡ in_place a p
place_outside half other a b sides same p = bytes_from-same b a (page_start p) 512 (λ k from below. same k (outside_high half other k sides (omega arith)))

pub blocks_outside : (half : Half) (other : ℕ) (a b : List ℕ) (pages : ℕ) → AreSides half.start other → SameOutside other a b → SameBlocks pages a b
blocks_outside half other a b pages sides same at le = same at (outside_high half other at sides (omega arith))
