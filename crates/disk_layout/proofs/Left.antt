-- What a crash in a force leaves.
use Rattle.std.proofs.Common.{◌≡◌, ◌<◌, ◌≤◌, ◌⊎◌, ℕ, ◌+◌, List, ◌++◌, length, take, inl, inr, refl, sym, ◌∙◌, subst, arith, Some}
use Rattle.std.specs.Prelude.{◌==◌}
use Rattle.base_types.specs.Image.{byte_at}
use Rattle.base_types.specs.Crash.{After}
use Rattle.base_outside.proofs.Image.{bytes_from-same}
use Rattle.disk_layout.specs.declared.entry.Entry.{Entry}
use Rattle.disk_layout.specs.declared.half.Half.{Half}
use Rattle.disk_layout.specs.declared.superblock.Superblock.{Superblock}
use Rattle.disk_layout.specs.Places.{half_start, entry_start, page_start, in_place, pages_end, pages_of, SameButBlocks, SameFront}
use Rattle.disk_layout.specs.Superblock.{IsSuperblock}
use Rattle.disk_layout.specs.Entry.{StandFrom, AreOpen, HasEntries, SameButEntries, SameButGates}
use Rattle.disk_layout.specs.Half.{used_of, used_half, IsLog, HasLog}
use Rattle.disk_layout.specs.Pages.{recovered, pages_in, firsts, HasWhole, HasFirst, LeftFirst}
use Rattle.disk_layout.proofs.Bytes.{number-same}
use Rattle.disk_layout.proofs.Entries.{stands_still, unseen, first_new, all_new}
use Rattle.disk_layout.proofs.Slots.{same_entries}
use Rattle.disk_layout.proofs.Words.{superblock_same}
use Rattle.disk_layout.proofs.Pages.{whole_recovered, first_recovered, recovered_at}

-- images with the same two headers
pub record SameHeaders (old new : List ℕ) : Type 0 where
  pub zeroth : (k : ℕ) → 512 ≤ k → k < 528 → byte_at new k ≡ byte_at old k
  pub first : (k : ℕ) → 3146752 ≤ k → k < 3146768 → byte_at new k ≡ byte_at old k

pub used_same : (pages : ℕ) (old new : List ℕ) → SameHeaders old new → used_half pages new ≡ used_half pages old
unfolding used_half
used_same pages old new same =
    let gate_0 = same.zeroth 512 (omega arith) (omega arith) in
    let gate_1 = same.first 3146752 (omega arith) (omega arith) in
    let number_0 = number-same 8 520 520 new old (λ j lt. same.zeroth (520 + j) (omega arith) (omega arith)) in
    let number_1 = number-same 8 3146760 3146760 new old (λ j lt. same.first (3146760 + j) (omega arith) (omega arith)) in
    λ j. used_of pages (record { is_open = gate_0 j == 1; generation = number_0 j }) (record { is_open = gate_1 j == 1; generation = number_1 j })

-- a log's entries stand below the pages
pub entries_stay : (half : Half) (held : List Entry) (old new : List ℕ) → half.start ≤ 3146752 → length held ≤ 2048 → ((at : ℕ) → at < 6292992 → byte_at new at ≡ byte_at old at) → HasEntries half held old → HasEntries half held new
entries_stay half held old new place room same has = record {
  stand = λ k lt. stands_still half k old new (λ j from below. same (entry_start half.start k + j) (omega arith)) _ (has.stand k lt);
  opened = λ k lt. same (entry_start half.start k) (omega arith) ∙ has.opened k lt;
  closed = λ i from below is. has.closed i from below (sym (same (entry_start half.start i) (omega arith)) ∙ is);
}

pub start_low : (half : Half) → (half.start ≡ half_start 0) ⊎ (half.start ≡ half_start 1) → half.start ≤ 3146752
start_low half (inl e) = omega arith
start_low half (inr e) = omega arith

pub start_high : (half : Half) → (half.start ≡ half_start 0) ⊎ (half.start ≡ half_start 1) → 512 ≤ half.start
start_high half (inl e) = omega arith
start_high half (inr e) = omega arith

headers_bodies : (half : Half) (n m : ℕ) (old new : List ℕ) → n + m ≤ 2048 → (half.start ≡ half_start 0) ⊎ (half.start ≡ half_start 1)
    → ((k : ℕ) → k < entry_start half.start n → byte_at new k ≡ byte_at old k) → ((k : ℕ) → entry_start half.start (n + m) ≤ k → byte_at new k ≡ byte_at old k) → SameHeaders old new
headers_bodies half n m old new room (inl e) below above = record { zeroth = λ k from up_to. below k (omega arith); first = λ k from up_to. above k (omega arith) }
headers_bodies half n m old new room (inr e) below above = record { zeroth = λ k from up_to. below k (omega arith); first = λ k from up_to. below k (omega arith) }

pub page_same : (pages p : ℕ) (old new : List ℕ) → p < pages → ((k : ℕ) → 6292992 ≤ k → k < pages_end pages → byte_at new k ≡ byte_at old k) → in_place new p ≡ in_place old p
page_same pages p old new lt same = bytes_from-same new old (page_start p) 512 (λ k from below. same k (omega arith) (omega arith))

module _ (half : Half) (held news : List Entry) (image : List ℕ) (room : length held + length news ≤ 2048) (log : IsLog half held image) (whole : HasWhole held news image) where
  low : half.start ≤ 3146752
  low = start_low half log.place

  high : 512 ≤ half.start
  high = start_high half log.place

  log_left : (superblock : Superblock) → half.pages ≡ pages_of superblock.blocks → IsSuperblock superblock image → (c : List ℕ) → SameFront image c → used_half half.pages c ≡ Some half → HasLog superblock half c
  log_left superblock many is c front used = record { front = superblock_same superblock image c front is; used = subst (λ (n : ℕ). used_half n c ≡ Some half) many used }

  -- entries behind the closed gate of the first don't count: the log is in stage 0
  pub behind_one : (superblock : Superblock) → half.pages ≡ pages_of superblock.blocks → IsSuperblock superblock image → (d c : List ℕ) → SameButBlocks half.pages image d
      → SameButEntries half.start (length held) (length news) d c → LeftFirst superblock half.generation held news image d c 0
  unfolding pages_in firsts
  behind_one superblock many is d c settled step =
      let at_d : HasEntries half held d = entries_stay half held image d low (omega arith) (λ at below. settled at (omega arith)) log.entries in
      let headers = headers_bodies half (length held) (length news) d c room log.place step.below step.above in
      let headers_d : SameHeaders image d = record { zeroth = λ k from below. settled k (omega arith); first = λ k from below. settled k (omega arith) } in
      record {
        some_of = omega arith;
        log = record {
          half = half;
          follows = inl refl;
          log = log_left superblock many is c (λ k lt. step.below k (let l = high in omega arith) ∙ settled k (omega arith)) (used_same half.pages d c headers ∙ used_same half.pages image d headers_d ∙ log.used);
          pages = λ p lt.
              let here : in_place c p ≡ in_place image p = page_same half.pages p d c (omega arith) (λ k from below. step.above k (let l = low in omega arith)) ∙ page_same half.pages p image d (omega arith) (λ k from below. settled k below) in
              (λ j. recovered (unseen half held (length news) d c (omega arith) at_d step j) (in_place c) p) ∙ recovered_at held (in_place c) (in_place image) p here ∙ whole_recovered held (in_place image) p whole.forced;
          blocks = λ k from. step.above k (let l = low in omega arith);
        };
        blocks = λ some. absurd (omega arith);
      }

  pub behind_gates : (superblock : Superblock) → half.pages ≡ pages_of superblock.blocks → IsSuperblock superblock image → (may_leave : List ℕ → Type 0) → ((d : List ℕ) → may_leave d → SameButBlocks half.pages image d)
      → (c : List ℕ) → After (SameButEntries half.start (length held) (length news)) may_leave c → HasFirst superblock half.generation held news image may_leave c
  behind_gates superblock many is may_leave settled c changed = (0, changed.0, changed.1, behind_one superblock many is changed.0 c (settled changed.0 changed.1) changed.2)

  -- between two forces a crash leaves none of the transactions that ended since
  pub between : (superblock : Superblock) → half.pages ≡ pages_of superblock.blocks → IsSuperblock superblock image → (c : List ℕ) → SameButBlocks half.pages image c → LeftFirst superblock half.generation held news image c c 0
  between superblock many is c settled = behind_one superblock many is c c settled (same_entries half.start (length held) (length news) c)

  module _ (staged : List ℕ) (step : SameButEntries half.start (length held) (length news) image staged) (stand : StandFrom half (length held) news staged)
      (c : List ℕ) (gates : SameButGates half.start (length held) (length news) staged c) where
    above : (k : ℕ) → 6292992 ≤ k → byte_at c k ≡ byte_at image k
    above k from = let l = low in gates.above k (omega arith) ∙ step.above k (omega arith)

    headers_stay : SameHeaders image c
    headers_stay =
        headers_bodies half (length held) (length news) image c room log.place
        (λ k lt. gates.below k lt ∙ step.below k lt) (λ k le. gates.above k le ∙ step.above k le)

    -- whichever gates are open, the first of the ended transactions are there
    pub at_gates : (superblock : Superblock) → half.pages ≡ pages_of superblock.blocks → IsSuperblock superblock image → (may_leave : List ℕ → Type 0) → may_leave image → HasFirst superblock half.generation held news image may_leave c
    unfolding pages_in
    at_gates superblock many is may_leave reads =
        let some = first_new half held news image room log.entries staged step stand c gates in
        let left = first_recovered held news (λ (q : ℕ). in_place image q) some.0 whole.forced whole.ended in (
          left.0,
          image,
          reads,
          record {
            some_of = left.1;
            log = record {
              half = half;
              follows = inl refl;
              log = log_left superblock many is c (λ k lt. let l = high in gates.below k (omega arith) ∙ step.below k (omega arith)) (used_same half.pages image c headers_stay ∙ log.used);
              pages = λ p lt.
                  let here : in_place c p ≡ in_place image p = page_same half.pages p image c (omega arith) (λ k from below. above k from) in
                  (λ j. recovered (some.2 j) (in_place c) p) ∙ recovered_at (held ++ take some.0 news) (in_place c) (in_place image) p here ∙ left.2 p;
              blocks = λ at from. above at (omega arith);
            };
            blocks = λ some at from. refl;
          },
        )

    -- with all of them open the log has all entries
    pub all_there : AreOpen half (length held) (length news) c → IsLog half (held ++ news) c
    all_there opened = record {
      place = log.place;
      used = used_same half.pages image c headers_stay ∙ log.used;
      entries = all_new half held news image room log.entries staged step stand c gates opened;
    }

    -- and the pages and blocks are the same
    pub rest_same : (at : ℕ) → 6292992 ≤ at → byte_at c at ≡ byte_at image at
    rest_same at from = above at from
