-- The entries of a half as they are written.
use Rattle.std.proofs.Common.{◌≡◌, ◌≢◌, ◌<◌, ◌≤◌, ◌⊎◌, ℕ, suc, ◌+◌, ◌-◌, List, [], ◌∷◌, ◌++◌, length, take, drop, inl, inr, refl, sym, ◌∙◌, ap, subst, arith, get_or, length-append, Some, None}
use Rattle.std.specs.Prelude.{Bool, true, false, ◌==◌}
use Rattle.std.proofs.lemmas.Bool.{cases_lt}
use Rattle.std.proofs.lemmas.Bool.Decides.{nat_tests}
use Rattle.std.proofs.lemmas.List.{append-nil, get_or_append_left, get_or-append-add}
use Rattle.base_types.specs.Image.{Holds, byte_at, bytes_from}
use Rattle.base_outside.proofs.Image.{bytes_from-same}
use Rattle.disk_layout.specs.declared.entry.Entry.{Entry}
use Rattle.disk_layout.specs.declared.entry.Entry.TheVariants.{End}
use Rattle.disk_layout.specs.declared.half.Half.{Half}
use Rattle.disk_layout.specs.Places.{entry_start}
use Rattle.disk_layout.specs.Until.{until_none}
use Rattle.disk_layout.specs.Entry.{entry_of, entry_at, entries, gate_at, Spells, Fits, Stands, StandFrom, AreOpen, HasEntries, SameButBodies, SameButEntries, SameButGates}
use Rattle.disk_layout.proofs.Until.{until_none-none, until_none-known, until_none-some, until_none-same}
use Rattle.disk_layout.proofs.Words.{closed_of, spelled_entry}

-- the first byte and those behind it
bytes_from-cons : (image : List ℕ) (at n m : ℕ) → m ≡ suc n → bytes_from image at m ≡ byte_at image at ∷ bytes_from image (at + 1) n
unfolding bytes_from
bytes_from-cons image at n m is = let e : suc at ≡ at + 1 = omega arith in λ j. (ap (bytes_from image at) is ∙ ap (λ (p : ℕ). byte_at image at ∷ bytes_from image p n) e) j

-- an entry's body is all of its bytes behind the gate
abbrev pub SameBody : ℕ → ℕ → List ℕ → List ℕ → Type 0
SameBody start i old new = (j : ℕ) → 1 ≤ j → j < 1536 → byte_at new (entry_start start i + j) ≡ byte_at old (entry_start start i + j)

body_same : (start i : ℕ) (old new : List ℕ) → SameBody start i old new → bytes_from new (entry_start start i + 1) 1535 ≡ bytes_from old (entry_start start i + 1) 1535
body_same start i old new same =
    let at = entry_start start i in
    bytes_from-same new old (at + 1) 1535 (λ k le lt. let e : k ≡ at + (k - at) = omega arith in ap (byte_at new) e ∙ same (k - at) (omega arith) (omega arith) ∙ ap (byte_at old) (sym e))

pub stands_still : (half : Half) (i : ℕ) (old new : List ℕ) → SameBody half.start i old new → (entry : Entry) → Stands half entry old i → Stands half entry new i
stands_still half i old new same entry stands = ap (λ (body : List ℕ). entry_of half (1 ∷ body)) (body_same half.start i old new same) ∙ stands

-- an entry that stands behind an open gate counts, and one behind a closed gate doesn't
entry_open : (half : Half) (image : List ℕ) (i : ℕ) (entry : Entry) → gate_at half.start image i ≡ 1 → Stands half entry image i → entry_at half image i ≡ Some entry
unfolding entry_at
entry_open half image i entry is stands =
    let at = entry_start half.start i in
    ap (entry_of half) (bytes_from-cons image at 1535 1536 refl) ∙ ap (λ (gate : ℕ). entry_of half (gate ∷ bytes_from image (at + 1) 1535)) is ∙ stands

entry_closed : (half : Half) (image : List ℕ) (i : ℕ) → gate_at half.start image i ≢ 1 → entry_at half image i ≡ None
unfolding entry_at
entry_closed half image i shut =
    let at = entry_start half.start i in
    ap (entry_of half) (bytes_from-cons image at 1535 1536 refl) ∙ closed_of half (byte_at image at ∷ bytes_from image (at + 1) 1535) shut

-- the bytes of an entry that are written behind its gate
pub stands_written : (half : Half) (entry : Entry) (bytes image : List ℕ) (i : ℕ) → Fits half entry → Spells entry half.generation bytes → 0 < length bytes
    → bytes_from image (entry_start half.start i + 1) 1535 ≡ drop 1 bytes → Stands half entry image i
stands_written half entry [] image i fits spells size is = absurd (omega arith)
stands_written half entry (gate ∷ body) image i fits spells size is =
    ap (λ (rest : List ℕ). entry_of half (1 ∷ rest)) is ∙ ap (λ (first : ℕ). entry_of half (first ∷ body)) (sym spells.gate) ∙ spelled_entry half entry (gate ∷ body) fits spells

one_same : (half : Half) (old new : List ℕ) → ((at : ℕ) → entry_start half.start 0 ≤ at → at < entry_start half.start 2048 → byte_at new at ≡ byte_at old at)
    → (k : ℕ) → k < 2048 → entry_at half new k ≡ entry_at half old k
unfolding entry_at
one_same half old new same k lt = ap (entry_of half) (bytes_from-same new old (entry_start half.start k) 1536 (λ at from below. same at (omega arith) (omega arith)))

-- halves with the same bytes have the same entries
pub entries_same : (half : Half) (old new : List ℕ) → ((at : ℕ) → entry_start half.start 0 ≤ at → at < entry_start half.start 2048 → byte_at new at ≡ byte_at old at) → entries half new ≡ entries half old
unfolding entries
entries_same half old new same = until_none-same (entry_at half new) (entry_at half old) 0 2048 (λ k from below. one_same half old new same k (omega arith))

-- the entries in a half are what is held
pub held_entries : (half : Half) (held : List Entry) (image : List ℕ) → length held ≤ 2048 → HasEntries half held image → entries half image ≡ held
unfolding entries
held_entries half held image le has =
    let n = length held in
    until_none-known (entry_at half image) held (End 0) 0 (2048 - n) 2048 (omega arith) (λ k lt. let e : 0 + k ≡ k = omega arith in ap (entry_at half image) e ∙ entry_open half image k _ (has.opened k lt) (has.stand k lt))
    ∙ ap (λ (rest : List Entry). held ++ rest) (until_none-none (entry_at half image) (0 + n) (2048 - n) (λ some. let e : 0 + n ≡ n = omega arith in ap (entry_at half image) e ∙ entry_closed half image n (has.closed n (omega arith) (omega arith))))
    ∙ append-nil held

-- a write to entries leaves those before them
pub stands_below : (half : Half) (slot n : ℕ) (old new : List ℕ) → SameButBodies half.start slot n old new → (i : ℕ) (entry : Entry) → i < slot → Stands half entry old i → Stands half entry new i
stands_below half slot n old new step i entry lt stands = stands_still half i old new (λ j from below. step.below (entry_start half.start i + j) (omega arith)) entry stands

-- and so do bytes that are the same up to its end
pub stands_under : (half : Half) (i : ℕ) (old new : List ℕ) → ((k : ℕ) → k < entry_start half.start (i + 1) → byte_at new k ≡ byte_at old k) → (entry : Entry) → Stands half entry old i → Stands half entry new i
stands_under half i old new same entry stands = stands_still half i old new (λ j from below. same (entry_start half.start i + j) (omega arith)) entry stands

-- an entry that was written whole
pub stands_whole : (half : Half) (entry : Entry) (bytes image : List ℕ) (i : ℕ) → Fits half entry → Spells entry half.generation bytes → length bytes ≡ 1536
    → Holds (entry_start half.start i) bytes image → Stands half entry image i × (gate_at half.start image i ≡ 1)
stands_whole half entry [] image i fits spells size holds = absurd (omega (arith, size))
stands_whole half entry (gate ∷ body) image i fits spells size holds =
    let at = entry_start half.start i in
    let all : bytes_from image at 1536 ≡ gate ∷ body = ap (bytes_from image at) (sym size) ∙ holds.inside in
    let split : byte_at image at ∷ bytes_from image (at + 1) 1535 ≡ gate ∷ body = sym (bytes_from-cons image at 1535 1536 refl) ∙ all in
    let head : byte_at image at ≡ gate = cc in
    let rest : bytes_from image (at + 1) 1535 ≡ body = cc in
    (stands_written half entry (gate ∷ body) image i fits spells (omega (arith, size)) rest, head ∙ spells.gate)

-- entries that stand one part behind the other
pub stand_append : (half : Half) (first : ℕ) (a b : List Entry) (image : List ℕ) → StandFrom half first a image → StandFrom half (first + length a) b image → StandFrom half first (a ++ b) image
stand_append half first a b image one two k lt = let size = length-append a b in by (let e : k < length a + length b = omega (arith, lt, size) in e) (cases_lt k (length a))
  where
    by : k < length a + length b → (k < length a) ⊎ (length a ≤ k) → Stands half (get_or (a ++ b) k (End 0)) image (first + k)
    by below (inl here) = subst (λ (e : Entry). Stands half e image (first + k)) (sym (get_or_append_left a b (End 0) k here)) (one k here)
    by below (inr from) =
        let m = k - length a in
        let e : length a + m ≡ k = omega (arith, from) in
        let f : first + length a + m ≡ first + (length a + m) = omega arith in
        subst (λ (at : ℕ). Stands half (get_or (a ++ b) at (End 0)) image (first + at)) e
        (subst (λ (x : Entry). Stands half x image (first + (length a + m))) (sym (get_or-append-add a b m (End 0)))
        (subst (λ (at : ℕ). Stands half (get_or b m (End 0)) image at) f (two m (omega (arith, below, from)))))

-- what is written behind the closed gate of the first doesn't count
pub unseen : (half : Half) (held : List Entry) (n : ℕ) (old c : List ℕ) → length held ≤ 2048 → HasEntries half held old → SameButEntries half.start (length held) n old c → entries half c ≡ held
unfolding entries
unseen half held n old c le has step =
    let m = length held in
    until_none-known (entry_at half c) held (End 0) 0 (2048 - m) 2048 (omega arith)
    (λ k lt. let e : 0 + k ≡ k = omega arith in ap (entry_at half c) e ∙ entry_open half c k _ (step.below (entry_start half.start k) (omega (arith, lt)) ∙ has.opened k lt)
    (stands_under half k old c (λ j below. step.below j (omega (arith, lt, below))) _ (has.stand k lt)))
    ∙ ap (λ (rest : List Entry). held ++ rest) (until_none-none (entry_at half c) (0 + m) (2048 - m)
    (λ some. let e : 0 + m ≡ m = omega arith in ap (entry_at half c) e ∙ entry_closed half c m (λ is. has.closed m (omega arith) (omega arith) (sym step.gate ∙ is))))
    ∙ append-nil held

module _ (half : Half) (held news : List Entry) (old : List ℕ) (room : length held + length news ≤ 2048) (has : HasEntries half held old) (staged : List ℕ)
    (step : SameButEntries half.start (length held) (length news) old staged) (stand : StandFrom half (length held) news staged)
    (c : List ℕ) (gates : SameButGates half.start (length held) (length news) staged c) where
  gate_below : (i : ℕ) → i < length held → gate_at half.start c i ≡ 1
  gate_below i lt = gates.below (entry_start half.start i) (omega arith) ∙ step.below (entry_start half.start i) (omega arith) ∙ has.opened i lt

  shut : (i : ℕ) → length held + length news ≤ i → i < 2048 → gate_at half.start c i ≢ 1
  shut i from below is = has.closed i (omega arith) below (sym (step.above (entry_start half.start i) (omega arith)) ∙ sym (gates.above (entry_start half.start i) (omega arith)) ∙ is)

  still : (k : ℕ) → k < length held → Stands half (get_or held k (End 0)) c k
  still k lt = stands_still half k staged c (gates.bodies k) _ (stands_under half k old staged (λ j below. step.below j (omega (arith, lt, below))) _ (has.stand k lt))

  fresh : (k : ℕ) → k < length news → Stands half (get_or news k (End 0)) c (length held + k)
  fresh k lt = stands_still half (length held + k) staged c (gates.bodies (length held + k)) _ (stand k lt)

  maybe : (k : ℕ) → k < length news → (entry_at half c (length held + k) ≡ Some (get_or news k (End 0))) ⊎ (entry_at half c (length held + k) ≡ None)
  maybe k lt = by (gate_at half.start c (length held + k) == 1) refl
    where
      by : (b : Bool) → (gate_at half.start c (length held + k) == 1) ≡ b → (entry_at half c (length held + k) ≡ Some (get_or news k (End 0))) ⊎ (entry_at half c (length held + k) ≡ None)
      by true is = inl (entry_open half c (length held + k) _ (grind (arith, nat_tests, is)) (fresh k lt))
      by false is = inr (entry_closed half c (length held + k) (λ e. absurd (grind (arith, nat_tests, is, e))))

  -- whichever of the new gates are open, the first of the new entries count
  pub first_new : (j : ℕ) × (j ≤ length news) × (entries half c ≡ held ++ take j news)
  unfolding entries
  first_new =
      let n = length held in
      let some = until_none-some (entry_at half c) news (End 0) n (2048 - n) (omega arith) (λ lt. entry_closed half c (n + length news) (shut (n + length news) (omega arith) (omega arith))) maybe in (
        some.0,
        some.1,
        until_none-known (entry_at half c) held (End 0) 0 (2048 - n) 2048 (omega arith) (λ k lt. let e : 0 + k ≡ k = omega arith in ap (entry_at half c) e ∙ entry_open half c k _ (gate_below k lt) (still k lt))
            ∙ ap (λ (rest : List Entry). held ++ rest) (ap (λ (p : ℕ). until_none (entry_at half c) p (2048 - n)) (let e : 0 + n ≡ n = omega arith in e) ∙ some.2),
      )

  -- with all of them open, all count
  pub all_new : AreOpen half (length held) (length news) c → HasEntries half (held ++ news) c
  all_new opened = record {
    stand = λ k lt. let size = length-append held news in by k (let e : k < length held + length news = omega arith in e) (cases_lt k (length held));
    opened = λ k lt. let size = length-append held news in gate_of k (let e : k < length held + length news = omega arith in e) (cases_lt k (length held));
    closed = λ i from below. shut i (let size = length-append held news in omega arith) below;
  }
    where
      by : (k : ℕ) → k < length held + length news → (k < length held) ⊎ (length held ≤ k) → Stands half (get_or (held ++ news) k (End 0)) c k
      by k lt (inl below) = subst (λ (e : Entry). Stands half e c k) (sym (get_or_append_left held news (End 0) k below)) (still k below)
      by k lt (inr from) =
          let m = k - length held in
          let e : length held + m ≡ k = omega arith in
          subst (λ (at : ℕ). Stands half (get_or (held ++ news) at (End 0)) c at) e
          (subst (λ (x : Entry). Stands half x c (length held + m)) (sym (get_or-append-add held news m (End 0))) (fresh m (omega arith)))

      gate_of : (k : ℕ) → k < length held + length news → (k < length held) ⊎ (length held ≤ k) → gate_at half.start c k ≡ 1
      gate_of k lt (inl below) = gate_below k below
      gate_of k lt (inr from) = let e : k ≡ length held + (k - length held) = omega arith in ap (gate_at half.start c) e ∙ opened (k - length held) (omega arith)
