-- Bytes that are looked at one after the other, and the blocks of tokens around them.
use Rattle.std.proofs.Common.{Bool, true, false, ◌⊎◌}
use Rattle.std.proofs.Common.{◌≡◌, ◌≤◌, ◌<◌, ℕ, zero, suc, ◌+◌, ◌-◌, ◌*◌, ◌/◌, min, List, [], ◌∷◌, ◌++◌, Result, Ok}
use Rattle.std.proofs.Common.{refl, ap, inl, inr, subst, sym, ◌∙◌, arith}
use Rattle.base_types.specs.declared.ids.Fid.{Fid}
use Rattle.token_types.specs.Covers.{Covers, CoversBetween}
use Rattle.token_types.specs.declared.token.Kind.TheVariants.{Bytes}
use Rattle.token_types.specs.declared.token.Need.{Need}
use Rattle.token_types.specs.declared.token.Token.{Token}
use Rattle.tree_calls.specs.declared.reply.Refusal.{Refusal}
use Rattle.tree_laws.specs.Parts.Part.{ByteAt, Size}
use Rattle.tree_objects.specs.Spans.{span_between}
use Rattle.need_host.specs.Calls.{bytes_look, read_from}
use Rattle.need_host.specs.Looks.{CoverAll, IsFirstLack, Look, View, kind_for, look_on, needs_of, outcome, rounded}
use Rattle.need_host.specs.Looks.Look.{Ends, Looks, Takes}
use Rattle.need_host.proofs.Looking.{outcome_on}
use Rattle.host_walk.specs.Bytes.{CoverBlocks, LacksBlock, byte_need, bytes_seen}
use Rattle.host_walk.specs.Trying.{Finds, IsStopped}

-- what a look needs that goes on without a need, and how it ends
pub needs_end : {A B : Type 0} (view : View) (f : A → B) (look : Look A) →
    needs_of view (look_on look (λ r. Ends (f r))) ≡ needs_of view look
needs_end view f (Ends result) = refl
needs_end view f (Looks fid part after) =
    ap (λ needs. record { fid = fid; kind = kind_for part } ∷ needs) (needs_end view f (after (view fid part)))
needs_end view f (Takes need after) = ap (λ needs. need ∷ needs) (needs_end view f after)

pub outcome_end : {A B : Type 0} (view : View) (f : A → B) (look : Look A) →
    outcome view (look_on look (λ r. Ends (f r))) ≡ f (outcome view look)
outcome_end view f look = outcome_on view look (λ r. Ends (f r))

module _ (held : List Token) (view : View) (fid : Fid) where
  rest_needs : (from n : ℕ) →
      needs_of view (bytes_look fid from (suc n)) ≡ byte_need fid from ∷ needs_of view (bytes_look fid (suc from) n)
  rest_needs from n =
      ap (λ needs. byte_need fid from ∷ needs)
      (needs_end view (λ bytes. view fid (ByteAt from) ∷ bytes) (bytes_look fid (suc from) n))

  -- all bytes are covered
  pub bytes_covered : (n from : ℕ) → CoverBlocks held fid from (from + n) →
      CoverAll held (needs_of view (bytes_look fid from n))
  bytes_covered zero from all = tt
  bytes_covered (suc n) from all =
      subst (CoverAll held) (sym (rest_needs from n)) (
        all from (omega arith) (omega arith),
        bytes_covered n (suc from) (λ at low high. all at (omega (arith, low)) (omega (arith, high))),
      )

  pub bytes_outcome : (n from : ℕ) → outcome view (bytes_look fid from n) ≡ bytes_seen view fid from n
  bytes_outcome zero from = refl
  bytes_outcome (suc n) from =
      outcome_end view (λ bytes. view fid (ByteAt from) ∷ bytes) (bytes_look fid (suc from) n)
      ∙ ap (λ bytes. view fid (ByteAt from) ∷ bytes) (bytes_outcome n (suc from))

  -- the first byte that isn't covered
  pub bytes_lack : (n from at : ℕ) → from ≤ at → at < from + n → CoverBlocks held fid from at →
      (Covers held (byte_need fid at) → ⊥) →
      IsFirstLack held (needs_of view (bytes_look fid from n)) (byte_need fid at)
  bytes_lack zero from at low high before lack = absurd (omega (arith, low, high))
  bytes_lack (suc n) from at low high before lack =
      subst (λ needs. IsFirstLack held needs (byte_need fid at)) (sym (rest_needs from n))
      (by_cases (λ above in_front. bytes_lack n (suc from) at above (omega (arith, high)) in_front lack)
      (lower from at low))
    where
      lower : (a b : ℕ) → a ≤ b → (a ≡ b) ⊎ (suc a ≤ b)
      lower a b h = grind (arith, h)

      by_cases : (suc from ≤ at → CoverBlocks held fid (suc from) at →
          IsFirstLack held (needs_of view (bytes_look fid (suc from) n)) (byte_need fid at)) →
          (from ≡ at) ⊎ (suc from ≤ at) →
          IsFirstLack held (byte_need fid from ∷ needs_of view (bytes_look fid (suc from) n)) (byte_need fid at)
      by_cases behind (inl e) =
          inl ((λ covered. lack (subst (λ k. Covers held (byte_need fid k)) e covered)), ap (byte_need fid) e)
      by_cases behind (inr h) = inr (
        before from (omega arith) (omega (arith, h)),
        behind h (λ k low high. before k (omega (arith, low)) high),
      )

-- ---- blocks
-- the block of a byte
pub byte_block : (fid : Fid) (block at : ℕ) → block * 1024 ≤ at → at < block * 1024 + 1024 →
    byte_need fid at ≡ record { fid = fid; kind = Bytes false (span_between (block * 1024) (block * 1024 + 1024)) }
byte_block fid block at low high =
    let a : at / 1024 * 1024 ≡ block * 1024 = omega (arith, low, high) in
    let b : (at + 1 + 1023) / 1024 * 1024 ≡ block * 1024 + 1024 = omega (arith, low, high) in
    λ i. record { fid = fid; kind = Bytes false (span_between (a i) (b i)) }

-- the tokens cover a byte of which they cover the block, where a file has it
pub byte_of_block : (held : List Token) (fid : Fid) (from to : ℕ) → to ≤ 65536 → CoverBlocks held fid from to →
    CoversBetween held fid false from to
byte_of_block held fid from to within all at low high =
    all at low high at
    (omega arith)
    (omega (arith, within, high))

-- and where they cover all blocks around some bytes they cover that of each
pub blocks_of_all : (held : List Token) (fid : Fid) (from to : ℕ) → to ≤ 65536 →
    Covers held (record { fid = fid; kind = Bytes false (rounded from to) }) → CoverBlocks held fid from to
blocks_of_all held fid from to within all at low high k above below =
    all k (omega (arith, low, high, above, below, within)) (omega (arith, low, high, above, below, within))

-- a byte behind the last that a file can have is covered
pub block_beyond : (held : List Token) (fid : Fid) (at : ℕ) → 65536 ≤ at → Covers held (byte_need fid at)
block_beyond held fid at beyond k above below = absurd (omega (arith, beyond, above, below))

-- the blocks up to one, and up to the next
pub blocks_none : (held : List Token) (fid : Fid) (from to : ℕ) → to ≤ from → CoverBlocks held fid from to
blocks_none held fid from to h at low high = absurd (omega (arith, h, low, high))

pub blocks_more : (held : List Token) (fid : Fid) (from block : ℕ) → CoverBlocks held fid from (block * 1024) →
    Covers held (record { fid = fid; kind = Bytes false (span_between (block * 1024) (block * 1024 + 1024)) }) →
    CoverBlocks held fid from (block * 1024 + 1024)
blocks_more held fid from block before here at low high = by_cases (split (block * 1024) at)
  where
    split : (a b : ℕ) → (a ≤ b) ⊎ (b < a)
    split a b = grind arith

    by_cases : (block * 1024 ≤ at) ⊎ (at < block * 1024) → Covers held (byte_need fid at)
    by_cases (inl h) = subst (Covers held) (sym (byte_block fid block at h high)) here
    by_cases (inr h) = before at low h

pub blocks_fewer : (held : List Token) (fid : Fid) (from to less : ℕ) → less ≤ to → CoverBlocks held fid from to →
    CoverBlocks held fid from less
blocks_fewer held fid from to less h all at low high = all at low (omega (arith, h, high))

-- a block that isn't covered, behind some that are
pub block_lacks : (held : List Token) (fid : Fid) (from to block : ℕ) → from < to →
    from < block * 1024 + 1024 → block * 1024 < to →
    CoverBlocks held fid from (block * 1024) →
    (Covers held (record { fid = fid; kind = Bytes false (span_between (block * 1024) (block * 1024 + 1024)) }) → ⊥) →
    (at : ℕ) × LacksBlock held fid from to at
    × (record { fid = fid; kind = Bytes false (span_between (block * 1024) (block * 1024 + 1024)) } ≡ byte_need fid at)
block_lacks held fid from to block some above below before lack = by_cases (split (block * 1024) from)
  where
    split : (a b : ℕ) → (a ≤ b) ⊎ (b < a)
    split a b = grind arith

    there : (at : ℕ) → from ≤ at → at < to → block * 1024 ≤ at → at < block * 1024 + 1024 →
        CoverBlocks held fid from at →
        (at : ℕ) × LacksBlock held fid from to at
        × (record { fid = fid; kind = Bytes false (span_between (block * 1024) (block * 1024 + 1024)) }
        ≡ byte_need fid at)
    there at low high in_low in_high covered =
        let same = byte_block fid block at in_low in_high in (
          at,
          record {
            above = low;
            below = high;
            before = covered;
            lacks = λ c. lack (subst (Covers held) same c);
          },
          sym same,
        )

    by_cases : (block * 1024 ≤ from) ⊎ (from < block * 1024) →
        (at : ℕ) × LacksBlock held fid from to at
        × (record { fid = fid; kind = Bytes false (span_between (block * 1024) (block * 1024 + 1024)) }
        ≡ byte_need fid at)
    by_cases (inl h) = there from (omega arith) some h above (blocks_none held fid from from (omega arith))
    by_cases (inr h) = there (block * 1024) (omega (arith, h)) below (omega arith) (omega arith) before

-- ---- a read
module _ (held : List Token) (view : View) (fid : Fid) (from n : ℕ) where
  abbrev bytes_found : Look (Result (List ℕ) Refusal)
  bytes_found = look_on (bytes_look fid from n) (λ bytes. Ends (Ok bytes))

  pub bytes_found_all : CoverBlocks held fid from (from + n) → Finds held view bytes_found (bytes_seen view fid from n)
  bytes_found_all all = record {
    covered = subst (CoverAll held)
        (sym (needs_end {B = Result (List ℕ) Refusal} view (λ bytes. Ok bytes) (bytes_look fid from n)))
        (bytes_covered held view fid n from all);
    ends = outcome_end {B = Result (List ℕ) Refusal} view (λ bytes. Ok bytes) (bytes_look fid from n)
        ∙ ap {B = Result (List ℕ) Refusal} (λ bytes. Ok bytes) (bytes_outcome held view fid n from);
  }

  pub bytes_found_lack : (at : ℕ) → LacksBlock held fid from (from + n) at →
      IsFirstLack held (needs_of view bytes_found) (byte_need fid at)
  bytes_found_lack at h =
      subst (λ needs. IsFirstLack held needs (byte_need fid at))
      (sym (needs_end {B = Result (List ℕ) Refusal} view (λ bytes. Ok bytes) (bytes_look fid from n)))
      (bytes_lack held view fid n from at h.above h.below h.before h.lacks)

-- the need of a block
pub block_need_is : (fid : Fid) (block from to : ℕ) → from ≡ block * 1024 → to ≡ block * 1024 + 1024 →
    (◌≡◌ {A = Need}) (record { fid = fid; kind = Bytes false (span_between from to) })
    (record { fid = fid; kind = Bytes false (span_between (block * 1024) (block * 1024 + 1024)) })
block_need_is fid block from to e k = λ i. record { fid = fid; kind = Bytes false (span_between (e i) (k i)) }

pub is_false : (b : Bool) → b ≡ true → b ≡ false → ⊥
is_false b h e = let k : true ≡ false = sym h ∙ e in cc
