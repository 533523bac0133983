-- A free block that was taken and written.
use Rattle.std.proofs.Common.{◌≡◌, ◌<◌, ℕ, ◌+◌, List, length, refl, sym, ◌∙◌, ap, subst, arith}
use Rattle.std.specs.Prelude.{◌==◌}
use Rattle.base_types.specs.Image.{byte_at, Torn, Holds}
use Rattle.base_types.specs.View.{View}
use Rattle.base_types.specs.Crash.{IsQuiet, ChangesBy}
use Rattle.base_outside.proofs.Runs.{wider_changes}
use Rattle.disk_layout.specs.Places.{block_start, pages_of}
use Rattle.disk_log.specs.Puts.{page_of}
use Rattle.disk_log.specs.State.{State}
use Rattle.disk_space.specs.Counts.{count_page, count_now, count_settled, IsFree, HasPut, SetsCount}
use Rattle.disk_space.proofs.Words.{page_there}
use Rattle.disk_anode.specs.Room.{one}
use Rattle.disk_anode.specs.Changes.{IsLoose, WroteLoose, Moves, IsTaken}
use Rattle.disk_anode.proofs.Laying.{held_byte}
use Rattle.disk_anode.proofs.Moving.{moves_set, loose_torn, wrote_quiet, wrote_then, now_same, settled_beside, beside_block}
use Rattle.disk_anode.proofs.Cells.{one_same, one_other}

module _ (block slot : ℕ) (old mid new : State) (first second last : View) (many : old.half.pages ≡ pages_of old.superblock.blocks)
    (put : HasPut slot block old mid) (free : IsFree old first.image block) (quiet : IsQuiet first second) (same : new ≡ mid)
    (torn : Torn (block_start mid.half.pages block) 1024 second.image last.image) where
  half_same : mid.half.pages ≡ pages_of old.superblock.blocks
  half_same = (let e = put.2 in λ i. (e i).half.pages) ∙ many

  torn_here : Torn (block_start (pages_of old.superblock.blocks) block) 1024 second.image last.image
  torn_here = subst (λ (n : ℕ). Torn (block_start n block) 1024 second.image last.image) half_same torn

  -- it wrote a loose block
  pub wrote_free : ChangesBy (Torn (block_start mid.half.pages block) 1024) second last → (named : ℕ → ℕ) → WroteLoose named old first last
  wrote_free crash named =
      let e = free.now in
      let loose : IsLoose named old first.image block = record { there = free.there; now = omega (arith, e); settled = free.settled } in
      let crash_here = subst (λ (n : ℕ). ChangesBy (Torn (block_start n block) 1024) second last) half_same crash in
      wrote_then named old first second last (wrote_quiet named old first second quiet) (loose_torn named old first.image block loose second.image last.image torn_here)
      (wider_changes crash_here (λ c d. loose_torn named old first.image block loose c d))

  -- and the block is taken
  pub taken : (bytes : List ℕ) → length bytes ≡ 1024 → SetsCount block 1 old mid first.image → Holds (block_start mid.half.pages block) bytes last.image
      → ((p : ℕ) → p < mid.half.pages → page_of new.entries new.puts last.image p ≡ page_of mid.entries mid.puts second.image p)
      → IsTaken block bytes old first.image new last.image
  taken bytes size sets holds pages = record {
    free = free;
    moves = record {
      counts = λ b lt. (let e = moved.counts b lt in let f = now_same mid new second.image last.image b (pages (count_page b) (omega (arith, half_same, page_there b old.superblock.blocks lt))) ∙ ap (λ (l : List ℕ). count_now mid l b) quiet.image in omega (arith, e, f));
      settled = λ b lt. settled_after b lt ∙ moved.settled b lt;
      tail = λ b spare. (let low = spare.1 in now_same mid new second.image last.image b (pages (count_page b) (omega (arith, half_same, low))) ∙ ap (λ (l : List ℕ). count_now mid l b) quiet.image ∙ moved.tail b spare);
      pages = λ p lt. pages p (omega (arith, half_same)) ∙ ap (λ (l : List ℕ). page_of mid.entries mid.puts l p) quiet.image ∙ moved.pages p lt;
    };
    holds = λ k lt. held_byte (block_start (pages_of old.superblock.blocks) block) bytes last.image (subst (λ (n : ℕ). Holds (block_start n block) bytes last.image) half_same holds) k (omega (arith, size));
    others = λ other apart k lt. beside_block (pages_of old.superblock.blocks) block other k second.image last.image torn_here lt apart ∙ ap (λ (l : List ℕ). byte_at l (block_start (pages_of old.superblock.blocks) other + k)) quiet.image;
  }
    where
      moved : Moves (λ other. 0) (λ other. one (block + 1 == other + 1)) old first.image mid first.image
      moved = (let e = free.now in let f = one_same (block + 1) (block + 1) refl in
          moves_set block 1 slot (λ (other : ℕ). 0) (λ (other : ℕ). one (block + 1 == other + 1)) old mid first.image put sets free.there (omega (arith, e, f)) (λ b apart. sym (one_other (block + 1) (b + 1) (λ is. apart (omega arith)))))

      settled_after : (b : ℕ) → b < old.superblock.blocks → count_settled new last.image b ≡ count_settled mid first.image b
      settled_after b lt =
          let blocks : mid.superblock.blocks ≡ old.superblock.blocks = (let e = put.2 in λ i. (e i).superblock.blocks) in
          ap (λ (s : State). count_settled s last.image b) same
          ∙ settled_beside mid second.image last.image b (omega (arith, blocks)) (λ at below. torn.before at (omega (arith, half_same, blocks, below)))
          ∙ ap (λ (l : List ℕ). count_settled mid l b) quiet.image
