-- The anodes of a transaction that ended, of a force, and of what a crash leaves of one.
use Rattle.std.proofs.Common.{◌≡◌, ◌≤◌, ℕ, zero, suc, ◌+◌, List, [], ◌∷◌, length, take, drop, refl, sym, ◌∙◌, ap, arith}
use Rattle.std.specs.Prelude.{Bool, true, false, ◌==◌, ◌&&◌, ◌||◌, if◌then◌else◌}
use Rattle.std.proofs.lemmas.List.{take-append-drop}
use Rattle.disk_layout.specs.declared.entry.Entry.{Entry}
use Rattle.disk_layout.specs.Places.{in_place, block_start, pages_of, SameBlocks}
use Rattle.disk_layout.specs.Pages.{ends_in, redone, HasWhole, LeftFirst, pages_in}
use Rattle.disk_layout.proofs.Pages.{firsts_all, redone-append}
use Rattle.disk_log.specs.Contents.{Contents, stage_in, last_stage, AppendsStage, KeepsLast}
use Rattle.disk_log.specs.Puts.{page_of, overlaid, without, is_put}
use Rattle.disk_log.specs.State.{State}
use Rattle.disk_log.specs.declared.put.Put.{Put}
use Rattle.disk_anode.specs.Anode.{Anode}
use Rattle.disk_anode.specs.Changes.{SameBlock}
use Rattle.disk_objects.specs.Holds.{Holds, HoldsNow, stage_of}
use Rattle.disk_objects.proofs.Staying.{holds_kept}

-- a page that no put of the only open transaction has
overlaid_none : (slot p : ℕ) (puts : List Put) (pages : ℕ → List ℕ) → without slot puts ≡ [] → is_put slot p puts ≡ false → overlaid puts pages p ≡ pages p
overlaid_none slot p [] pages alone off = refl
overlaid_none slot p (put ∷ puts) pages alone off = by (put.slot == slot) (put.page == p) (λ e f. overlaid_none slot p puts pages e f) alone off
  where
    by : (a b : Bool) → (without slot puts ≡ [] → is_put slot p puts ≡ false → overlaid puts pages p ≡ pages p) → (if a then without slot puts else put ∷ without slot puts) ≡ [] → ((a && b) || is_put slot p puts) ≡ false → (if b then put.new else overlaid puts pages p) ≡ pages p
    by true true later e f = absurd (grind (arith, f))
    by true false later e f = later e f
    by false b later e f = absurd (let g = ap length e in omega (arith, g))

-- the last stage is all that ended
all_ended : (state : State) (image : List ℕ) (p : ℕ) → HasWhole (take state.forced state.entries) (drop state.forced state.entries) image
    → stage_of state image (ends_in (drop state.forced state.entries)) p ≡ redone state.entries (in_place image) p
all_ended state image p whole =
    let held = take state.forced state.entries in
    let news = drop state.forced state.entries in
    ap (λ (l : List Entry). redone l (λ (q : ℕ). redone held (in_place image) q) p) (firsts_all news (λ (q : ℕ). redone held (in_place image) q) (length held) whole.ended)
    ∙ sym (redone-append held news (in_place image) p)
    ∙ ap (λ (l : List Entry). redone l (in_place image) p) (take-append-drop state.forced state.entries)

page_ended : (old new : State) (image : List ℕ) (slot p : ℕ) → HasWhole (take old.forced old.entries) (drop old.forced old.entries) image → without slot old.puts ≡ []
    → AppendsStage slot (record { state = old; image = image }) (record { state = new; image = image })
    → stage_of new image (ends_in (drop new.forced new.entries)) p ≡ page_of old.entries old.puts image p
unfolding page_of
page_ended old new image slot p whole alone appends = appends p ∙ by (is_put slot p old.puts) refl
  where
    by : (a : Bool) → is_put slot p old.puts ≡ a
        → (if a then overlaid old.puts (λ (q : ℕ). redone old.entries (in_place image) q) p else stage_of old image (ends_in (drop old.forced old.entries)) p) ≡ overlaid old.puts (λ (q : ℕ). redone old.entries (in_place image) q) p
    by true e = refl
    by false e = all_ended old image p whole ∙ sym (overlaid_none slot p old.puts (λ (q : ℕ). redone old.entries (in_place image) q) alone e)

pub holds_ended : (anodes : ℕ → Anode) (old new : State) (image : List ℕ) (slot : ℕ) → HoldsNow anodes old image → HasWhole (take old.forced old.entries) (drop old.forced old.entries) image → without slot old.puts ≡ []
    → AppendsStage slot (record { state = old; image = image }) (record { state = new; image = image })
    → Holds anodes old.superblock.blocks (stage_of new image (ends_in (drop new.forced new.entries))) image
holds_ended anodes old new image slot held whole alone appends =
    holds_kept anodes old.superblock.blocks (λ p. page_of old.entries old.puts image p) (stage_of new image (ends_in (drop new.forced new.entries))) image image held
    (λ p lt. page_ended old new image slot p whole alone appends) (λ b lt some k below. refl)

-- all blocks are the same
blocks_same : (blocks : ℕ) (old new : List ℕ) → SameBlocks (pages_of blocks) old new → (b : ℕ) → SameBlock blocks old new b
blocks_same blocks old new same b k lt = same (block_start (pages_of blocks) b + k) (omega arith)

pub holds_forced : (anodes : ℕ → Anode) (old new : Contents) → old.state.half.pages ≡ pages_of old.state.superblock.blocks → Holds anodes old.state.superblock.blocks (stage_in old (last_stage old)) old.image
    → KeepsLast old new → SameBlocks (pages_of old.state.superblock.blocks) old.image new.image → Holds anodes old.state.superblock.blocks (stage_in new 0) new.image
holds_forced anodes old new many held keeps same =
    holds_kept anodes old.state.superblock.blocks (stage_in old (last_stage old)) (stage_in new 0) old.image new.image held
    (λ p lt. keeps.last p (omega (arith, many, lt))) (λ b lt some. blocks_same old.state.superblock.blocks old.image new.image same b)

pub holds_left : (anodes : ℕ → ℕ → Anode) (told : Contents) (generation : ℕ) (d c : List ℕ) (k : ℕ)
    → (left : LeftFirst told.state.superblock generation (take told.state.forced told.state.entries) (drop told.state.forced told.state.entries) told.image d c k)
    → Holds (anodes 0) told.state.superblock.blocks (stage_in told 0) d
    → ((j : ℕ) → j ≤ last_stage told → Holds (anodes j) told.state.superblock.blocks (stage_in told j) told.image)
    → Holds (anodes k) told.state.superblock.blocks (λ p. pages_in left.log.half c p) c
holds_left anodes told generation d c zero left first stages =
    holds_kept (anodes 0) told.state.superblock.blocks (stage_in told 0) (λ p. pages_in left.log.half c p) d c first
    left.log.pages (λ b lt some. blocks_same told.state.superblock.blocks d c left.log.blocks b)
holds_left anodes told generation d c (suc j) left first stages =
    holds_kept (anodes (suc j)) told.state.superblock.blocks (stage_in told (suc j)) (λ p. pages_in left.log.half c p) told.image c (stages (suc j) left.some_of)
    left.log.pages (λ b lt some k below. (let e = left.blocks (omega arith) in blocks_same told.state.superblock.blocks d c left.log.blocks b k below ∙ blocks_same told.state.superblock.blocks told.image d e b k below))
