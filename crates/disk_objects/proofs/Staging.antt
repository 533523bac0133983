-- Anodes of earlier stages, which no call writes.
use Rattle.std.proofs.Common.{◌≡◌, ◌<◌, ℕ, suc, ◌+◌, ◌*◌, List, take, drop, refl, sym, ap, subst, arith}
use Rattle.base_types.specs.Image.{byte_at}
use Rattle.disk_layout.specs.Numbers.{number_at}
use Rattle.disk_layout.specs.Places.{in_place, pages_of, SameButBlocks}
use Rattle.disk_layout.specs.Pages.{firsts, redone}
use Rattle.disk_layout.proofs.Pages.{redone_at}
use Rattle.disk_layout.proofs.Left.{page_same}
use Rattle.disk_log.specs.State.{State}
use Rattle.disk_log.specs.declared.put.Put.{Put}
use Rattle.disk_log.proofs.Settled.{settled_covers}
use Rattle.disk_space.specs.Counts.{count_page, count_place, count_settled}
use Rattle.disk_anode.specs.Anode.{Anode}
use Rattle.disk_anode.specs.Changes.{IsLoose, WritesLoose}
use Rattle.disk_objects.specs.Holds.{stage_of, Holds}
use Rattle.disk_objects.proofs.Staying.{holds_kept}

-- a number of two bytes
pub two_bytes : (at : ℕ) (xs : List ℕ) → number_at 2 at xs ≡ 256 * byte_at xs at + byte_at xs (at + 1)
unfolding number_at
two_bytes at xs = (let e : suc at ≡ at + 1 = omega arith in omega (arith, ap (byte_at xs) e))

-- a block that a stage counts is counted in what is settled
stage_settled : (state : State) (image : List ℕ) (k b : ℕ) → count_settled state image b ≡ 0 → number_at 2 (count_place b) (stage_of state image k (count_page b)) ≡ 0
unfolding count_settled
stage_settled state image k b none =
    let page : List ℕ = stage_of state image k (count_page b) in
    let e = settled_covers state.entries state.forced k image (count_page b) (count_place b) in
    let f = settled_covers state.entries state.forced k image (count_page b) (count_place b + 1) in
    let g = two_bytes (count_place b) page in
    omega (arith, e, f, g, none)

-- what a crash leaves of a stage
pub crash_stays : (anodes : ℕ → Anode) (named : ℕ → ℕ) (state : State) (image before after : List ℕ) (k : ℕ) → Holds anodes state.superblock.blocks (stage_of state image k) before
    → WritesLoose named state image before after → Holds anodes state.superblock.blocks (stage_of state image k) after
crash_stays anodes named state image before after k held writes = holds_kept anodes state.superblock.blocks (stage_of state image k) (stage_of state image k) before after held (λ p lt. refl)
    (λ b lt some. writes.blocks b lt (λ (loose : IsLoose named state image b). (let e = stage_settled state image k b loose.settled in omega (arith, e, some))))

-- a stage is the same after a call
stage_same : (state : State) (puts : List Put) (before after : List ℕ) (k p : ℕ) → SameButBlocks (pages_of state.superblock.blocks) before after → p < pages_of state.superblock.blocks
    → stage_of (record state { puts = puts }) after k p ≡ stage_of state before k p
stage_same state puts before after k p same lt =
    redone_at (firsts k (drop state.forced state.entries)) (λ (q : ℕ). redone (take state.forced state.entries) (in_place after) q) (λ (q : ℕ). redone (take state.forced state.entries) (in_place before) q) p
    (redone_at (take state.forced state.entries) (in_place after) (in_place before) p (page_same (pages_of state.superblock.blocks) p before after lt (λ j from below. same j below)))

pub stage_stays : (anodes : ℕ → Anode) (named : ℕ → ℕ) (old : State) (puts : List Put) (before after : List ℕ) (k : ℕ) → Holds anodes old.superblock.blocks (stage_of old before k) before
    → WritesLoose named old before before after → Holds anodes old.superblock.blocks (stage_of (record old { puts = puts }) after k) after
stage_stays anodes named old puts before after k held writes = holds_kept anodes old.superblock.blocks (stage_of old before k) (stage_of (record old { puts = puts }) after k) before after held
    (λ p lt. stage_same old puts before after k p writes.front lt)
    (λ b lt some. writes.blocks b lt (λ (loose : IsLoose named old before b). (let e = stage_settled old before k b loose.settled in omega (arith, e, some))))

pub holds_staged : (anodes : ℕ → Anode) (named : ℕ → ℕ) (old new : State) (before after : List ℕ) (k : ℕ) → new ≡ record old { puts = new.puts } → Holds anodes old.superblock.blocks (stage_of old before k) before
    → WritesLoose named old before before after → Holds anodes new.superblock.blocks (stage_of new after k) after
holds_staged anodes named old new before after k rest held writes = subst (λ (s : State). Holds anodes s.superblock.blocks (stage_of s after k) after) (sym rest) (stage_stays anodes named old new.puts before after k held writes)
