use Rattle.std.proofs.Common.{refl, ◌∙◌, List, [], ℕ, ap, sym, subst, replicate, Option, None}
use Rattle.disk_layout.specs.declared.entry.Entry.{Entry}
use Rattle.disk_log.specs.Append.{AllFit}
use Rattle.disk_log.specs.Recovered.{AreRecovered}
use Rattle.disk_layout.specs.declared.half.Half.{Half}
use Rattle.disk_layout.specs.Places.{SameBlocks}
use Rattle.disk_layout.specs.Superblock.{IsSuperblock}
use Rattle.disk_layout.specs.Entry.{entries}
use Rattle.disk_layout.specs.Half.{used_half, AreSides, IsLog}
use Rattle.disk_layout.specs.Pages.{pages_in}
use Rattle.disk_layout.proofs.Words.{superblock_same}
use Rattle.disk_log.specs.State.{fresh_state}
use Rattle.disk_log.specs.Switch.{half_after, next_half, IsUsed}
use Rattle.disk_log.proofs.Calls.{sound_as}
use Rattle.disk_log.proofs.Fresh.{sides_of, other_placed, used_ahead, fresh_sound, mounted_as}
use Rattle.disk_log.proofs.mount.recover.Goals as goal

pub checkpoint-requires-clause-sides : goal.checkpoint-requires-clause-sides
checkpoint-requires-clause-sides g c = subst (λ (next : Half). AreSides c.args.half.now.start next.start) (sym c.next_half-next.ensures) (sides_of c.args.half.now c.requires.placed.1)

pub checkpoint-requires-clause-used : goal.checkpoint-requires-clause-used
checkpoint-requires-clause-used g c = λ told.
    let half = c.args.half.now in
    let same = c.read_entries.ensures.quiet.image in
    let image = (g.D.Disk.view c.read_entries.new.disk).image in
    subst (λ (next : Half). IsUsed c.args.superblock.now half next.start (entries half image) image) (sym c.next_half-next.ensures)
    (record {
      many = c.requires.placed.0;
      front = subst (λ (l : List ℕ). IsSuperblock c.args.superblock.now l) (sym same) (c.requires.log told).front;
      ahead = used_ahead _ _ half _ (sides_of half c.requires.placed.1) (ap (used_half _) same ∙ (c.requires.log told).used);
      held_there = refl;
    })

pub returns-clause-sound : goal.returns-clause-sound
returns-clause-sound g c =
    let half = c.args.half.now in
    let same = c.read_entries.ensures.quiet.image in
    let image = (g.D.Disk.view c.checkpoint.new.disk).image in
    let next = next_half half in
    sound_as _ _ _ _ (fresh_state c.args.superblock.now next) _
    (c.in_ok-kept.ensures.pages ∙ ap (λ (l : Half). replicate {A = Option (List ℕ)} l.pages None) c.next_half-next.ensures)
    (c.in_ok-kept.ensures.state ∙ ap (fresh_state c.args.superblock.now) c.next_half-next.ensures)
    (fresh_sound _ _ c.args.superblock.now next (other_placed half.start _ (sides_of half c.requires.placed.1)) c.requires.blocks c.requires.placed.0
    (λ told. superblock_same _ _ _ (c.checkpoint.ensures.front told) (subst (λ (l : List ℕ). IsSuperblock c.args.superblock.now l) (sym same) (c.requires.log told).front))
    (λ told. subst (λ (l : Half). IsLog (half_after half l.start) [] image) c.next_half-next.ensures (c.in_ok-checkpoint.ensures.switched told)) c.in_ok-checkpoint.ensures.settled)

pub returns-clause-mounted : goal.returns-clause-mounted
returns-clause-mounted g c = λ told.
    let half = c.args.half.now in
    let same = c.read_entries.ensures.quiet.image in
    mounted_as _ _ _ c.args.superblock.now half c.requires.placed.0
    (c.in_ok-kept.ensures.state ∙ ap (fresh_state c.args.superblock.now) c.next_half-next.ensures) (c.requires.log told) c.requires.fresh
    (λ p lt. c.in_ok-checkpoint.ensures.placed told p lt ∙ ap (λ (image : List ℕ). pages_in half image p) same)
    (subst (λ (image : List ℕ). SameBlocks half.pages image (g.D.Disk.view c.checkpoint.new.disk).image) same (c.checkpoint.ensures.blocks told))

pub checkpoint-requires-clause-fits : goal.checkpoint-requires-clause-fits
checkpoint-requires-clause-fits g c = λ told.
    let half = c.args.half.now in
    subst (λ (l : List Entry). AllFit half l) (c.in_ok-entries.ensures.entries told ∙ ap (entries half) (sym c.read_entries.ensures.quiet.image)) c.in_ok-entries.ensures.fits

pub checkpoint-requires-clause-recovered : goal.checkpoint-requires-clause-recovered
checkpoint-requires-clause-recovered g c = λ told.
    let half = c.args.half.now in
    subst (λ (table : List (Option (List ℕ))). AreRecovered (entries half (g.D.Disk.view c.read_entries.new.disk).image) table) (sym c.as_slice.ensures)
    (subst (λ (l : List Entry). AreRecovered l c.in_ok-table.table) (c.deref.ensures.value ∙ c.in_ok-entries.ensures.entries told ∙ ap (entries half) (sym c.read_entries.ensures.quiet.image)) c.in_ok-table.ensures.recovered)
