use Rattle.std.proofs.Common.{◌∙◌, ◌≡◌, [], List, ℕ, Option, length, refl, ap, sym, subst, arith}
use Rattle.base_outside.proofs.Runs.{then, weaker}
use Rattle.disk_layout.specs.declared.half.Half.{Half}
use Rattle.disk_layout.specs.declared.entry.Entry.{Entry}
use Rattle.disk_log.specs.Log.{state_in}
use Rattle.disk_log.specs.Puts.{page_of}
use Rattle.disk_log.specs.Append.{AllFit}
use Rattle.disk_log.specs.Recovered.{AreRecovered}
use Rattle.disk_layout.specs.Entry.{entries}
use Rattle.disk_layout.specs.Half.{IsLog}
use Rattle.disk_layout.proofs.Words.{superblock_same}
use Rattle.disk_log.specs.State.{State, fresh_state}
use Rattle.disk_log.specs.Switch.{half_after, next_half, IsUsed}
use Rattle.disk_log.proofs.Calls.{sound_as}
use Rattle.disk_log.proofs.Fresh.{sides_of, other_placed, emptied_sound}
use Rattle.disk_log.proofs.Emptying.{none_put, kept_all, keeps_holding, used_whole, used_by, pages_known, then_left, page_emptied, all_firsts, no_puts}
use Rattle.disk_log.proofs.Keeping.{emptied_stages}
use Rattle.disk_log.proofs.log.Log.checkpoint.Goals as goal

pub checkpoint-requires-clause-used : goal.checkpoint-requires-clause-used
checkpoint-requires-clause-used g c = λ told.
    let kept = c.force.new.self.kept in
    let image = (g.D.Disk.view c.force.new.self.disk).image in
    subst (λ (next : Half). IsUsed kept.superblock kept.half next.start (entries kept.half image) image) (sym c.next_half-next.ensures)
    (used_by
    (used_whole _ _ _ _ _ (state_in c.args.self.now.kept) (state_in kept) c.requires.sound c.requires.none_open c.in_ok-force.ensures.sound c.in_ok-force.ensures.state told (c.force.ensures.pages told)))

pub returns-in_err-checkpoint-clause-crash : goal.returns-in_err-checkpoint-clause-crash
returns-in_err-checkpoint-clause-crash g c = λ told.
    then (c.force.ensures.crash told)
    (weaker (c.checkpoint.ensures.crash told)
    (then_left _ _ _ _ _ (state_in c.args.self.now.kept) (state_in c.force.new.self.kept) c.requires.sound c.requires.none_open c.in_ok-force.ensures.sound c.in_ok-force.ensures.state told (c.force.ensures.pages told)
    (g.met.D.Disk.reads_one c.args.self.now.disk told) (c.force.ensures.blocks told)))

pub returns-clause-crash : goal.returns-clause-crash
returns-clause-crash g c = λ told.
    then (c.force.ensures.crash told)
    (weaker (c.checkpoint.ensures.crash told)
    (then_left _ _ _ _ _ (state_in c.args.self.now.kept) (state_in c.force.new.self.kept) c.requires.sound c.requires.none_open c.in_ok-force.ensures.sound c.in_ok-force.ensures.state told (c.force.ensures.pages told)
    (g.met.D.Disk.reads_one c.args.self.now.disk told) (c.force.ensures.blocks told)))

pub returns-clause-pages : goal.returns-clause-pages
returns-clause-pages g c = λ told p lt.
    let image = (g.D.Disk.view c.checkpoint.new.disk).image in
    let pages = ap (λ (s : State). s.half.pages) c.in_ok-force.ensures.state in
    ap (λ (s : State). page_of s.entries s.puts image p) c.restart.ensures.state
    ∙ page_emptied image p
    ∙ c.in_ok-checkpoint.ensures.placed told p (omega (arith, pages, lt))
    ∙ pages_known _ _ _ _ _ (state_in c.args.self.now.kept) (state_in c.force.new.self.kept) c.requires.sound c.requires.none_open c.in_ok-force.ensures.sound c.in_ok-force.ensures.state told (c.force.ensures.pages told) p

pub returns-clause-sound : goal.returns-clause-sound
returns-clause-sound g c =
    let kept = c.force.new.self.kept in
    let state : State = state_in c.args.self.now.kept in
    let forced : State = state_in kept in
    let old = g.D.Disk.view c.args.self.now.disk in
    let mid = g.D.Disk.view c.force.new.self.disk in
    let image = (g.D.Disk.view c.checkpoint.new.disk).image in
    let sound = c.in_ok-force.ensures.sound in
    let next = c.next_half-next.ensures in
    let is = c.in_ok-force.ensures.state in
    let all : forced.forced ≡ length forced.entries = ap (λ (s : State). s.forced) is ∙ ap (λ (s : State). length s.entries) (sym is) in
    sound_as _ _ _ _ (fresh_state kept.superblock (next_half kept.half)) _ c.restart.ensures.pages (c.restart.ensures.state ∙ ap (fresh_state kept.superblock) next)
    (emptied_sound _ _ kept.superblock (next_half kept.half) _ (other_placed kept.half.start _ (sides_of kept.half sound.steady.placed)) sound.blocks sound.many sound.slots
    (λ told. keeps_holding _ forced mid image (none_put state forced c.requires.sound.accounts c.requires.none_open is) sound.slots
    (λ p lt. c.in_ok-checkpoint.ensures.placed told p lt ∙ pages_known _ old mid _ _ state forced c.requires.sound c.requires.none_open sound is told (c.force.ensures.pages told) p ∙ sym (c.force.ensures.pages told p))
    (kept_all _ mid _ forced sound all told))
    (λ told. superblock_same kept.superblock mid.image image (c.checkpoint.ensures.front told) (sound.front told))
    (λ told. subst (λ (l : Half). IsLog (half_after kept.half l.start) [] image) next (c.in_ok-checkpoint.ensures.switched told)) c.in_ok-checkpoint.ensures.settled)

pub returns-clause-stages : goal.returns-clause-stages
returns-clause-stages g c = λ told.
    let state : State = state_in c.args.self.now.kept in
    let old = g.D.Disk.view c.args.self.now.disk in
    let image = (g.D.Disk.view c.checkpoint.new.disk).image in
    let pages = ap (λ (s : State). s.half.pages) c.in_ok-force.ensures.state in
    let sound = c.requires.sound in
    emptied_stages old.image image state _ _ _ c.restart.ensures.state
    (λ p lt.
    c.in_ok-checkpoint.ensures.placed told p (omega (arith, pages, lt))
    ∙ pages_known _ _ _ _ _ state (state_in c.force.new.self.kept) sound c.requires.none_open c.in_ok-force.ensures.sound c.in_ok-force.ensures.state told (c.force.ensures.pages told) p
    ∙ all_firsts old state (sound.steady.on_disk told) (g.met.D.Disk.reads_one c.args.self.now.disk told) (no_puts state sound.accounts c.requires.none_open) sound.many p)

pub checkpoint-requires-clause-fits : goal.checkpoint-requires-clause-fits
checkpoint-requires-clause-fits g c = λ told.
    let kept = c.force.new.self.kept in
    subst (λ (l : List Entry). AllFit kept.half l) (sym (used_whole _ _ _ _ _ (state_in c.args.self.now.kept) (state_in kept) c.requires.sound c.requires.none_open c.in_ok-force.ensures.sound c.in_ok-force.ensures.state told (c.force.ensures.pages told)).held_there)
    c.in_ok-force.ensures.sound.steady.fits

pub checkpoint-requires-clause-recovered : goal.checkpoint-requires-clause-recovered
checkpoint-requires-clause-recovered g c = λ told.
    let kept = c.force.new.self.kept in
    let before : State = state_in c.args.self.now.kept in
    let image = (g.D.Disk.view c.force.new.self.disk).image in
    let there = (used_whole _ _ _ _ _ before (state_in kept) c.requires.sound c.requires.none_open c.in_ok-force.ensures.sound c.in_ok-force.ensures.state told (c.force.ensures.pages told)).held_there in
    let same = ap (λ (s : State). s.entries) c.in_ok-force.ensures.state in
    subst (λ (table : List (Option (List ℕ))). AreRecovered (entries kept.half image) table) (sym c.as_slice.ensures)
    (subst (λ (l : List Entry). AreRecovered l c.in_ok-table.table) (c.deref.ensures.value ∙ sym same ∙ sym there) c.in_ok-table.ensures.recovered)
