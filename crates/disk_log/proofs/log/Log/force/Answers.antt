use Rattle.std.proofs.Common.{◌≡◌, ◌∙◌, ◌-◌, List, drop, length, refl, sym, subst, take, arith, ℕ}
use Rattle.disk_layout.specs.declared.entry.Entry.{Entry}
use Rattle.disk_layout.specs.Half.{IsLog}
use Rattle.disk_layout.specs.Pages.{redone}
use Rattle.disk_layout.specs.Places.{in_place}
use Rattle.disk_log.specs.Log.{state_in}
use Rattle.disk_log.specs.State.{State, forced_all}
use Rattle.disk_log.proofs.Under.{page_stays}
use Rattle.disk_log.proofs.Calls.{sound_as, force_sound}
use Rattle.disk_log.proofs.Emptying.{kept_forced}
use Rattle.disk_log.proofs.Pieces.{piece_is}
use Rattle.disk_log.specs.Contents.{KeepsLast}
use Rattle.disk_log.proofs.Keeping.{forced_last}
use Rattle.disk_log.proofs.log.Log.force.Goals as goal

pub returns-in_err-append-clause-pages : goal.returns-in_err-append-clause-pages
returns-in_err-append-clause-pages g c = λ told p. page_stays _ _ (c.append.ensures.rest told) _ _ p

pub returns-clause-pages : goal.returns-clause-pages
returns-clause-pages g c = λ told p. page_stays _ _ (c.append.ensures.rest told) _ _ p

pub returns-clause-sound : goal.returns-clause-sound
returns-clause-sound g c =
    let kept = c.args.self.now.kept in
    let size : c.len-self.result ≡ length kept.entries.items = omega arith in
    let state : State = state_in kept in
    sound_as _ _ _ _ (forced_all state) _ refl (λ j. record state { forced = size j })
    (force_sound _ _ _ state c.requires.sound _ _ c.keep.ensures.size
    (λ told. kept_forced _ kept.entries.items _ kept.forced (g.D.Disk.view c.args.self.now.disk).image _
    ((λ j. take (length (c.deref-2.ensures.value j) - kept.forced) (drop kept.forced (c.deref-2.ensures.value j))) ∙ piece_is kept.entries.items kept.forced c.requires.sound.steady.forced_le)
    (c.append.ensures.rest told)
    (c.keep.ensures.kept (redone (take kept.forced kept.entries.items) (in_place (g.D.Disk.view c.args.self.now.disk).image)) (c.requires.sound.kept told)))
    c.append.ensures.front c.append.ensures.rest
    (λ told. subst (λ (l : List Entry). IsLog kept.half l (g.D.Disk.view c.append.new.disk).image) c.deref.ensures.value (c.in_ok-append.ensures.log told)) c.in_ok-append.ensures.settled)

pub returns-clause-stages : goal.returns-clause-stages
returns-clause-stages g c = λ told.
    let kept = c.args.self.now.kept in
    let size : c.len-self.result ≡ length kept.entries.items = omega arith in
    let state : State = state_in kept in
    let old = (g.D.Disk.view c.args.self.now.disk).image in
    let new = (g.D.Disk.view c.append.new.disk).image in
    subst (λ (n : ℕ). KeepsLast (record { state = state; image = old }) (record { state = record state { forced = n }; image = new })) (sym size)
    (forced_last old new state (c.requires.sound.steady.on_disk told).whole.ended (c.append.ensures.rest told))
