use Rattle.std.proofs.Common.{◌∙◌, ◌-◌, List, ℕ, ap, drop, length, sym, refl, take}
use Rattle.std.specs.Prelude.{◌==◌, if◌then◌else◌}
use Rattle.std.proofs.lemmas.Result.{on_ok_weaker}
use Rattle.disk_layout.specs.Places.{in_place}
use Rattle.disk_log.specs.declared.put.Put.{Put}
use Rattle.disk_log.specs.Log.{state_in}
use Rattle.disk_log.specs.Puts.{page_of}
use Rattle.disk_log.specs.State.{State, put_of}
use Rattle.disk_log.proofs.Calls.{sound_as, put_as, put_fault}
use Rattle.disk_log.proofs.Pieces.{piece_is}
use Rattle.disk_log.proofs.Putting.{page_under, page_put}
use Rattle.disk_log.proofs.Under.{over_forced}
use Rattle.disk_layout.specs.Pages.{redone}
use Rattle.disk_log.proofs.Reading.{held_as, sound_read}
use Rattle.disk_log.proofs.Keeping.{keeps_same, same_ended, put_same}
use Rattle.disk_log.proofs.log.Log.put.Goals as goal

pub fetch-requires-clause-pages : goal.fetch-requires-clause-pages
fetch-requires-clause-pages g c = λ told. held_as _ _ _ c.args.self.now.kept.forced _ (sym c.deref.ensures.value) (c.requires.sound.kept told)

pub returns-in_err-fetch-clause-keeps : goal.returns-in_err-fetch-clause-keeps
returns-in_err-fetch-clause-keeps g c =
    keeps_same _ _ _ _ (sound_read _ _ _ _ _ _ c.fetch.ensures.quiet c.fetch.ensures.size
    (λ told. held_as _ _ _ c.args.self.now.kept.forced _ c.deref.ensures.value (c.fetch.ensures.pages told)) c.requires.sound) (same_ended _ _ refl) c.fetch.ensures.quiet c.fetch.ensures.blamed.counted

pub returns-clause-keeps : goal.returns-clause-keeps
returns-clause-keeps g c =
    let kept = c.args.self.now.kept in
    let image = (g.D.Disk.view c.args.self.now.disk).image in
    let put : Put = put_of c.args.tx.now.slot c.args.page c.redo.new.out c.copy_from_slice.new.self in
    let read = sound_read _ _ _ _ _ _ c.fetch.ensures.quiet c.fetch.ensures.size
    (λ told. held_as _ _ _ c.args.self.now.kept.forced _ c.deref.ensures.value (c.fetch.ensures.pages told)) c.requires.sound in
    keeps_same _ _ _ _
    (sound_as _ _ _ _ _ _ c.put.ensures.pages refl
    (put_as c.put.result _ _ _ (state_in kept) _ put read c.requires.may c.requires.page
    (λ told. page_under kept.entries.items _ c.redo.new.out c.args.page
    (over_forced kept.entries.items _ _ kept.forced image c.fetch.new.out c.redo.new.out c.args.page
    (λ j. take kept.forced (c.deref.ensures.value j))
    ((λ j. take (length (c.deref-2.ensures.value j) - kept.forced) (drop kept.forced (c.deref-2.ensures.value j))) ∙ piece_is kept.entries.items kept.forced c.requires.sound.steady.forced_le)
    (c.in_ok-fetch.ensures.bytes told) c.redo.ensures
    ∙ ap (λ (l : List ℕ). redone kept.entries.items (in_place l) c.args.page) (sym c.fetch.ensures.quiet.image)))
    c.put.ensures.ok c.put.ensures.err))
    (put_same c.put.result (state_in kept) _ put c.put.ensures.ok c.put.ensures.err) c.fetch.ensures.quiet c.fetch.ensures.blamed.counted

pub returns-clause-pages : goal.returns-clause-pages
returns-clause-pages g c =
    let kept = c.args.self.now.kept in
    let put : Put = put_of c.args.tx.now.slot c.args.page c.redo.new.out c.copy_from_slice.new.self in
    on_ok_weaker c.put.result (λ is image p.
    ap (λ (state : State). page_of state.entries state.puts image p) is ∙ page_put kept.entries.items put kept.puts.items image p
    ∙ ap (λ (new : List ℕ). if c.args.page == p then new else page_of kept.entries.items kept.puts.items image p) c.copy_from_slice.ensures.after) c.put.ensures.ok

pub returns-clause-only : goal.returns-clause-only
returns-clause-only g c = put_fault c.put.result _ _ c.fetch.ensures.quiet c.put.ensures.only
