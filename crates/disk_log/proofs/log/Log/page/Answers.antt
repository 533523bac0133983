use Rattle.std.proofs.Common.{refl, rules, sym, ◌∙◌, ◌-◌, ℕ, List, ap, length, take, drop}
use Rattle.disk_log.specs.declared.put.Put.{Put}
use Rattle.disk_log.specs.Puts.{overlaid}
use Rattle.disk_log.proofs.Pieces.{piece_is}
use Rattle.disk_log.proofs.Under.{over_forced, page_read}
use Rattle.disk_log.proofs.Reading.{held_as, sound_read}
use Rattle.disk_log.proofs.log.Log.page.Goals as goal

pub fetch-requires-clause-pages : goal.fetch-requires-clause-pages
fetch-requires-clause-pages g c = λ told. held_as _ _ _ c.args.self.now.kept.forced _ (sym c.deref.ensures.value) (c.requires.sound.kept told)

pub returns-in_err-fetch-clause-reads : goal.returns-in_err-fetch-clause-reads
returns-in_err-fetch-clause-reads g c = record {
  sound = sound_read _ _ _ _ _ _ c.fetch.ensures.quiet c.fetch.ensures.size
      (λ told. held_as _ _ _ c.args.self.now.kept.forced _ c.deref.ensures.value (c.fetch.ensures.pages told)) c.requires.sound;
  state = refl;
  quiet = c.fetch.ensures.quiet;
  blamed = search rules;
}

pub returns-clause-reads : goal.returns-clause-reads
returns-clause-reads g c = record {
  sound = sound_read _ _ _ _ _ _ c.fetch.ensures.quiet c.fetch.ensures.size
      (λ told. held_as _ _ _ c.args.self.now.kept.forced _ c.deref.ensures.value (c.fetch.ensures.pages told)) c.requires.sound;
  state = refl;
  quiet = c.fetch.ensures.quiet;
  blamed = search rules;
}

pub returns-clause-bytes : goal.returns-clause-bytes
returns-clause-bytes g c = λ told.
    let kept = c.args.self.now.kept in
    let image = (g.D.Disk.view c.args.self.now.disk).image in
    c.copy_from_slice.ensures.after ∙ c.overlay.ensures ∙ ap (λ (puts : List Put). overlaid puts (λ (q : ℕ). c.redo.new.out) c.args.page) c.deref-3.ensures.value
    ∙ page_read kept.entries.items kept.puts.items image c.redo.new.out c.args.page
    (over_forced kept.entries.items _ _ kept.forced image c.fetch.new.out c.redo.new.out c.args.page
    (λ j. take kept.forced (c.deref.ensures.value j))
    ((λ j. take (length (c.deref-2.ensures.value j) - kept.forced) (drop kept.forced (c.deref-2.ensures.value j))) ∙ piece_is kept.entries.items kept.forced c.requires.sound.steady.forced_le)
    (c.in_ok-fetch.ensures.bytes told) c.redo.ensures)
