use Rattle.std.proofs.Common.{refl, rules, sym, ◌∙◌, ◌-◌, List, ℕ, length, take, drop, ap, get_or, ◌≡◌, arith}
use Rattle.disk_log.proofs.Pieces.{piece_is}
use Rattle.disk_log.proofs.Putting.{settled_read}
use Rattle.disk_log.proofs.Reading.{held_as, sound_read}
use Rattle.disk_log.specs.Puts.{settled_byte}
use Rattle.disk_log.proofs.Settled.{settled_covers}
use Rattle.disk_log.proofs.log.Log.settled.Goals as goal

pub fetch-requires-clause-pages : goal.fetch-requires-clause-pages
fetch-requires-clause-pages g c = λ told. held_as _ _ _ c.args.self.now.kept.forced _ (sym c.deref.ensures.value) (c.requires.sound.kept told)

pub returns-in_err-fetch-clause-reads : goal.returns-in_err-fetch-clause-reads
returns-in_err-fetch-clause-reads g c = record {
  sound = sound_read _ _ _ _ _ _ c.fetch.ensures.quiet c.fetch.ensures.size
      (λ told. held_as _ _ _ c.args.self.now.kept.forced _ c.deref.ensures.value (c.fetch.ensures.pages told)) c.requires.sound;
  state = refl;
  quiet = c.fetch.ensures.quiet;
  blamed = search rules;
}

pub returns-clause-reads : goal.returns-clause-reads
returns-clause-reads g c = record {
  sound = sound_read _ _ _ _ _ _ c.fetch.ensures.quiet c.fetch.ensures.size
      (λ told. held_as _ _ _ c.args.self.now.kept.forced _ c.deref.ensures.value (c.fetch.ensures.pages told)) c.requires.sound;
  state = refl;
  quiet = c.fetch.ensures.quiet;
  blamed = search rules;
}

pub returns-clause-bytes : goal.returns-clause-bytes
returns-clause-bytes g c = λ told k lt.
    let kept = c.args.self.now.kept in
    let image = (g.D.Disk.view c.args.self.now.disk).image in
    ap (λ (l : List ℕ). get_or l k 0) c.copy_from_slice.ensures.after
    ∙ settled_read kept.entries.items _ _ kept.forced image c.fetch.new.out c.or_all.new.out c.args.page k
    (λ j. take kept.forced (c.deref.ensures.value j))
    ((λ j. take (length (c.deref-2.ensures.value j) - kept.forced) (drop kept.forced (c.deref-2.ensures.value j))) ∙ piece_is kept.entries.items kept.forced c.requires.sound.steady.forced_le)
    (c.in_ok-fetch.ensures.bytes told) (c.or_all.ensures k lt)

pub returns-clause-covers : goal.returns-clause-covers
returns-clause-covers g c = λ told stage k lt.
    let kept = c.args.self.now.kept in
    let image = (g.D.Disk.view c.args.self.now.disk).image in
    let read : get_or c.copy_from_slice.new.self k 0 ≡ settled_byte kept.entries.items kept.forced image c.args.page k = returns-clause-bytes g c told k lt in
    let over = settled_covers kept.entries.items kept.forced stage image c.args.page k in
    omega (arith, read, over)
