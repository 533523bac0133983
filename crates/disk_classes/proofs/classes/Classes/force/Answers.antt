use Rattle.std.proofs.Common.{◌∙◌, ap}
use Rattle.disk_log.specs.State.{State}
use Rattle.std.proofs.lemmas.Result.{err_from_is_err_and}
use Rattle.base_outside.proofs.Runs.{quiet}
use Rattle.disk_log.specs.Log.{state_of}
use Rattle.disk_classes.proofs.Committed.{rose_then}
use Rattle.disk_classes.proofs.Forced.{crash_forced, forced_first, forced_stage}
use Rattle.disk_classes.proofs.Sound.{sound_forced, none_last}
use Rattle.disk_classes.proofs.classes.Classes.force.Goals as goal

pub returns-in_err-count-clause-memory : goal.returns-in_err-count-clause-memory
returns-in_err-count-clause-memory g c =
    let p = err_from_is_err_and c.from_residual.result c.from_residual.ensures.1 in
    rw p.1 (λ is. (c.commit_ended.ensures.sound, c.in_err-count.ensures.err))

pub returns-in_err-count-clause-crash : goal.returns-in_err-count-clause-crash
returns-in_err-count-clause-crash g c = λ told. quiet _ c.commit_ended.ensures.quiet

pub returns-in_err-force-clause-crash : goal.returns-in_err-force-clause-crash
returns-in_err-force-clause-crash g c = λ told.
    crash_forced _ _ c.args.self.now c.commit_ended.new.self c.in_ok-count.ensures.ok.0 c.in_ok-count.ensures.ok.1 c.commit_ended.ensures.quiet _ told (c.force.ensures.crash told)

pub returns-in_err-force-clause-only : goal.returns-in_err-force-clause-only
returns-in_err-force-clause-only g c =
    let p = err_from_is_err_and c.from_residual-in_err-force.result c.from_residual-in_err-force.ensures.1 in
    rw (p.1, p.2, c.in_err-force.ensures.only)
    (rose_then _ _ _ c.commit_ended.ensures.counted c.in_err-force.ensures.blamed.cause, c.in_err-force.ensures.blamed.last)

pub returns-in_err-force-clause-memory : goal.returns-in_err-force-clause-memory
returns-in_err-force-clause-memory g c =
    let p = err_from_is_err_and c.from_residual-in_err-force.result c.from_residual-in_err-force.ensures.1 in
    rw (p.1, p.2, c.in_err-force.ensures.only) (λ is. absurd (cc))

pub returns-clause-sound : goal.returns-clause-sound
returns-clause-sound g c = sound_forced _ _ c.commit_ended.new.self c.force.new.self c.commit_ended.ensures.sound c.in_ok-force.ensures.sound c.in_ok-force.ensures.state

pub returns-clause-ok : goal.returns-clause-ok
returns-clause-ok g c = (
  c.in_ok-count.ensures.ok.0,
  forced_first _ _ c.args.self.now c.commit_ended.new.self c.in_ok-count.ensures.ok.0 c.in_ok-count.ensures.ok.1 c.commit_ended.ensures.quiet c.force.new.self c.force.ensures.pages,
  c.in_ok-count.ensures.ok.2,
  c.in_ok-count.ensures.ok.3,
)

pub returns-clause-none : goal.returns-clause-none
returns-clause-none g c = none_last (state_of c.commit_ended.new.self.log) (state_of c.force.new.self) c.in_ok-force.ensures.state

pub returns-clause-stage : goal.returns-clause-stage
returns-clause-stage g c = λ told.
    forced_stage _ _ c.args.self.now c.commit_ended.new.self c.in_ok-count.ensures.ok.0 c.in_ok-count.ensures.ok.1 c.commit_ended.ensures.quiet c.force.new.self c.force.ensures.pages
    c.commit_ended.ensures.sound.idle c.in_ok-force.ensures.stages told

pub returns-clause-crash : goal.returns-clause-crash
returns-clause-crash g c = λ told.
    crash_forced _ _ c.args.self.now c.commit_ended.new.self c.in_ok-count.ensures.ok.0 c.in_ok-count.ensures.ok.1 c.commit_ended.ensures.quiet _ told (c.force.ensures.crash told)

pub returns-clause-superblock : goal.returns-clause-superblock
returns-clause-superblock g c = ap (λ (s : State). s.superblock) c.in_ok-force.ensures.state ∙ c.in_ok-count.ensures.ok.1.superblock

pub returns-clause-half : goal.returns-clause-half
returns-clause-half g c = ap (λ (s : State). s.half) c.in_ok-force.ensures.state ∙ c.in_ok-count.ensures.ok.1.half
