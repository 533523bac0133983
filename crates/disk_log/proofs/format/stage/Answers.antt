use Rattle.std.proofs.Common.{◌≡◌, ◌∙◌, ℕ, List, ap, subst}
use Rattle.std.proofs.lemmas.Result.{on_ok_weaker}
use Rattle.base_types.specs.Crash.{ChangesBy}
use Rattle.base_types.specs.Image.{byte_at}
use Rattle.base_outside.proofs.Runs.{then_changes, quiet_changes}
use Rattle.disk_layout.specs.Places.{pages_end}
use Rattle.disk_log.specs.Format.{IsPrepared, SameAround}
use Rattle.disk_log.proofs.Formatting.{then_around, around_none, is_staged, changed_image}
use Rattle.disk_log.proofs.format.stage.Goals as goal

pub returns-in_err-prepare-clause-crash : goal.returns-in_err-prepare-clause-crash
returns-in_err-prepare-clause-crash g c =
    subst (λ (n : ℕ). ChangesBy (SameAround (pages_end n)) (g.D.Disk.view c.args.disk.now) (g.D.Disk.view c.prepare.new.disk)) c.pages_of.ensures c.prepare.ensures.crash

pub returns-in_err-prepare-clause-same : goal.returns-in_err-prepare-clause-same
returns-in_err-prepare-clause-same g c = λ told.
    subst (λ (n : ℕ). SameAround (pages_end n) (g.D.Disk.view c.args.disk.now).image (g.D.Disk.view c.prepare.new.disk).image) c.pages_of.ensures
    (changed_image _ _ _ c.requires.settled c.prepare.ensures.crash (g.met.D.Disk.reads_one c.prepare.new.disk told))

pub returns-clause-crash : goal.returns-clause-crash
returns-clause-crash g c =
    then_changes _ (then_around _)
    (subst (λ (n : ℕ). ChangesBy (SameAround (pages_end n)) (g.D.Disk.view c.args.disk.now) (g.D.Disk.view c.prepare.new.disk)) c.pages_of.ensures c.prepare.ensures.crash)
    (quiet_changes _ (around_none _) c.sync.ensures.quiet)

pub returns-clause-same : goal.returns-clause-same
returns-clause-same g c = λ told at out.
    ap (λ (l : List ℕ). byte_at l at) c.sync.ensures.quiet.image
    ∙ subst (λ (n : ℕ). SameAround (pages_end n) (g.D.Disk.view c.args.disk.now).image (g.D.Disk.view c.prepare.new.disk).image) c.pages_of.ensures
    (changed_image _ _ _ c.requires.settled c.prepare.ensures.crash (g.met.D.Disk.reads_one c.prepare.new.disk told)) at out

pub returns-clause-staged : goal.returns-clause-staged
returns-clause-staged g c = λ told.
    on_ok_weaker c.sync.result
    (λ settled. is_staged _ _ _ _ _ (subst (λ (n : ℕ). IsPrepared n (g.D.Disk.view c.prepare.new.disk).image) c.pages_of.ensures (c.in_ok-prepare.ensures.written told))
    (changed_image _ _ _ c.requires.settled c.prepare.ensures.crash (g.met.D.Disk.reads_one c.prepare.new.disk told)) (c.requires.front told) c.sync.ensures.quiet.image) c.sync.ensures.durable
