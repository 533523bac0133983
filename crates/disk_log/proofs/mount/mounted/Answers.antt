use Rattle.std.proofs.Common.{inl, inr}
use Rattle.disk_log.proofs.Mounting.{log_left, any_err}
use Rattle.disk_log.proofs.mount.mounted.Goals as goal

pub returns-clause-sound : goal.returns-clause-sound
returns-clause-sound g c = c.recover.ensures.sound

pub returns-in_err-superblock-clause-left : goal.returns-in_err-superblock-clause-left
returns-in_err-superblock-clause-left g c = λ told. any_err c.from_residual.result (inl c.used_log.ensures.quiet)

pub returns-clause-left : goal.returns-clause-left
returns-clause-left g c = λ told.
    let mid = g.D.Disk.view c.used_log.new.disk in
    any_err c.recover.result
    (inr (log_left (g.D.Disk.view c.args.disk.now) mid _ _ _ (c.in_ok-superblock.ensures.log told) c.used_log.ensures.quiet.image c.in_ok-superblock.ensures.settled (c.recover.ensures.crash told)))
