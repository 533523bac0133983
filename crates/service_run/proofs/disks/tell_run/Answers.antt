use Rattle.std.proofs.Common.{◌∙◌}
use Rattle.service_run.proofs.Ran.{ran_whole, ran_part}
use Rattle.service_run.proofs.disks.tell_run.Goals as goal
use Rattle.service_run.proofs.disks.tell_run.Goals.{in-Ok-write_all, in-Err}

pub returns : goal.returns
returns g c =
    elim c.match-write_all.branch [
      | in-Ok-write_all w ↦
          rw w.status-is (record {
            told = ran_whole _ _ _ c.args.play c.args.script c.args.course
                c.as_slice.result.now (c.as_slice.ensures ∙ c.in-Ok.ensures) w.in-Ok-write_all.ensures.written;
          })
      | in-Err w ↦
          rw w.status-is (record {
            told = ran_part _ _ _ c.args.play c.args.script c.args.course
                c.as_slice.result.now (c.as_slice.ensures ∙ c.in-Ok.ensures) w.in-Err.ensures.part
                w.in-Err.ensures.cause;
          })
    ]
