use Rattle.std.proofs.Common.{ap, subst, sym, ◌∙◌}
use Rattle.script_reader.specs.Scripts.{script_of, Refuses}
use Rattle.service_run.proofs.Readings.{was_read, cause_read, never_input}
use Rattle.service_run.proofs.script.read.Goals as goal

pub returns-in-Ok-read_script-clause-read : goal.returns-in-Ok-read_script-clause-read
returns-in-Ok-read_script-clause-read g c =
    was_read _ _ c.args.play c.as_slice.result.now _ c.requires.reads (λ told. c.as_slice.ensures.value ∙ c.in-Ok.ensures.bytes told)
    (ap (λ disks. script_of c.as_slice.result.now disks) c.requires.disks ∙ c.in-Ok-read_script.ensures.value)

pub returns : goal.returns
returns g c = record {
  sound = tt;
  goes = tt;
  read = tt;
  cause =
      cause_read _ _ c.args.play c.as_slice.result.now c.in-Err.why c.not_read.result c.requires.reads (λ told. c.as_slice.ensures.value ∙ c.in-Ok.ensures.bytes told)
      (subst (λ disks. Refuses c.in-Err.why (script_of c.as_slice.result.now disks)) (sym c.requires.disks) c.in-Err.ensures.value) c.not_read.ensures;
  input = λ h. absurd (never_input c.in-Err.why c.not_read.result c.not_read.ensures h);
}
