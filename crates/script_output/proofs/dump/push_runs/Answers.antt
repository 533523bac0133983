use Rattle.std.proofs.Common.{get_or}
use Rattle.std.proofs.lemmas.Bool.{ne_eqb}
use Rattle.script_output.proofs.Runs.{run_put}
use Rattle.script_output.proofs.dump.push_runs.Goals as goal

pub loop-at-preserved : goal.loop-at-preserved
loop-at-preserved c =
    let bytes = c.args.bytes.now in let at = c.loop-at.at in
    run_put bytes c.before_zero-run.result.now c.push_run.new.out c.loop-at.out _ at c.loop-at-test.true (ne_eqb (get_or bytes at 0) 0 c.if-bytes-at-eq0.false)
    c.before_zero-run.ensures.value c.in_ok-push_run.ensures c.loop-at.invariant
